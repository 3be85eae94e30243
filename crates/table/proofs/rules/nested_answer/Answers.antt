-- `table::nested_answer` meets its contract: one answer after the other.
use Rattle.std.proofs.Common.{sym}
use Rattle.table.specs.Kinds.{nested_answer}
use Rattle.table.proofs.AnswerLaws.{question_returns, first_refuses, first_accepts}
use Rattle.table.proofs.rules.nested_answer.Goals as goal

pub returns-in_err-bad_window_answer : goal.returns-in_err-bad_window_answer
unfolding nested_answer
returns-in_err-bad_window_answer c =
    question_returns _ _ _ c.from_residual.ensures.1 (first_refuses _ _ _ c.in_err-bad_window_answer.ensures)

-- past the first `?` no window is bad
pub returns-in_err-own : goal.returns-in_err-own
unfolding nested_answer
returns-in_err-own c =
    question_returns _ _ _ c.from_residual-in_err-own.ensures.1 (first_accepts _ _ _ (sym c.in_ok-bad_window_answer.ensures) (first_refuses _ _ _ (sym c.in_err-own.was)))

-- past the second the own rule refuses nothing
pub returns : goal.returns
unfolding nested_answer
returns c =
    first_accepts _ _ _ (sym c.in_ok-bad_window_answer.ensures) (first_accepts _ _ _ c.in_ok-own.was c.nesting_answer.ensures)

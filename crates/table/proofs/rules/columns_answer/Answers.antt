-- `table::columns_answer` meets its contract: one answer after the other.
use Rattle.std.proofs.Common.{sym}
use Rattle.table.specs.Kinds.{windows_answer}
use Rattle.table.proofs.AnswerLaws.{question_returns, first_refuses, first_accepts}
use Rattle.table.proofs.rules.columns_answer.Goals as goal

pub returns-in_err-bad_window_answer : goal.returns-in_err-bad_window_answer
unfolding windows_answer
returns-in_err-bad_window_answer c =
    question_returns _ _ _ c.from_residual.ensures.1 (first_refuses _ _ _ c.in_err-bad_window_answer.ensures)

pub returns : goal.returns
unfolding windows_answer
returns c =
    first_accepts _ _ _ (sym c.in_ok-bad_window_answer.ensures) c.kind_answer.ensures

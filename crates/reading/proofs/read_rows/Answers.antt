-- `reading::read_rows` meets its contract.
use Rattle.std.proofs.Common.{sym}
use Rattle.table.proofs.AnswerLaws.{question_returns, answered_ok, answered_err}
use Rattle.reading.specs.AnyKind.{rows_result}
use Rattle.reading.proofs.read_rows.Goals as goal

pub returns-in_err-head : goal.returns-in_err-head
unfolding rows_result
returns-in_err-head c =
    question_returns _ _ _ c.from_residual.ensures.1 (answered_err _ _ _ c.in_err-head.ensures.answer)

pub table_in-requires : goal.table_in-requires
table_in-requires c =
    record { header_of = c.in_ok-head.ensures.header; file_value = sym c.in_ok-head.ensures.answer }

pub returns : goal.returns
unfolding rows_result
returns c =
    answered_ok _ _ _ (sym c.in_ok-head.ensures.answer) c.table_in.ensures

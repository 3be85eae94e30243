-- `reading::read` meets its contract: the refusal, or the table where nothing is refused.
use Rattle.std.proofs.Common.{sym}
use Rattle.table.specs.Reading.{read_result}
use Rattle.table.proofs.AnswerLaws.{question_returns, answered_ok, answered_err}
use Rattle.reading.proofs.ReadLaws.{read_head, result_reply}
use Rattle.reading.proofs.read.Goals as goal

pub returns-in_err-header : goal.returns-in_err-header
unfolding read_result
returns-in_err-header c =
    let reply = question_returns _ _ _ c.from_residual.ensures.1 (answered_err _ _ _ c.in_err-header.ensures.answer) in
    record { reply = reply; as_reply = result_reply _ _ reply }

pub table_in-requires : goal.table_in-requires
table_in-requires c =
    record { header_of = c.in_ok-header.ensures.header; file_value = read_head _ (sym c.in_ok-header.ensures.answer) }

pub returns : goal.returns
unfolding read_result
returns c =
    let reply = answered_ok _ _ _ (sym c.in_ok-header.ensures.answer) c.table_in.ensures in
    record { reply = reply; as_reply = result_reply _ _ reply }

-- `weighted_reading::read` meets its contract: the refusal that needs no row, else that of the rules, else the weighted table.
use Rattle.std.proofs.Common.{sym, ap, ◌∙◌}
use Rattle.table.specs.Tables.{table_of}
use Rattle.table.proofs.AnswerLaws.{question_returns, answered_ok, answered_err, first_refuses, first_accepts}
use Rattle.reading.proofs.ReadLaws.{front_few}
use Rattle.weighted_file.specs.Weights.{weighted_width, weighted_of, weighted_in, weighted_rules, weighted_answer, weighted_read_result}
use Rattle.weighted_reading.proofs.ReadLaws.{rows_few, result_reply}
use Rattle.weighted_reading.proofs.read.Goals as goal

pub returns-in_err-header : goal.returns-in_err-header
unfolding weighted_read_result weighted_answer
returns-in_err-header c =
    let reply = question_returns _ _ _ c.from_residual.ensures.1 (answered_err _ _ _ (first_refuses _ _ _ c.in_err-header.ensures.answer)) in
    record { reply = reply; as_reply = result_reply _ _ reply }

pub weighted_in-weighted-requires : goal.weighted_in-weighted-requires
weighted_in-weighted-requires c =
    let header = c.in_ok-header.ensures.header in
    let few = rows_few _ _ header.0 (sym c.in_ok-header.ensures.answer) in
    record { header_of = header; count_le_max_tasks = few.0; count_bound = few.1 }

pub rules_answer-requires : goal.rules_answer-requires
unfolding weighted_in weighted_of table_of
rules_answer-requires c =
    rw c.weighted_in-weighted.ensures (front_few weighted_width _ (sym c.in_ok-header.ensures.answer)).0

pub returns-in_err-rules_answer : goal.returns-in_err-rules_answer
unfolding weighted_read_result weighted_answer
returns-in_err-rules_answer c =
    let bad = c.in_err-rules_answer.ensures ∙ ap weighted_rules c.weighted_in-weighted.ensures in
    let reply =
    question_returns _ _ _ c.from_residual-in_err-rules_answer.ensures.1
    (answered_err _ _ _ (first_accepts _ _ _ (sym c.in_ok-header.ensures.answer) bad)) in
    record { reply = reply; as_reply = result_reply _ _ reply }

pub returns : goal.returns
unfolding weighted_read_result weighted_answer
returns c =
    let good = c.in_ok-rules_answer.ensures ∙ ap weighted_rules c.weighted_in-weighted.ensures in
    let reply = answered_ok _ _ _ (sym (first_accepts _ _ _ (sym c.in_ok-header.ensures.answer) good)) c.weighted_in-weighted.ensures in
    record { reply = reply; as_reply = result_reply _ _ reply }

-- `reading::read_any_kind` meets its contract: the header's refusal, else the table that was made and 6 from it.
use Rattle.std.proofs.Common.{ap, ◌∙◌}
use Rattle.table.specs.Tables.{table_of}
use Rattle.table.specs.Reading.{table_in}
use Rattle.table.proofs.AnswerLaws.{question_returns, answered_ok-known}
use Rattle.reading.specs.AnyKind.{any_kind_told, rows_result}
use Rattle.reading.proofs.ReadLaws.{head_few}
use Rattle.reading.proofs.AnyKindLaws.{any_kind_refusal, any_kind_made, any_kind_tells}
use Rattle.reading.proofs.read_any_kind.Goals as goal

pub returns-in_err-table : goal.returns-in_err-table
returns-in_err-table c =
    let reply = question_returns _ _ _ c.from_residual.ensures.1 (any_kind_refusal _ _ c.in_err-table.ensures) in
    record { reply = reply; answer = ap any_kind_told reply ∙ any_kind_tells _ }

pub bad_window_answer-windows-requires : goal.bad_window_answer-windows-requires
unfolding rows_result table_in table_of
bad_window_answer-windows-requires c =
    let made = answered_ok-known _ _ _ c.in_ok-table.ensures in
    rw made.1 (head_few _ made.0).0

pub returns : goal.returns
returns c =
    let reply = any_kind_made _ _ _ c.in_ok-table.ensures c.bad_window_answer-windows.ensures in
    record { reply = reply; answer = ap any_kind_told reply ∙ any_kind_tells _ }

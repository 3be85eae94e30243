-- `moving::shift_into` meets its contract: each return knows the tests that led there, in their order, and a refusal touches no byte.
use Rattle.std.proofs.Common.{◌∙◌, ap, refl, arith}
use Rattle.base.specs.Lent.{written_front}
use Rattle.std.specs.Prelude.{Ok}
use Rattle.table.specs.declared.Table.{Table}
use Rattle.table.specs.declared.WriteRefusal.TheVariants.{Rule, Room}
use Rattle.table.specs.Answers.{written_of}
use Rattle.table.specs.Layout.{file_length}
use Rattle.table.specs.Reading.{read_result, table_in}
use Rattle.table.specs.Writing.{file_of}
use Rattle.table.specs.Moving.{moved_over}
use Rattle.table.proofs.AnswerLaws.{question_replies, answered_ok-known}
use Rattle.table.proofs.ContentLaws.{refusal_keeps, accepted_leaves}
use Rattle.table.proofs.FileLaws.{legal_count}
use Rattle.table.proofs.RoundTrip.{read_legal, read_length, table_in-count}
use Rattle.table.proofs.MovedTables.{moved_header}
use Rattle.moving.proofs.MoveLaws.{as_passed, read_refused, frame_refused, moved_file, room-refused, nothing_refused}
use Rattle.moving.proofs.shift_into.Goals as goal

pub returns-in_err-table : goal.returns-in_err-table
unfolding moved_over
returns-in_err-table c =
    let e = read_refused _ _ _ _ c.in_err-table.ensures.reply in
    record { reply = question_replies _ _ _ c.from_residual.ensures.1 e; content = refusal_keeps _ (Rule _) _ _ e }

pub moved_table-requires : goal.moved_table-requires
unfolding read_result
moved_table-requires c =
    let read = answered_ok-known _ _ _ c.in_ok-table.ensures.reply in
    rw read.1 (legal_count (read_legal _ read.0)).1

pub returns-in_err-moved : goal.returns-in_err-moved
unfolding moved_over
returns-in_err-moved c =
    let told = rw (as_passed c.ranges.frames) at c.in_err-moved.ensures in
    let e = frame_refused _ _ _ _ _ c.in_ok-table.ensures.reply told in
    record { reply = question_replies _ _ _ c.from_residual-in_err-moved.ensures.1 e; content = refusal_keeps _ c.in_err-moved.field-0.0 _ _ e }

pub returns-then-out-file : goal.returns-then-out-file
unfolding moved_over
returns-then-out-file c =
    let told = rw (as_passed c.ranges.frames) at c.in_ok-moved.ensures in
    let file = moved_file _ _ _ _ c.in_ok-table.ensures.reply told in
    let e = room-refused _ _ _ file _ c.if-out-file.true in
    record { reply = e; content = refusal_keeps _ Room _ _ e }

pub put_table-requires : goal.put_table-requires
put_table-requires c =
    let s = c.args.file.now in
    let told = rw (as_passed c.ranges.frames) at c.in_ok-moved.ensures in
    let file = moved_file _ _ _ _ c.in_ok-table.ensures.reply told in
    let count = ap (λ (t : Table). t.count) file.table ∙ (moved_header _ (table_in s)).0 in
    let few = (legal_count (read_legal s file.accepted)).1 in
    record { count_le_max_tasks = omega (arith, count, few); count_in_bounds = omega (arith, read_length s file.accepted, ap file_length (count ∙ table_in-count s)) }

pub returns : goal.returns
unfolding moved_over
returns c =
    let told = rw (as_passed c.ranges.frames) at c.in_ok-moved.ensures in
    let file = moved_file _ _ _ _ c.in_ok-table.ensures.reply told in
    let e = nothing_refused _ _ _ file _ c.if-out-file.false in
    record {
      reply = e;
      content = accepted_leaves _ (written_of (Ok _)) _ _ _ e refl (c.put_table.ensures ∙ ap (λ (t : Table). written_front (file_of t) c.args.out.now) file.table);
    }

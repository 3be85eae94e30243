-- `planner::plan_counted` meets its contract: reading's refusals, of which 7 is found from the order of the table, end the call and touch no list; what the
-- table gets is what the file gets.
use Prim.Native.Nat.{ℕ}
use mathlib.Core.Path.{◌≡◌, sym, ap, subst⁻¹, ◌∙◌}
use mathlib.Core.List.{List}
use mathlib.Core.Bool.{false}
use lib.Dec.{eqb}
use Rattle.table.specs.declared.Table.{Table}
use Rattle.std.specs.Prelude.{Ok, Err}
use Rattle.std.specs.Result.{IsErr}
use Rattle.table.specs.Answers.{Answer, Accepted, refusal_number, refusal_place, number_of, place_of, is_accepted}
use Rattle.table.specs.declared.Refusal.{Refusal}
use Rattle.table.specs.Tables.{no_table}
use Rattle.table.specs.Kinds.{table_windows_answer}
use Rattle.table.specs.Reading.{one_each, plain_read, table_in, read_answer, read_reply}
use Rattle.table.specs.Writing.{Legal}
use Rattle.table.proofs.AnswerLaws.{refused_number}
use Rattle.table.proofs.RoundTrip.{read_legal}
use Rattle.reading.specs.declared.AnyKind.{AnyKind}
use Rattle.reading.specs.AnyKind.{any_kind_answer, any_kind_reply}
use Rattle.orders.specs.Keys.{HasKeys}
use Rattle.reading.proofs.AnyKindLaws.{any_kind_in, any_kind_out, any_kind_refused, any_kind_table, any_kind_served, any_kind_neither}
use Rattle.plans.specs.declared.Planned.{Planned}
use Rattle.plans.specs.Planning.{LentLists, plan_declined, plan_table, plan_reply, lists_after, lists_left}
use Rattle.plans.proofs.ReplyLaws.{table_kept, file_refused, file_accepted}
use Rattle.planner.specs.Refusals.{planned_of}
use Rattle.planner.specs.declared.Counted.{Counted}
use Rattle.std.proofs.Common.{rules}
use Rattle.planner.proofs.plan_counted.Goals as goal

-- the table beside a refusal is 0 throughout, and beside an answer that is none that of the file
table_refused : (s : List ℕ) → is_accepted (read_answer s) ≡ false → no_table ≡ (read_reply s).table
unfolding read_reply
table_refused s e = rw e

table_accepted : (s : List ℕ) → read_answer s ≡ Accepted → table_in s ≡ (read_reply s).table
unfolding read_reply
table_accepted s e = rw e

-- what a refusal of reading gives
refusal_gives : (launch : ℕ) (file : List ℕ) (lists : LentLists) (refusal : Refusal) (r : Counted) → Err refusal ≡ read_answer file
    → (r.count ≡ 0) × (r.reply ≡ plan_declined (refusal_number refusal) (refusal_place refusal))
    → (r.count ≡ (read_reply file).table.count)
    × ((r.reply ≡ plan_reply launch (plain_read file) lists) × (lists ≡ lists_left launch (plain_read file) r.reply lists))
unfolding no_table
refusal_gives launch file lists refusal r same is =
    let bad = ap is_accepted (sym same) in
    let says = is.1 ∙ ap (λ (a : Answer). plan_declined (number_of a) (place_of a)) same in (
      is.0 ∙ ap (λ (t : Table). t.count) (table_refused file bad),
      (
        says ∙ sym (file_refused launch (plain_read file) lists bad),
        table_kept launch one_each (table_in file) r.reply lists (ap (λ (p : Planned). eqb p.number 0) says ∙ refused_number (read_answer file) bad),
      ),
    )

-- where the answer before the kind is looked at is a refusal, it is that of the file
refused_before : (file : List ℕ) (refusal : Refusal) → any_kind_answer file ≡ Err refusal → Err refusal ≡ read_answer file
refused_before file refusal is = sym is ∙ any_kind_refused file (ap is_accepted is)

-- where that answer is none, the table is that of the file
served : (file : List ℕ) (read : AnyKind) → Ok read ≡ any_kind_reply file → read.windows ≡ Accepted
    → (any_kind_answer file ≡ Accepted) × (read.table ≡ table_in file)
served file read e good = let known = any_kind_in read file e in (sym known.0 ∙ good, known.1)

-- and is ordered by keys
has_keys : (file : List ℕ) (read : AnyKind) → Ok read ≡ any_kind_reply file → read.windows ≡ Accepted → HasKeys read.table
has_keys file read e good =
    let is = served file read e good in
    let known = any_kind_table file is.0 in
    subst⁻¹ HasKeys is.1 (record { few = known.few; windows = known.good; within_is = known.named })

-- a refused answer is a refusal
refused_is : (answer : Answer) → is_accepted answer ≡ false → IsErr answer
refused_is (Ok accepted) e = search rules
refused_is (Err refusal) e = search rules

pub returns-in-Err : goal.returns-in-Err
returns-in-Err c =
    let lent : LentLists = record { marks = c.args.marks.now; starts = c.args.starts.now; ends = c.args.ends.now; tasks = c.args.tasks.now } in
    let file = c.args.file.now in
    let same = refused_before file c.in-Err.refusal (any_kind_out c.in-Err.refusal file c.in-Err.ensures.reply) in
    let gives = refusal_gives c.args.launch file lent c.in-Err.refusal c.refused.result same c.refused.ensures in
    record { count_value = gives.0; reply_value = gives.1.0; tasks_value = gives.1.1 }

pub returns-in-Err-windows : goal.returns-in-Err-windows
returns-in-Err-windows c =
    let lent : LentLists = record { marks = c.args.marks.now; starts = c.args.starts.now; ends = c.args.ends.now; tasks = c.args.tasks.now } in
    let file = c.args.file.now in
    let bad = sym (any_kind_in c.in-Ok.read file c.in-Ok.ensures.reply).0 ∙ c.in-Err-windows.is in
    let same = refused_before file c.in-Err-windows.refusal bad in
    let gives = refusal_gives c.args.launch file lent c.in-Err-windows.refusal c.refused-in-Err-windows.result same c.refused-in-Err-windows.ensures in
    record { count_value = gives.0; reply_value = gives.1.0; tasks_value = gives.1.1 }

pub keys_of_kind-requires : goal.keys_of_kind-requires
keys_of_kind-requires c = has_keys c.args.file.now c.in-Ok.read c.in-Ok.ensures.reply c.in_default.is

pub window_answer-requires : goal.window_answer-requires
window_answer-requires c = (has_keys c.args.file.now c.in-Ok.read c.in-Ok.ensures.reply c.in_default.is).few

pub unwrap_err-requires : goal.unwrap_err-requires
unwrap_err-requires c =
    let read = served c.args.file.now c.in-Ok.read c.in-Ok.ensures.reply c.in_default.is in
    let neither = any_kind_neither c.args.file.now read.0 (rw read.1 at c.in_default-keys_of_kind.ensures.0) in
    refused_is c.window_answer.result (ap is_accepted (c.window_answer.ensures ∙ (ap table_windows_answer read.1 ∙ neither.0)) ∙ neither.1)

pub returns-in_default-keys_of_kind : goal.returns-in_default-keys_of_kind
returns-in_default-keys_of_kind c =
    let lent : LentLists = record { marks = c.args.marks.now; starts = c.args.starts.now; ends = c.args.ends.now; tasks = c.args.tasks.now } in
    let read = served c.args.file.now c.in-Ok.read c.in-Ok.ensures.reply c.in_default.is in
    let neither = any_kind_neither c.args.file.now read.0 (rw read.1 at c.in_default-keys_of_kind.ensures.0) in
    let same = sym c.unwrap_err.ensures ∙ (c.window_answer.ensures ∙ (ap table_windows_answer read.1 ∙ neither.0)) in
    let gives =
    refusal_gives c.args.launch c.args.file.now lent c.unwrap_err.result c.refused-in_default-keys_of_kind.result same
    c.refused-in_default-keys_of_kind.ensures in
    record { count_value = gives.0; reply_value = gives.1.0; tasks_value = gives.1.1 }

pub plan_table-planned-requires : goal.plan_table-planned-requires
plan_table-planned-requires c =
    let file = c.args.file.now in
    let read = served file c.in-Ok.read c.in-Ok.ensures.reply c.in_default.is in
    let accepted = any_kind_served file read.0 (rw read.1 at c.in-Ok-keys_of_kind.ensures.planned_is) in
    record { legal = subst⁻¹ Legal read.1 (read_legal file accepted); kind_found = c.in-Ok-keys_of_kind.ensures }

pub returns : goal.returns
returns c =
    let lent : LentLists = record { marks = c.args.marks.now; starts = c.args.starts.now; ends = c.args.ends.now; tasks = c.args.tasks.now } in
    let file = c.args.file.now in
    let read = served file c.in-Ok.read c.in-Ok.ensures.reply c.in_default.is in
    let accepted = any_kind_served file read.0 (rw read.1 at c.in-Ok-keys_of_kind.ensures.planned_is) in
    record {
      count_value = ap (λ (t : Table). t.count) (read.1 ∙ table_accepted file accepted);
      reply_value = c.reply.ensures
          ∙ (c.plan_table-planned.ensures.value
          ∙ (ap (λ (t : Table). plan_table c.args.launch one_each t lent) read.1 ∙ sym (file_accepted c.args.launch (plain_read file) _ accepted)));
      tasks_value = c.plan_table-planned.ensures.tasks_value
          ∙ (ap (λ (t : Table). lists_after c.args.launch one_each t (planned_of c.plan_table-planned.result) lent) read.1
          ∙ ap (λ (p : Planned). lists_after c.args.launch one_each (table_in file) p lent) (sym c.reply.ensures));
    }

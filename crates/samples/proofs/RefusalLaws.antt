-- The refusals: the law that turns the test of a call into what its row says, and laws for the calls that are too large to compute.
use Prim.Native.Nat.{ℕ, zero, suc, ◌+◌, ◌≤◌}
use mathlib.Core.Path.{◌≡◌, refl, ap, ◌∙◌}
use mathlib.Core.Bool.{true}
use native.Mathlib.Omega.{arith}
use lib.Dec.{eqb}
use lib.ListN.{length}
use borrow.Author.Tests.{eqb-true, le-ltb, lt-ltb, le-leb}
use Rattle.base.specs.Lent.{written_front}
use Rattle.base.specs.Limits.{max_runs}
use Rattle.base.specs.Members.{All, every_member}
use Rattle.base.specs.Places.{places_from, places}
use Rattle.base.proofs.MemberLaws.{all_append}
use Rattle.table.specs.declared.Task.{Task}
use Rattle.table.specs.declared.Table.{Table}
use Rattle.table.specs.declared.Written.{Written}
use Rattle.table.specs.Answers.{Accepted, number_of, place_of}
use Rattle.table.specs.Reading.{Reading, plain_read, read_reply}
use Rattle.table.specs.Tables.{table_of}
use Rattle.table.specs.Writing.{file_of, write_reply}
use Rattle.table.proofs.TableLaws.{table_of-canonical}
use Rattle.table.proofs.FileLaws.{accepted_legal}
use Rattle.table.proofs.RoundTrip.{written_read}
use Rattle.table.specs.TableSamples.{task, p8_table, p8_file}
use Rattle.schedule.specs.Runs.{too_many}
use Rattle.schedule.specs.Judging.{none_empty, follow_from, each_follows}
use Rattle.schedule.specs.RunCheck as checked
use Rattle.schedule.specs.RunCheck.{check_answer, runs_number, runs_place}
use Rattle.schedule.specs.BusyCount.{shared, busy_sum, busy_reply}
use Rattle.schedule.specs.Queries.{touching, stretch_of}
use Rattle.schedule.proofs.CheckLaws.{ordered_accepted}
use Rattle.plans.specs.Planning.{lists_for, plan_reply, lists_left}
use Rattle.printed_plan.specs.Printing.{printed_within}
use Rattle.samples.specs.Refusals.{
  Call,
  reads,
  writes,
  writes_over,
  moves,
  moves_over,
  plans,
  judges,
  busy_counts,
  checks,
  asks_at,
  asks_from,
  asks_touching,
  prints_plan,
  prints_now,
  prints_over,
  limits,
  CallSays,
  tick_runs,
  computed_rows,
  large_rows,
  refusals,
}
use Rattle.samples.specs.Inputs.{bytes_written, counted_ticks}
use Rattle.samples.specs.SampleTests.{numbers_equal, runs_equal, tables_equal, lists_equal, plan_parts, call_met}
use Rattle.samples.proofs.SameLaws.{pass_all, both, three, numbers_same, runs_same, table_same, lists_same, planned_same, written_same, judged_same, busy_same}
use Rattle.samples.specs.Samples.{p8_marks, p8_runs}
use Rattle.samples.proofs.Computed.{all_pass}
use Rattle.samples.proofs.LaunchSamples.{planned_later, lists_written}
use Rattle.samples.proofs.SampleLaws.{p8_at_0}

-- what the test of a call says
call_says : (call : Call) → call_met call ≡ true → CallSays call
unfolding call_met
call_says (reads file number place t) e =
    let answer = (read_reply file).answer in
    three (eqb (number_of answer) number) (eqb (place_of answer) place) (tables_equal (read_reply file).table t) (eqb-true _ _) (eqb-true _ _) (table_same _ _) e
call_says (writes t room reply) e = written_same _ _ e
call_says (writes_over t out after) e = numbers_same _ _ e
call_says (moves file shift room reply) e = written_same _ _ e
call_says (moves_over file shift out after) e = numbers_same _ _ e
call_says (plans file launch lists reply after) e =
    both (numbers_equal (plan_parts (plan_reply launch (plain_read file) lists)) (plan_parts reply)) (lists_equal (lists_left launch (plain_read file) reply lists) after)
    (planned_same _ _) (lists_same _ _) e
call_says (judges file launch marks runs reply) e = judged_same _ _ e
call_says (busy_counts runs a b reply) e = busy_same _ _ e
call_says (checks runs number place) e =
    let answer = check_answer runs in
    both (eqb (runs_number answer) number) (eqb (runs_place answer) place) (eqb-true _ _) (eqb-true _ _) e
call_says (asks_at runs tick numbers) e = numbers_same _ _ e
call_says (asks_from runs tick numbers) e = numbers_same _ _ e
call_says (asks_touching runs a b first part) e =
    let at = stretch_of runs a b in
    three (runs_equal (touching runs a b) part) (eqb at.first first) (eqb at.runs (length part)) (runs_same _ _) (eqb-true _ _) (eqb-true _ _) e
call_says (prints_plan input text) e = numbers_same _ _ e
call_says (prints_now input text) e = numbers_same _ _ e
call_says (prints_over text out bytes after) e =
    let printed = printed_within (length out) text in
    let z = both (eqb bytes (length printed)) (numbers_equal after (written_front printed out)) (eqb-true _ _) (numbers_same _ _) e in
    record { bytes_are = z.0; content = z.1 }
call_says (limits limit number) e = eqb-true _ _ e

-- every row whose test is computed
computed_say : All CallSays computed_rows
computed_say = pass_all CallSays call_met computed_rows call_says all_pass.1

-- a table that is written is read from its file
written_reads : (count p q : ℕ) (task : ℕ → Task) (room bytes : ℕ) → write_reply (table_of count p q task) room ≡ bytes_written bytes
    → CallSays (reads (file_of (table_of count p q task)) 0 0 (table_of count p q task))
unfolding table_of
written_reads count p q task room bytes e =
    let t : Table = table_of count p q task in
    let r : read_reply (file_of t) ≡ record { answer = Accepted; table = t } =
    written_read (accepted_legal t room (ap (λ (w : Written). w.number) e)).legal
    ∙ ap {B = Reading} (λ (x : Table). record { answer = Accepted; table = x }) (table_of-canonical count p q task) in
    rw r (refl, refl, refl)

-- Runs of one tick each, where none starts before the previous end.
ticks_many : (from n : ℕ) → length (tick_runs from n) ≡ n
unfolding tick_runs
ticks_many from zero = refl
ticks_many from (suc n) = ap suc (ticks_many (suc from) n)

ticks_ordered : (from n : ℕ) → (none_empty (tick_runs from n) ≡ true) × (follow_from from (tick_runs from n) ≡ true)
unfolding tick_runs every_member follow_from
ticks_ordered from zero = (refl, refl)
ticks_ordered from (suc n) =
    let rest = ticks_ordered (suc from) n in
    (rw (lt-ltb from (suc from) (omega arith), rest.0), rw (le-leb from from (omega arith), rest.1))

-- so many of them are accepted
ticks_accepted : (n : ℕ) → n ≤ max_runs → check_answer (tick_runs 0 n) ≡ checked.Accepted
unfolding too_many each_follows
ticks_accepted n h = ordered_accepted (tick_runs 0 n) (rw (ticks_many 0 n) (le-ltb max_runs n h)) (ticks_ordered 0 n)

-- each adds one to the sum of an interval around it,
ticks_sum : (a b from n : ℕ) → a ≤ from → from + n ≤ b → busy_sum a b (tick_runs from n) ≡ n
unfolding tick_runs shared
ticks_sum a b from zero l h = refl
ticks_sum a b from (suc n) l h = omega (arith, ticks_sum a b (suc from) n (omega arith) (omega arith))

-- and so they are counted
ticks_counted : (n : ℕ) → n ≤ max_runs → CallSays (busy_counts (tick_runs 0 n) 0 n (counted_ticks n))
unfolding busy_reply
ticks_counted n h = rw (ticks_accepted n h, ticks_sum 0 n 0 n (omega arith) (omega arith))

-- The refusals: each call of the table gets the whole reply of its row.
pub refusal_samples : All CallSays refusals
unfolding table_of places places_from
refusal_samples =
    let p8-latest = planned_later 86_399_999 p8_table p8_file 1 2 p8_marks p8_runs refl p8_at_0 in
    let ticks-in-limit = ticks_accepted 4_096 (omega arith) in
    all_append CallSays computed_rows large_rows computed_say (
      (p8-latest.1, lists_written 86_399_999 p8_table p8_file 1 2 p8_marks _ (lists_for 3) p8-latest),
      (
        written_reads 64 1 1 (λ k. task 0 1 0 0) 500 500 computed_say.0,
        ((ap runs_number ticks-in-limit, ap runs_place ticks-in-limit), (ticks_counted 4_096 (omega arith), tt)),
      ),
    )

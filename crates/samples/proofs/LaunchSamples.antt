-- The rows with a launch tick that are too large to compute, from the rows with launch 0 and the laws of launch ticks.
use Prim.Native.Nat.{ℕ}
use mathlib.Core.Path.{◌≡◌, refl, sym, ap, ◌∙◌}
use mathlib.Core.List.{List}
use mathlib.Core.Bool.{false}
use lib.ListN.{length, length-map}
use Rattle.table.proofs.RoundTrip.{read_legal}
use Rattle.base.specs.Lent.{written_front}
use Rattle.clock.specs.Clock.{bad_launch}
use Rattle.table.specs.declared.Table.{Table}
use Rattle.table.specs.Kinds.{is_nested}
use Rattle.table.specs.Reading.{one_each, plain_read, table_in}
use Rattle.schedule.specs.declared.Run.{Run}
use Rattle.schedule.specs.Runs.{starts_of, ends_of, tasks_of}
use Rattle.schedule.specs.Shifting.{later_run, later_runs}
use Rattle.orders.specs.KindOrder.{jobs_last_first}
use Rattle.plans.specs.declared.Planned.{Planned}
use Rattle.plans.specs.Planning.{LentLists, lent, lists_for, marks_by, plan_marks, plan_runs_by, plan_runs, plan_reply, written_by, after_by, lists_after, lists_left}
use Rattle.plans.specs.PlanParts.{plan_of}
use Rattle.plans.proofs.LaunchLaws.{marks_launch, runs_launch, reply_launch}
use Rattle.plans.proofs.ReplyLaws.{plan_made_lem}
use Rattle.printed_plan.specs.Printing.{plan_lines, long_reply, printed}
use Rattle.printed_plan.proofs.LaunchLaws.{printed_launch}
use Rattle.samples.specs.Inputs.{plan_with}
use Rattle.samples.specs.Samples.{planned, planned_at, Says}

-- a plan with launch 0, at an accepted launch tick
pub planned_later : (launch : ℕ) (t : Table) (file : List ℕ) (kept discarded : ℕ) (marks : List ℕ) (runs : List Run) → bad_launch launch ≡ false
    → Says (planned t file kept discarded marks runs) → Says (planned_at launch t file kept discarded marks (later_runs launch runs))
planned_later launch t file kept discarded marks runs low says = (
  says.0,
  reply_launch launch (plain_read file) _ low ∙ (says.1 ∙ ap (plan_with kept discarded) (sym (length-map runs (later_run launch)))),
  λ z. (marks_launch launch one_each t ∙ (says.2 refl).0, runs_launch launch one_each t ∙ ap (later_runs launch) (says.2 refl).1),
)

-- its text
pub text_later : (launch : ℕ) (t : Table) (file : List ℕ) (kept discarded : ℕ) (marks : List ℕ) (runs : List Run) → bad_launch launch ≡ false
    → (long_reply 0 file).number ≡ 0 → Says (planned t file kept discarded marks runs)
    → printed launch file ≡ plan_lines t.count kept discarded marks (later_runs launch runs)
text_later launch t file kept discarded marks runs low long says =
    let reply : plan_reply 0 (plain_read file) (lists_for t.count) ≡ plan_with kept discarded (length runs) = says.1 in
    let made : plan_of 0 one_each (table_in file) ≡ plan_with kept discarded (length runs) =
    sym (plan_made_lem 0 (plain_read file) (read_legal file) (lists_for t.count) (ap (λ (p : Planned). p.number) reply)).reply_is ∙ reply in
    printed_launch launch file low long
    ∙ rw (made, says.0.0, (says.2 refl).0, (says.2 refl).1) refl

-- what the lists hold after a plan
pub lists_written : (launch : ℕ) (t : Table) (file : List ℕ) (kept discarded : ℕ) (marks : List ℕ) (runs : List Run) (lists : LentLists)
    → Says (planned_at launch t file kept discarded marks runs)
    → lists_left launch (plain_read file) (plan_with kept discarded (length runs)) lists
    ≡ lent (written_front marks lists.marks) (written_front (starts_of runs) lists.starts) (written_front (ends_of runs) lists.ends)
    (written_front (tasks_of runs) lists.tasks)
unfolding lists_after after_by written_by plan_marks plan_runs
lists_written launch t file kept discarded marks runs lists says =
    let marks_are : marks_by (is_nested t) one_each t.count (jobs_last_first launch t) ≡ marks = (says.2 refl).0 in
    let runs_are : plan_runs_by (is_nested t) one_each (jobs_last_first launch t) ≡ runs = (says.2 refl).1 in
    rw (says.0.0, marks_are, runs_are) refl

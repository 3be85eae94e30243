-- `planner::plan_table` meets its contract: a launch tick that is not accepted ends the call and touches no list.
use Prim.Native.Nat.{◌≤◌}
use Rattle.planner.specs.Refusals.{planned_of}
use mathlib.Core.Path.{refl, ◌≡◌, sym, ◌∙◌}
use mathlib.Core.Bool.{false}
use native.Mathlib.Omega.{arith}
use borrow.Author.Tests.{ltb-false}
use Rattle.base.specs.Limits.{max_launch}
use Rattle.clock.specs.Clock.{bad_launch}
use Rattle.table.specs.Reading.{one_each}
use lib.Seq.{length-take-le}
use Rattle.table.proofs.FileLaws.{legal_count}
use Rattle.plans.specs.Planning.{LentLists, plan_declined}
use Rattle.plans.proofs.ReplyLaws.{table_launch, table_kept, reply_of_jobs, lists_of_jobs}
use Rattle.plans.proofs.ArrayLaws.{held_table, front_jobs}
use Rattle.planner.proofs.plan_table.Goals as goal

pub returns-then-bad_launch : goal.returns-then-bad_launch
returns-then-bad_launch c =
    let lent : LentLists = record { marks = c.args.marks.now; starts = c.args.starts.now; ends = c.args.ends.now; tasks = c.args.tasks.now } in
    record {
      value = sym (table_launch c.args.launch one_each c.args.table (lent) (sym c.bad_launch.ensures ∙ c.if-bad_launch.true));
      tasks_value = table_kept c.args.launch one_each c.args.table (plan_declined 14 0) (lent) refl;
    }

pub slice_bounds-jobs-end : goal.slice_bounds-jobs-end
slice_bounds-jobs-end c =
    omega (arith, (legal_count c.requires.legal).1)

pub slice_bounds-plan_jobs-end : goal.slice_bounds-plan_jobs-end
slice_bounds-plan_jobs-end c =
    sym (length-take-le c.args.table.count c.jobs_last_first-jobs.result (omega (arith, (legal_count c.requires.legal).1)))

pub plan_jobs-requires : goal.plan_jobs-requires
plan_jobs-requires c =
    let low : c.args.launch ≤ max_launch = ltb-false max_launch _ (sym c.bad_launch.ensures ∙ c.if-bad_launch.false) in
    let lent = front_jobs c.args.launch c.args.table c.jobs_last_first-jobs.result (omega arith) c.requires.legal c.jobs_last_first-jobs.ensures in
    rw c.requires.kind_found.nested_is (held_table c.args.launch c.args.table low c.requires.legal _ lent)

pub returns : goal.returns
returns c =
    let accepted : bad_launch c.args.launch ≡ false = sym c.bad_launch.ensures ∙ c.if-bad_launch.false in
    let lists : LentLists = record { marks = c.args.marks.now; starts = c.args.starts.now; ends = c.args.ends.now; tasks = c.args.tasks.now } in
    let lent = front_jobs c.args.launch c.args.table c.jobs_last_first-jobs.result (omega arith) c.requires.legal c.jobs_last_first-jobs.ensures in
    let kind = sym c.requires.kind_found.nested_is in
    record {
      value = c.plan_jobs.ensures.value ∙ reply_of_jobs c.args.launch one_each c.args.table _ kind _ lent accepted lists;
      tasks_value = c.plan_jobs.ensures.tasks_value ∙ lists_of_jobs c.args.launch one_each c.args.table _ kind _ lent (planned_of c.plan_jobs.result) lists;
    }

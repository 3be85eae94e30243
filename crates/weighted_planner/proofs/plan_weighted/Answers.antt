-- `weighted_planner::plan_weighted` meets its contract: a launch tick that is not accepted ends the call and touches no list.
use Prim.Native.Nat.{◌≤◌}
use Rattle.planner.specs.Refusals.{planned_of}
use mathlib.Core.Path.{refl, ◌≡◌, sym, ◌∙◌}
use mathlib.Core.Bool.{true, false}
use native.Mathlib.Omega.{arith}
use borrow.Author.Tests.{ltb-false}
use Rattle.base.specs.Limits.{max_launch}
use Rattle.clock.specs.Clock.{bad_launch}
use Rattle.weighted_file.specs.Weights.{weight_at}
use lib.Seq.{length-take-le}
use Rattle.table.proofs.FileLaws.{legal_count}
use Rattle.plans.specs.Planning.{LentLists, plan_declined}
use Rattle.orders.proofs.KeyLaws.{legal_keys}
use Rattle.plans.proofs.ReplyLaws.{table_launch, table_kept, reply_of_jobs, lists_of_jobs}
use Rattle.plans.proofs.ArrayLaws.{held_table, front_jobs}
use Rattle.weighted_planner.proofs.plan_weighted.Goals as goal

pub returns-then-bad_launch : goal.returns-then-bad_launch
returns-then-bad_launch c =
    let lent : LentLists = record { marks = c.args.marks.now; starts = c.args.starts.now; ends = c.args.ends.now; tasks = c.args.tasks.now } in
    let weight = weight_at c.args.weighted in
    record {
      value = sym (table_launch c.args.launch weight c.args.weighted.table (lent) (sym c.bad_launch.ensures ∙ c.if-bad_launch.true));
      tasks_value = table_kept c.args.launch weight c.args.weighted.table (plan_declined 14 0) (lent) refl;
    }

pub keys_by-keys-requires : goal.keys_by-keys-requires
keys_by-keys-requires c =
    legal_keys c.args.weighted.table c.requires.legal

pub jobs_last_first-jobs-requires : goal.jobs_last_first-jobs-requires
jobs_last_first-jobs-requires c =
    let accepted : bad_launch c.args.launch ≡ false = sym c.bad_launch.ensures ∙ c.if-bad_launch.false in
    let low : c.args.launch ≤ max_launch = ltb-false max_launch _ (accepted) in
    record { legal = c.requires.legal; launch_le_max_launch = low; keys_held = rw c.requires.table_value c.keys_by-keys.ensures }

pub slice_bounds-jobs-end : goal.slice_bounds-jobs-end
slice_bounds-jobs-end c =
    omega (arith, (legal_count c.requires.legal).1)

pub slice_bounds-plan_jobs-end : goal.slice_bounds-plan_jobs-end
slice_bounds-plan_jobs-end c =
    sym (length-take-le c.args.weighted.table.count c.jobs_last_first-jobs.result (omega (arith, (legal_count c.requires.legal).1)))

pub plan_jobs-requires : goal.plan_jobs-requires
unfolding weight_at
plan_jobs-requires c =
    let low : c.args.launch ≤ max_launch = ltb-false max_launch _ (sym c.bad_launch.ensures ∙ c.if-bad_launch.false) in
    let lent = front_jobs c.args.launch c.args.weighted.table c.jobs_last_first-jobs.result (omega arith) c.requires.legal c.jobs_last_first-jobs.ensures in
    record { held_jobs = rw c.requires.table_value at (held_table c.args.launch c.args.weighted.table low c.requires.legal _ lent); by_index = c.requires.by_index }

pub returns : goal.returns
unfolding weight_at
returns c =
    let accepted : bad_launch c.args.launch ≡ false = sym c.bad_launch.ensures ∙ c.if-bad_launch.false in
    let lists : LentLists = record { marks = c.args.marks.now; starts = c.args.starts.now; ends = c.args.ends.now; tasks = c.args.tasks.now } in
    let lent = front_jobs c.args.launch c.args.weighted.table c.jobs_last_first-jobs.result (omega arith) c.requires.legal c.jobs_last_first-jobs.ensures in
    let weight = weight_at c.args.weighted in
    record {
      value = c.plan_jobs.ensures.value ∙ reply_of_jobs c.args.launch weight c.args.weighted.table true c.requires.table_value _ lent accepted lists;
      tasks_value = c.plan_jobs.ensures.tasks_value ∙ lists_of_jobs c.args.launch weight c.args.weighted.table true c.requires.table_value _ lent (planned_of c.plan_jobs.result) lists;
    }

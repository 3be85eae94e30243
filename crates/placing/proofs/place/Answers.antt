use Prim.Native.Nat.{◌-◌, ◌*◌, ◌≤◌}
use mathlib.Core.Path.{◌≡◌, refl, sym, ap, ◌∙◌}
use native.Mathlib.Omega.{arith}
use lib.ListN.{length, get_or}
use Rattle.base.specs.Limits.{max_tasks}
use Rattle.base.proofs.PlaceLaws.{from_length}
use Rattle.schedule.specs.JobArrays.{no_job}
use Rattle.schedule.specs.Runs.{run_at_index}
use Rattle.placement.specs.HeldRuns.{runs_down, job_filled}
use Rattle.placement.proofs.HeldLaws.{runs_none, column_written}
use Rattle.placement.proofs.FilledPlaces.{runs_from, work_at, from_none, from_few, held_few, from_next, held_lists}
use Rattle.choice.proofs.FitLaws.{fits_length}
use Rattle.placing.proofs.place.Goals as goal

pub loop-i-init : goal.loop-i-init
loop-i-init c = (
  omega arith,
  omega arith,
  omega arith,
  (refl, refl, refl),
  record {
    low = omega arith;
    high = omega arith;
    empty = λ l. omega arith;
    unbroken = rw (runs_none _ max_tasks max_tasks (omega arith)) tt;
  },
  runs_none _ _ _ (omega arith) ∙ sym (from_none _ _ _ _ (omega arith)),
)

pub fill_job-span-requires : goal.fill_job-span-requires
fill_job-span-requires c =
    let filled_next : job_filled c.loop-i.span (get_or c.args.jobs.now (c.loop-i.i - 1) no_job) c.work_with-work.result (run_at_index c.loop-i.held_starts c.loop-i.held_ends c.loop-i.held_tasks) ≡ runs_from c.args.jobs.now (work_at c.args.jobs.now c.args.keeps.now (length c.args.jobs.now)) (length c.args.jobs.now) (c.loop-i.i - 1) =
    from_next _ _ _ c.loop-i.i _ _ (omega arith) c.loop-i.invariant.0 c.loop-i.invariant.5 c.work_with-work.ensures in
    let few = from_few c.args.jobs.now (work_at c.args.jobs.now c.args.keeps.now (length c.args.jobs.now)) (length c.args.jobs.now) (c.loop-i.i - 1) in
    record { first_nonzero = (omega arith, c.loop-i.invariant.2); room = c.loop-i.invariant.3; held = c.loop-i.invariant.4; tasks_len_bound = omega (arith, ap length (filled_next)) }

pub loop-i-preserved : goal.loop-i-preserved
loop-i-preserved c =
    let filled_next : job_filled c.loop-i.span (get_or c.args.jobs.now (c.loop-i.i - 1) no_job) c.work_with-work.result (run_at_index c.loop-i.held_starts c.loop-i.held_ends c.loop-i.held_tasks) ≡ runs_from c.args.jobs.now (work_at c.args.jobs.now c.args.keeps.now (length c.args.jobs.now)) (length c.args.jobs.now) (c.loop-i.i - 1) =
    from_next _ _ _ c.loop-i.i _ _ (omega arith) c.loop-i.invariant.0 c.loop-i.invariant.5 c.work_with-work.ensures in
    (omega arith, omega arith, omega arith, (omega arith, omega arith, omega arith), c.fill_job-span.ensures.held_2, c.fill_job-span.ensures.end_value ∙ filled_next)

pub copy-requires : goal.copy-requires
copy-requires c =
    let all_held : runs_down (run_at_index c.loop-i.held_starts c.loop-i.held_ends c.loop-i.held_tasks) c.loop-i.span.first c.loop-i.span.end ≡ runs_from c.args.jobs.now (work_at c.args.jobs.now c.args.keeps.now (length c.args.jobs.now)) (length c.args.jobs.now) 0 = let done : c.loop-i.i ≡ 0 = omega arith in
    rw done at c.loop-i.invariant.5 in
    let all-few : c.loop-i.span.end - c.loop-i.span.first ≤ 2 * (length c.args.jobs.now) - 1 =
    held_few c.args.jobs.now (work_at c.args.jobs.now c.args.keeps.now (length c.args.jobs.now)) (length c.args.jobs.now) (run_at_index c.loop-i.held_starts c.loop-i.held_ends c.loop-i.held_tasks) c.loop-i.span.first c.loop-i.span.end (all_held) in
    let few = all-few in
    record { count_in_bounds = omega arith; count_in_bounds_2 = omega arith }

pub copy-requires-2 : goal.copy-requires-2
copy-requires-2 c =
    let all_held : runs_down (run_at_index c.loop-i.held_starts c.loop-i.held_ends c.loop-i.held_tasks) c.loop-i.span.first c.loop-i.span.end ≡ runs_from c.args.jobs.now (work_at c.args.jobs.now c.args.keeps.now (length c.args.jobs.now)) (length c.args.jobs.now) 0 = let done : c.loop-i.i ≡ 0 = omega arith in
    rw done at c.loop-i.invariant.5 in
    let all-few : c.loop-i.span.end - c.loop-i.span.first ≤ 2 * (length c.args.jobs.now) - 1 =
    held_few c.args.jobs.now (work_at c.args.jobs.now c.args.keeps.now (length c.args.jobs.now)) (length c.args.jobs.now) (run_at_index c.loop-i.held_starts c.loop-i.held_ends c.loop-i.held_tasks) c.loop-i.span.first c.loop-i.span.end (all_held) in
    let few = all-few in
    record { count_in_bounds = omega arith; count_in_bounds_2 = omega arith }

pub copy-requires-3 : goal.copy-requires-3
copy-requires-3 c =
    let all_held : runs_down (run_at_index c.loop-i.held_starts c.loop-i.held_ends c.loop-i.held_tasks) c.loop-i.span.first c.loop-i.span.end ≡ runs_from c.args.jobs.now (work_at c.args.jobs.now c.args.keeps.now (length c.args.jobs.now)) (length c.args.jobs.now) 0 = let done : c.loop-i.i ≡ 0 = omega arith in
    rw done at c.loop-i.invariant.5 in
    let all-few : c.loop-i.span.end - c.loop-i.span.first ≤ 2 * (length c.args.jobs.now) - 1 =
    held_few c.args.jobs.now (work_at c.args.jobs.now c.args.keeps.now (length c.args.jobs.now)) (length c.args.jobs.now) (run_at_index c.loop-i.held_starts c.loop-i.held_ends c.loop-i.held_tasks) c.loop-i.span.first c.loop-i.span.end (all_held) in
    let few = all-few in
    record { count_in_bounds = omega arith; count_in_bounds_2 = omega arith }

pub returns : goal.returns
unfolding run_at_index
returns c =
    let all_held : runs_down (run_at_index c.loop-i.held_starts c.loop-i.held_ends c.loop-i.held_tasks) c.loop-i.span.first c.loop-i.span.end ≡ runs_from c.args.jobs.now (work_at c.args.jobs.now c.args.keeps.now (length c.args.jobs.now)) (length c.args.jobs.now) 0 = let done : c.loop-i.i ≡ 0 = omega arith in
    rw done at c.loop-i.invariant.5 in
    let at = run_at_index c.loop-i.held_starts c.loop-i.held_ends c.loop-i.held_tasks in
    let all = held_lists c.args.jobs.now c.args.keeps.now at c.loop-i.span.first c.loop-i.span.end c.requires.chain c.requires.keeps_value (all_held) in
    record {
      value = sym (from_length at c.loop-i.span.first (c.loop-i.span.end - c.loop-i.span.first)) ∙ ap length all;
      runs_put = (
        column_written (λ run. run.start) at _ _ _ _ _ all c.copy.ensures,
        column_written (λ run. run.end) at _ _ _ _ _ all c.copy-2.ensures,
        column_written (λ run. run.task) at _ _ _ _ _ all c.copy-3.ensures,
      );
    }

pub bounds-keeps-i : goal.bounds-keeps-i
bounds-keeps-i c =
    omega (arith, fits_length c.args.jobs.now c.args.keeps.now c.requires.keeps_value)

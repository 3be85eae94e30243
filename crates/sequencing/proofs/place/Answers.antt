use Prim.Native.Nat.{◌+◌, ◌-◌, ◌<◌, ◌≤◌}
use mathlib.Core.Path.{◌≡◌}
use native.Mathlib.Omega.{arith}
use lib.ListN.{get_or, length}
use mathlib.Core.Bool.{false}
use Rattle.base.specs.Limits.{last_tick}
use Rattle.schedule.specs.JobArrays.{no_job, Bounded}
use Rattle.sequence.proofs.WalkLaws.{Laid, laid_start, laid-passed, laid-run, laid-room, laid_lists, fits_at_places}
use Rattle.sequence.proofs.InOrderLaws.{order_length}
use Rattle.sequencing.proofs.place.Goals as goal

pub loop-i-init : goal.loop-i-init
loop-i-init c =
    laid_start _ _ _ _ _ _

pub bounds-keeps-i : goal.bounds-keeps-i
bounds-keeps-i c =
    omega (arith, c.loop-i.invariant.within_is, order_length c.args.jobs.now c.args.keeps.now c.requires.keeps_value)

pub loop-i-preserved-then-work-gt0 : goal.loop-i-preserved-then-work-gt0
loop-i-preserved-then-work-gt0 c =
    let bounded : Bounded (get_or c.args.jobs.now (c.loop-i.i - 1) no_job) = c.requires.all_bounded (c.loop-i.i - 1) (omega (arith, c.loop-i.invariant.within_is)) in
    let laid : Laid (λ k. get_or c.args.jobs.now k no_job) (λ k. get_or c.args.keeps.now k false) (length c.args.jobs.now) (c.loop-i.i - 1 + 1) c.loop-i.time c.loop-i.runs c.args.starts.now c.args.ends.now c.args.tasks.now c.loop-i.starts c.loop-i.ends c.loop-i.tasks = let next : c.loop-i.i ≡ c.loop-i.i - 1 + 1 = omega arith in
    rw next at c.loop-i.invariant in
    let room : c.max-start.result + c.work_with-work.result ≤ last_tick =
    omega (
      arith,
      c.max-start.ensures,
      laid-room _ _ _ _ _ _ _ _ _ _ _ _ (laid) (fits_at_places c.args.jobs.now c.args.keeps.now c.requires.keeps_value) (bounded) (omega (arith, c.if-work-gt0.true)),
    ) in
    let places : (c.loop-i.runs < length c.loop-i.starts) × (c.loop-i.runs < length c.loop-i.ends) × (c.loop-i.runs < length c.loop-i.tasks) × (c.loop-i.runs < 64) = (
      omega (arith, c.loop-i.invariant.starts_length, c.requires.count_in_bounds.0),
      omega (arith, c.loop-i.invariant.ends_length, c.requires.count_in_bounds.1),
      omega (arith, c.loop-i.invariant.tasks_length, c.requires.count_in_bounds.2),
      omega (arith),
    ) in
    let p = places in
    laid-run _ _ _ _ _ _ _ _ _ _ _ _ (laid) _ _ (omega arith) c.max-start.ensures (omega arith) (room)
    (omega (arith, p.0, c.loop-i.invariant.starts_length)) (omega (arith, p.1, c.loop-i.invariant.ends_length)) (omega (arith, p.2, c.loop-i.invariant.tasks_length))

pub loop-i-preserved : goal.loop-i-preserved
loop-i-preserved c =
    let laid : Laid (λ k. get_or c.args.jobs.now k no_job) (λ k. get_or c.args.keeps.now k false) (length c.args.jobs.now) (c.loop-i.i - 1 + 1) c.loop-i.time c.loop-i.runs c.args.starts.now c.args.ends.now c.args.tasks.now c.loop-i.starts c.loop-i.ends c.loop-i.tasks = let next : c.loop-i.i ≡ c.loop-i.i - 1 + 1 = omega arith in
    rw next at c.loop-i.invariant in
    laid-passed _ _ _ _ _ _ _ _ _ _ _ _ (laid) (omega (arith, c.work_with-work.ensures, c.if-work-gt0.false))

pub returns : goal.returns
returns c =
    let laid = laid_lists _ c.args.keeps.now _ _ _ _ _ _ _ _ _ c.loop-i.invariant c.loop-i-test.false c.requires.distinct
    (order_length c.args.jobs.now c.args.keeps.now c.requires.keeps_value) in
    record { value = laid.0; runs_put = laid.1 }

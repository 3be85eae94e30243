use Prim.Native.Nat.{◌+◌, ◌-◌}
use mathlib.Core.Path.{◌≡◌, sym}
use mathlib.Core.Bool.{false}
use native.Mathlib.Omega.{arith}
use lib.ListN.{length, get_or}
use Rattle.schedule.specs.JobArrays.{no_job, Bounded}
use Rattle.sequence.proofs.LateLaws.{mandatory_work}
use Rattle.sequence.proofs.WalkLaws.{Timely, timely_start, timely_step, timely_late, timely_end}
use Rattle.choice.proofs.JobLists.{places_whole}
use Rattle.sequencing.proofs.first_late.Goals as goal

pub loop-i-init : goal.loop-i-init
loop-i-init c =
    timely_start _ _ _

pub returns-then-end-ge-HUGE : goal.returns-then-end-ge-HUGE
returns-then-end-ge-HUGE c =
    let bounded : Bounded (get_or c.args.jobs.now (c.loop-i.i - 1) no_job) = c.requires.all_bounded (c.loop-i.i - 1) (omega (arith, c.loop-i.invariant.within_is)) in
    let timely : Timely (λ k. get_or c.args.jobs.now k no_job) (length c.args.jobs.now) false (c.loop-i.i - 1 + 1) c.loop-i.time = let next : c.loop-i.i ≡ c.loop-i.i - 1 + 1 = omega arith in
    rw next at c.loop-i.invariant in
    rw (places_whole no_job c.args.jobs.now) at (sym (timely_late (λ k. get_or c.args.jobs.now k no_job) (length c.args.jobs.now) _ _ (timely) c.requires.by_index (bounded)
    (omega (arith, c.ending_at-end.ensures, c.if-end-ge-HUGE.true))))

pub loop-i-preserved : goal.loop-i-preserved
loop-i-preserved c =
    let bounded : Bounded (get_or c.args.jobs.now (c.loop-i.i - 1) no_job) = c.requires.all_bounded (c.loop-i.i - 1) (omega (arith, c.loop-i.invariant.within_is)) in
    let timely : Timely (λ k. get_or c.args.jobs.now k no_job) (length c.args.jobs.now) false (c.loop-i.i - 1 + 1) c.loop-i.time = let next : c.loop-i.i ≡ c.loop-i.i - 1 + 1 = omega arith in
    rw next at c.loop-i.invariant in
    rw c.ending_at-end.ensures
    (timely_step _ _ _ _ _ _ (timely) (bounded) (sym (mandatory_work (get_or c.args.jobs.now (c.loop-i.i - 1) no_job))) (omega (arith, c.ending_at-end.ensures, c.if-end-ge-HUGE.false)))

pub returns : goal.returns
returns c =
    rw (places_whole no_job c.args.jobs.now) at (sym (timely_end (λ k. get_or c.args.jobs.now k no_job) (length c.args.jobs.now) _ _ c.loop-i.invariant c.loop-i-test.false c.requires.by_index))

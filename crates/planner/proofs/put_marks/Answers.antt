use Prim.Native.Nat.{◌<◌}
use mathlib.Core.Path.{◌≡◌}
use mathlib.Core.Bool.{false}
use native.Mathlib.Omega.{arith}
use lib.ListN.{length, get_or}
use Rattle.base.specs.Arrays.{first_places, Distinct}
use Rattle.schedule.specs.JobArrays.{no_job}
use Rattle.schedule.specs.Ticks.{one_if}
use Rattle.base.proofs.TestLaws.{cases}
use Rattle.choice.proofs.JobLists.{places_whole, places_all}
use Rattle.placement.specs.Chains.{positions}
use Rattle.placement.proofs.PositionLaws.{put_start, put_next}
use Rattle.plans.proofs.MarkLaws.{marked_end}
use Rattle.planner.proofs.put_marks.Goals as goal

pub loop-i-init : goal.loop-i-init
loop-i-init c =
    put_start _ _ _ _ (λ k l. rw (places_whole no_job c.args.jobs.now) (c.requires.by_index_2 k l))

pub loop-i-preserved : goal.loop-i-preserved
loop-i-preserved c =
    let below : (get_or c.args.jobs.now c.loop-i.i no_job).position < length c.args.jobs.now = c.requires.by_index c.loop-i.i (omega arith) in
    let apart : Distinct (positions (first_places no_job c.args.jobs.now (length c.args.jobs.now))) = rw (places_whole no_job c.args.jobs.now) c.requires.distinct in
    let mark : c.from.result ≡ one_if (get_or c.args.keeps.now c.loop-i.i false) =
    cases (get_or c.args.keeps.now c.loop-i.i false) (λ e. rw e (rw e at c.from.ensures)) (λ e. rw e (rw e at c.from.ensures)) in
    put_next _ _ _ _ apart c.requires.count_in_bounds _ _ _ (omega arith) below mark c.loop-i.invariant

pub returns : goal.returns
returns c =
    rw (places_whole no_job c.args.jobs.now, places_all false c.args.keeps.now (length c.args.jobs.now) c.requires.keeps_len)
    at (marked_end (λ k. get_or c.args.jobs.now k no_job) (λ k. get_or c.args.keeps.now k false) (length c.args.jobs.now) c.args.marks.now c.loop-i.i c.loop-i.marks
    (omega arith) c.requires.count_in_bounds c.loop-i.invariant)

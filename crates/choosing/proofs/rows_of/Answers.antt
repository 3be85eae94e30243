use Prim.Native.Nat.{◌+◌, ◌-◌, ◌<◌}
use mathlib.Core.Path.{◌≡◌, ◌∙◌}
use native.Mathlib.Omega.{arith}
use lib.ListN.{length, get_or}
use lib.Seq.{get_or-take, length-take-le}
use Rattle.choice.proofs.ProgrammeLaws.{greatest_part}
use Rattle.schedule.specs.JobArrays.{no_job, Bounded}
use Rattle.choice.proofs.BuildLaws.{count_one-most, Built, built_start, mandatory-room, built-step}
use Rattle.choice.proofs.JobLists.{left_whole, none_at_places}
use Rattle.choosing.proofs.rows_of.Goals as goal

pub loop-i-init : goal.loop-i-init
loop-i-init c =
    built_start _ _ c.requires.count_le_max_tasks _ _ c.requires.row_value c.requires.ranks_len

pub room_beside-room-requires : goal.room_beside-room-requires
room_beside-room-requires c =
    let inside : 0 < c.loop-i.i → Built (λ k. get_or c.args.jobs.now k no_job) (length c.args.jobs.now) (c.loop-i.i - 1 + 1) c.loop-i.row c.loop-i.ranks c.loop-i.mandatory c.loop-i.all c.loop-i.top = λ l. let next : c.loop-i.i ≡ c.loop-i.i - 1 + 1 = omega arith in
    rw next at c.loop-i.invariant in
    omega (arith, mandatory-room _ _ c.requires.count_le_max_tasks (none_at_places c.args.jobs.now c.requires.count_value) (c.loop-i.i - 1) _ _ _ _ _ (inside (omega arith)))

pub loop-i-preserved : goal.loop-i-preserved
loop-i-preserved c =
    let size = length-take-le (c.loop-i.top + c.worth-part.result + 1) c.add_job.new.row
    (omega (arith, c.loop-i.invariant.length_is, c.loop-i.invariant.top_most, c.worth-part.ensures, count_one-most (get_or c.args.jobs.now (c.loop-i.i - 1) no_job), c.add_job.ensures.2, c.requires.count_le_max_tasks)) in
    let bounded : 0 < c.loop-i.i → Bounded (get_or c.args.jobs.now (c.loop-i.i - 1) no_job) = λ l. c.requires.all_bounded (c.loop-i.i - 1) (omega (arith, c.loop-i.invariant.within_is)) in
    let inside : 0 < c.loop-i.i → Built (λ k. get_or c.args.jobs.now k no_job) (length c.args.jobs.now) (c.loop-i.i - 1 + 1) c.loop-i.row c.loop-i.ranks c.loop-i.mandatory c.loop-i.all c.loop-i.top = λ l. let next : c.loop-i.i ≡ c.loop-i.i - 1 + 1 = omega arith in
    rw next at c.loop-i.invariant in
    built-step _ _ c.requires.count_le_max_tasks (none_at_places c.args.jobs.now c.requires.count_value) (c.loop-i.i - 1) _ _ _ _ _ (inside (omega arith)) (bounded (omega arith)) _ _ _ _ _
    c.worth-part.ensures c.add_job.ensures c.room_beside-room.ensures
    (c.most_within-top.ensures ∙ greatest_part _ (λ v. get_or c.add_job.new.row v 0) _ (c.loop-i.top + c.worth-part.result) size (λ v l. get_or-take _ _ v 0 (omega arith)))

pub returns : goal.returns
returns c =
    let end : c.loop-i.i ≡ 0 = omega arith in
    let start = left_whole no_job c.args.jobs.now in (
      rw end at c.loop-i.invariant.decided,
      rw (end, start) at c.loop-i.invariant.reaches,
      rw (end, start) at c.loop-i.invariant.all_is,
      omega (arith, c.loop-i.invariant.top_most),
      omega (arith, c.loop-i.invariant.all_most),
      c.loop-i.invariant.places,
    )

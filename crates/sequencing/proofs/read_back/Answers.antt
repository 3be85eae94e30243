use Prim.Native.Nat.{◌-◌, ◌+◌, min}
use mathlib.Core.Path.{◌≡◌, refl, ap, ◌∙◌}
use mathlib.Core.List.{List}
use native.Mathlib.Omega.{arith}
use lib.ListN.{length, get_or}
use Rattle.schedule.specs.declared.Job.{Job}
use Rattle.sequence.specs.KeptRows.{marks_back}
use Rattle.schedule.specs.JobArrays.{no_job}
use Rattle.sequence.proofs.KeptRowLaws.{row_below, mandatory_below, walked_start, left-more, walked_kept, walked_discarded, walked-room, walked_end}
use Rattle.sequencing.proofs.read_back.Goals.{else-keep, then-keep}
use Rattle.choice.proofs.JobLists.{places_whole}
use Rattle.sequencing.proofs.read_back.Goals as goal

pub overflow_sub-bound-2 : goal.overflow_sub-bound-2
overflow_sub-bound-2 c =
    omega (arith, mandatory_below (λ k. get_or c.args.jobs.now k no_job) (length c.args.jobs.now) c.args.most c.args.mandatory (rw (places_whole no_job c.args.jobs.now) c.requires.mandatory_value) (rw (places_whole no_job c.args.jobs.now) c.requires.most_bound))

pub loop-i-init : goal.loop-i-init
loop-i-init c =
    walked_start _ _ _ _ c.requires.most_le_count (rw (places_whole no_job c.args.jobs.now) c.requires.mandatory_value) (rw (places_whole no_job c.args.jobs.now) c.requires.most_bound)

pub overflow_sub-left : goal.overflow_sub-left
overflow_sub-left c =
    omega (arith, left-more _ _ c.requires.all_bounded c.requires.count_le_max_tasks _ _ _ _ _ _ c.loop-i.invariant c.loop-i-test.true)

pub is_kept-keep-requires : goal.is_kept-keep-requires
is_kept-keep-requires c =
    let job = c.requires.all_bounded c.loop-i.i c.loop-i-test.true in
    record { v_in_bounds = omega (arith, c.requires.count_le_max_tasks, c.requires.room_for.0, c.loop-i.invariant.most); rows_len_bound = c.requires.room_for.1; optional_le_max_ticks = (job.optional, omega (arith, c.saturating_sub-from.ensures, job.release)); by_index = λ k l. row_below _ _ _ _ c.requires.rows_kept (c.loop-i.i + 1) k (omega arith) (omega arith) (omega (arith, c.loop-i.invariant.most)) }

pub bound_before-bound-requires : goal.bound_before-bound-requires
bound_before-bound-requires c =
    let room-is : c.min-room.result ≡ min ((get_or c.args.jobs.now c.loop-i.i no_job).deadline - c.loop-i.left) c.loop-i.bound = omega (arith, c.min-room.ensures, c.saturating_sub.ensures) in
    record {
      bounded = c.requires.all_bounded c.loop-i.i c.loop-i-test.true;
      optional_bound = walked-room _ _ c.requires.all_bounded c.requires.count_le_max_tasks _ _ _ _ _ _ c.loop-i.invariant c.loop-i-test.true _ c.requires.rows_kept _ _ _ _ refl c.saturating_sub-from.ensures
          (room-is) c.is_kept-keep.ensures;
    }

pub overflow_sub-v : goal.overflow_sub-v
overflow_sub-v c =
    let room-is : c.min-room.result ≡ min ((get_or c.args.jobs.now c.loop-i.i no_job).deadline - c.loop-i.left) c.loop-i.bound = omega (arith, c.min-room.ensures, c.saturating_sub.ensures) in
    omega (
      arith,
      c.worth-v.ensures,
      (walked_kept _ _ c.requires.all_bounded c.requires.count_le_max_tasks _ _ _ _ _ _ c.loop-i.invariant c.loop-i-test.true _ c.requires.rows_kept _ _ _ _ refl c.saturating_sub-from.ensures
          (room-is) c.is_kept-keep.ensures c.if-keep.true).0,
    )

pub loop-i-preserved : goal.loop-i-preserved
loop-i-preserved c =
    let room-is : c.min-room.result ≡ min ((get_or c.args.jobs.now c.loop-i.i no_job).deadline - c.loop-i.left) c.loop-i.bound = omega (arith, c.min-room.ensures, c.saturating_sub.ensures) in
    elim c.if-keep.branch [
      | then-keep w ↦ rw (w.v-is, c.bound_before-bound.ensures, w.worth-v.ensures)
          (walked_kept _ _ c.requires.all_bounded c.requires.count_le_max_tasks _ _ _ _ _ _ c.loop-i.invariant c.loop-i-test.true _ c.requires.rows_kept _ _ _ _ refl c.saturating_sub-from.ensures
          (room-is) c.is_kept-keep.ensures w.if-keep.true).2
      | else-keep w ↦ rw (w.v-is, c.bound_before-bound.ensures)
          (walked_discarded _ _ c.requires.all_bounded c.requires.count_le_max_tasks _ _ _ _ _ _ c.loop-i.invariant c.loop-i-test.true _ c.requires.rows_kept _ _ _ _ refl c.saturating_sub-from.ensures
          (room-is) c.is_kept-keep.ensures w.if-keep.false).1
    ]

pub returns : goal.returns
returns c =
    walked_end _ _ _ _ _ _ _ _ c.requires.count_le_max_tasks c.loop-i.invariant (omega arith)
    ∙ ap (λ (jobs : List Job). marks_back jobs c.args.most) (places_whole no_job c.args.jobs.now)

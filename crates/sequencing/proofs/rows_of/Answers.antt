use Prim.Native.Nat.{◌+◌, ◌-◌, ◌≤◌}
use mathlib.Core.Path.{◌≡◌}
use mathlib.Core.Bool.{true}
use native.Mathlib.Omega.{arith}
use lib.ListN.{length, get_or}
use Rattle.schedule.specs.JobArrays.{no_job, Bounded}
use Rattle.choice.specs.Choice.{keep_none}
use Rattle.sequence.specs.InOrder.{fits_in_order}
use Rattle.choice.proofs.BuildLaws.{count_one-most}
use Rattle.sequence.proofs.KeptRowLaws.{built_start, before_below, built-step}
use Rattle.choice.proofs.JobLists.{left_whole, at_places}
use Rattle.sequencing.proofs.rows_of.Goals as goal

pub loop-i-init : goal.loop-i-init
loop-i-init c =
    built_start _ _ c.requires.count_le_max_tasks c.args.rows.now c.requires.blank c.requires.room_for

pub next_row-most-requires : goal.next_row-most-requires
next_row-most-requires c =
    let bounded : Bounded (get_or c.args.jobs.now (c.loop-i.i - 1) no_job) = c.requires.all_bounded (c.loop-i.i - 1) (omega (arith, c.loop-i.invariant.within_is)) in
    let most_within : c.loop-i.most + c.worth-part.result + c.loop-i.i ≤ (length c.args.jobs.now) + 1 =
    omega (
      arith,
      c.loop-i.invariant.most_within,
      c.worth-part.ensures,
      count_one-most (get_or c.args.jobs.now (c.loop-i.i - 1) no_job),
    ) in
    let built = c.loop-i.invariant in
    let next : c.loop-i.i ≡ c.loop-i.i - 1 + 1 = omega arith in
    let most = most_within in
    let job = bounded in
    record {
      most_lt_row_places = omega (arith, c.requires.count_le_max_tasks);
      most_in_bounds = omega (arith, c.loop-i.invariant.length_is, c.loop-i.invariant.room.0, c.loop-i.invariant.within_is, c.requires.count_le_max_tasks);
      rows_len_bound = omega (arith, c.loop-i.invariant.length_is, c.loop-i.invariant.room.1);
      optional_le_max_ticks = (job.optional, omega (arith, c.saturating_sub-from.ensures, job.release));
      by_index = λ k l.
          before_below _ _ c.requires.count_le_max_tasks _ (c.loop-i.i - 1) _ _ _ (rw next at built) k (omega (arith, c.loop-i-test.true));
    }

pub loop-i-preserved : goal.loop-i-preserved
loop-i-preserved c =
    let next : c.loop-i.i ≡ c.loop-i.i - 1 + 1 = omega arith in
    built-step _ _ c.requires.count_le_max_tasks c.requires.all_bounded (at_places no_job c.args.jobs.now (λ all. fits_in_order all (keep_none all) ≡ true) c.requires.count_value) _ (c.loop-i.i - 1) _ _ _ (rw next at c.loop-i.invariant) _ _ _ c.worth-part.ensures
    c.saturating_sub-from.ensures c.saturating_sub-room.ensures _ _ c.next_row-most.ensures.row_put c.next_row-most.ensures.value

pub returns : goal.returns
returns c =
    let end : c.loop-i.i ≡ 0 = omega arith in
    let start = left_whole no_job c.args.jobs.now in
    record {
      room = rw c.loop-i.invariant.length_is c.loop-i.invariant.room;
      rows_kept = rw end at c.loop-i.invariant.rows_kept;
      most_is = rw (end, start) at c.loop-i.invariant.most_is;
      most_within = omega (arith, c.loop-i.invariant.most_within);
      mandatory_is = rw (end, start) at c.loop-i.invariant.mandatory_is;
    }

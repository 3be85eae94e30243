-- `planner::put_choice` meets its contract: the calls follow one another, and what each list holds is what the definitions say.
use Prim.Native.Nat.{ℕ, ◌≤◌}
use mathlib.Core.Path.{◌≡◌, ap, ◌∙◌}
use mathlib.Core.Bool.{Bool, false}
use mathlib.Core.List.{List}
use native.Mathlib.Omega.{arith}
use lib.ListN.{length, take}
use Rattle.base.specs.Limits.{max_tasks}
use Rattle.choice.specs.KeepLists.{keeps_in}
use Rattle.choice.proofs.JobLists.{front_places}
use Rattle.ordering.specs.Kinds.{by_nesting}
use Rattle.plans.specs.Planning.{plan_made}
use Rattle.plans.proofs.JobPlans.{length_by}
use Rattle.plans.proofs.ReplyLaws.{written_lists}
use Rattle.plans.proofs.ArrayLaws.{Room, room_known, array_distinct}
use Rattle.planner.proofs.put_choice.Goals as goal

-- the marks that are lent on are those at the first places of the choice
marks_lent : (keeps : List Bool) (n : ℕ) → length keeps ≡ max_tasks → n ≤ max_tasks → take n keeps ≡ keeps_in keeps n
marks_lent keeps n size few = front_places false keeps n (omega arith)

pub put_marks-requires : goal.put_marks-requires
put_marks-requires c =
    let kind = by_nesting c.args.kind in
    let room : Room (length c.args.jobs.now) (length c.args.marks.now) (length c.args.starts.now) (length c.args.ends.now) (length c.args.tasks.now) = room_known _ _ _ _ _ c.requires.tasks_value in
    let lent = marks_lent c.args.choice.now.keeps (length c.args.jobs.now) (omega arith) c.requires.held_jobs.few in
    record {
      keeps_len = rw lent (length_by kind c.args.jobs.now _ c.requires.keeps_value);
      count_in_bounds = room.marks_room;
      by_index = c.requires.held_jobs.below;
      distinct = array_distinct kind c.args.jobs.now c.requires.held_jobs;
      by_index_2 = c.requires.held_jobs.cover;
    }

pub place-runs-requires : goal.place-runs-requires
place-runs-requires c =
    let room : Room (length c.args.jobs.now) (length c.args.marks.now) (length c.args.starts.now) (length c.args.ends.now) (length c.args.tasks.now) = room_known _ _ _ _ _ c.requires.tasks_value in
    let lent = marks_lent c.args.choice.now.keeps (length c.args.jobs.now) (omega arith) c.requires.held_jobs.few in
    record { held_jobs = c.requires.held_jobs; keeps_value = rw lent c.requires.keeps_value; runs_room = (room.starts_room, room.ends_room, room.tasks_room) }

pub returns : goal.returns
returns c =
    let lent = marks_lent c.args.choice.now.keeps (length c.args.jobs.now) (omega arith) c.requires.held_jobs.few in
    record {
      value = c.planned.ensures ∙ rw lent at (ap (plan_made c.args.choice.now.kept c.args.choice.now.discarded) c.place-runs.ensures.value);
      tasks_value_2 = written_lists (by_nesting c.args.kind) (length c.args.jobs.now) _ _ _ _
          (rw lent at c.put_marks.ensures)
          (rw lent at c.place-runs.ensures.runs_put.0)
          (rw lent at c.place-runs.ensures.runs_put.1)
          (rw lent at c.place-runs.ensures.runs_put.2);
    }

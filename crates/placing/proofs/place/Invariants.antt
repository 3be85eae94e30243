-- `placing::place` meets its contract. The loop's invariant: the columns hold the runs of the jobs from place i on, and there are i places
-- and more below them.
use Prim.Native.Nat.{◌≤◌}
use mathlib.Core.Path.{◌≡◌}
use lib.ListN.{length}
use Rattle.base.specs.Limits.{max_tasks}
use Rattle.schedule.specs.Runs.{run_at_index}
use Rattle.placement.specs.HeldRuns.{runs_down, Held, Room}
use Rattle.placement.proofs.FilledPlaces.{runs_from, work_at}
use Rattle.placing.proofs.place.Given as goal

abbrev pub invariant-loop-i : goal.invariant-loop-i
invariant-loop-i l =
    (l.i ≤ length l.jobs)
    × (l.i ≤ l.span.first)
    × (l.span.first ≤ max_tasks)
    × Room l.held_starts l.held_ends l.held_tasks
    × Held l.span (run_at_index l.held_starts l.held_ends l.held_tasks)
    × (runs_down (run_at_index l.held_starts l.held_ends l.held_tasks) l.span.first l.span.end ≡ runs_from l.jobs (work_at l.jobs l.keeps (length l.jobs)) (length l.jobs) l.i)

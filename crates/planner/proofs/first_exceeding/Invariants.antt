-- `planner::first_exceeding` meets its contract: the walk goes from the innermost job outwards, in nest order.
use Prim.Native.Nat.{◌+◌, ◌*◌, ◌≤◌}
use mathlib.Core.Path.{◌≡◌}
use mathlib.Core.List.{reverse}
use lib.ListN.{length}
use Rattle.base.specs.Limits.{max_tasks, max_ticks}
use Rattle.base.specs.Arrays.{first_places}
use Rattle.schedule.specs.JobArrays.{no_job}
use Rattle.plans.specs.Planning.{exceeding_after}
use Rattle.planner.proofs.first_exceeding.Given as goal

abbrev pub invariant-loop-i : goal.invariant-loop-i
invariant-loop-i l =
    (l.i ≤ (length l.jobs))
    × (l.sum + max_ticks * l.i ≤ max_ticks * max_tasks)
    × (exceeding_after (length l.jobs) l.sum (reverse (first_places no_job l.jobs l.i)) ≡ exceeding_after (length l.jobs) 0 (reverse (first_places no_job l.jobs (length l.jobs))))

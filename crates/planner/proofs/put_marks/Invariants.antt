-- `planner::put_marks` meets its contract: each job's mark goes to its position, and every position has a job.
use mathlib.Core.Bool.{false}
use lib.ListN.{length, get_or}
use Rattle.schedule.specs.JobArrays.{no_job}
use Rattle.schedule.specs.Ticks.{one_if}
use Rattle.placement.proofs.PositionLaws.{Put}
use Rattle.planner.proofs.put_marks.Given as goal

abbrev pub invariant-loop-i : goal.invariant-loop-i
invariant-loop-i l =
    Put (λ k. get_or l.jobs k no_job) (λ k. one_if (get_or l.keeps k false)) (length l.jobs) l.initial.marks l.i l.marks

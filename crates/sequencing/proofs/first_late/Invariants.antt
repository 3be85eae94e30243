-- `sequencing::first_late` meets its contract: the walk goes in similar order, from the last place downwards.
use mathlib.Core.Bool.{false}
use lib.ListN.{length, get_or}
use Rattle.schedule.specs.JobArrays.{no_job}
use Rattle.sequence.proofs.WalkLaws.{Timely}
use Rattle.sequencing.proofs.first_late.Given as goal

abbrev pub invariant-loop-i : goal.invariant-loop-i
invariant-loop-i l =
    Timely (λ k. get_or l.jobs k no_job) (length l.jobs) false l.i l.time

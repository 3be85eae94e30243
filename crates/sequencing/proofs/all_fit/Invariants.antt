-- `sequencing::all_fit` meets its contract: the walk goes in similar order, from the last place downwards.
use mathlib.Core.Bool.{true}
use lib.ListN.{length, get_or}
use Rattle.schedule.specs.JobArrays.{no_job}
use Rattle.sequence.proofs.WalkLaws.{Timely}
use Rattle.sequencing.proofs.all_fit.Given as goal

abbrev pub invariant-loop-i : goal.invariant-loop-i
invariant-loop-i l =
    Timely (λ k. get_or l.jobs k no_job) (length l.jobs) true l.i l.time

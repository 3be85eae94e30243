-- `sequencing::place` meets its contract: the runs are laid in similar order, from the last place downwards.
use lib.ListN.{length, get_or}
use mathlib.Core.Bool.{false}
use Rattle.schedule.specs.JobArrays.{no_job}
use Rattle.sequence.proofs.WalkLaws.{Laid}
use Rattle.sequencing.proofs.place.Given as goal

abbrev pub invariant-loop-i : goal.invariant-loop-i
invariant-loop-i l =
    Laid (λ k. get_or l.jobs k no_job) (λ k. get_or l.keeps k false) (length l.jobs) l.i l.time l.runs l.initial.starts l.initial.ends l.initial.tasks l.starts l.ends l.tasks

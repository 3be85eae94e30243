-- `weighted_choosing::rows_of` meets its contract: the rows are made from the innermost job outwards.
use lib.ListN.{length, get_or}
use Rattle.schedule.specs.JobArrays.{no_job}
use Rattle.choice.specs.Choice.{weighed}
use Rattle.weighted_choosing.proofs.MadeLaws.{Made}
use Rattle.weighted_choosing.proofs.rows_of.Given as goal

abbrev pub invariant-loop-i : goal.invariant-loop-i
invariant-loop-i l =
    Made (weighed (λ k. get_or l.weights k 0)) (λ k. get_or l.jobs k no_job) (length l.jobs) l.i l.row l.kept l.decisions l.mandatory l.top

-- `choosing::rows_of` meets its contract: the rows are built from the innermost job outwards.
use lib.ListN.{length, get_or}
use Rattle.schedule.specs.JobArrays.{no_job}
use Rattle.choice.proofs.BuildLaws.{Built}
use Rattle.choosing.proofs.rows_of.Given as goal

abbrev pub invariant-loop-i : goal.invariant-loop-i
invariant-loop-i l =
    Built (λ k. get_or l.jobs k no_job) (length l.jobs) l.i l.row l.ranks l.mandatory l.all l.top

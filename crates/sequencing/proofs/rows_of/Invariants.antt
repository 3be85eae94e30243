-- `sequencing::rows_of` meets its contract: the rows are built from the first job in similar order to the last.
use lib.ListN.{length, get_or}
use Rattle.schedule.specs.JobArrays.{no_job}
use Rattle.sequence.proofs.KeptRowLaws.{Built}
use Rattle.sequencing.proofs.rows_of.Given as goal

abbrev pub invariant-loop-i : goal.invariant-loop-i
invariant-loop-i l =
    Built (length l.initial.rows) (λ k. get_or l.jobs k no_job) (length l.jobs) l.i l.rows l.most l.mandatory

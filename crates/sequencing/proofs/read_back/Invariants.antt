-- `sequencing::read_back` meets its contract: the jobs are walked over from the last in similar order to the first.
use lib.ListN.{length, get_or}
use Rattle.base.specs.Arrays.{first_places}
use Rattle.schedule.specs.JobArrays.{no_job}
use Rattle.sequence.specs.KeptRows.{marks_back}
use Rattle.sequence.proofs.KeptRowLaws.{Walked}
use Rattle.sequencing.proofs.read_back.Given as goal

abbrev pub invariant-loop-i : goal.invariant-loop-i
invariant-loop-i l =
    Walked (λ k. get_or l.jobs k no_job) (length l.jobs) (marks_back (first_places no_job l.jobs (length l.jobs)) l.most) l.i l.v l.left l.bound l.keeps

-- `choosing::read_back` meets its contract: the jobs are walked over from the outermost inwards.
use lib.ListN.{length, get_or}
use Rattle.base.specs.Arrays.{first_places}
use Rattle.schedule.specs.JobArrays.{no_job}
use Rattle.choice.specs.Choice.{count_one}
use Rattle.choice.specs.Decisions.{back_of}
use Rattle.choice.proofs.BackLaws.{Walked}
use Rattle.choosing.proofs.read_back.Given as goal

abbrev pub invariant-loop-i : goal.invariant-loop-i
invariant-loop-i l =
    Walked count_one (λ k. get_or l.jobs k no_job) (length l.jobs) (length l.jobs) (back_of (first_places no_job l.jobs (length l.jobs)) l.most) l.i l.left l.keeps

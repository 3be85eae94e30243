-- `weighted_choosing::read_back` meets its contract: the jobs are walked over from the outermost inwards.
use Prim.Native.Nat.{◌*◌}
use lib.ListN.{length, get_or}
use Rattle.base.specs.Limits.{max_tasks, max_weight}
use Rattle.base.specs.Arrays.{first_places}
use Rattle.schedule.specs.JobArrays.{no_job}
use Rattle.choice.specs.Choice.{weighed}
use Rattle.choice.specs.Decisions.{back_over}
use Rattle.choice.proofs.BackLaws.{Walked}
use Rattle.weighted_choosing.proofs.CountLaws.{Counted}
use Rattle.weighted_choosing.proofs.read_back.Given as goal

abbrev pub invariant-loop-i : goal.invariant-loop-i
invariant-loop-i l =
    Walked (weighed (λ k. get_or l.weights k 0)) (λ k. get_or l.jobs k no_job) (length l.jobs) (max_tasks * max_weight) (back_over (weighed (λ k. get_or l.weights k 0)) (first_places no_job l.jobs (length l.jobs)) l.most) l.i l.left l.keeps
    × Counted (λ k. get_or l.jobs k no_job) (length l.jobs) (back_over (weighed (λ k. get_or l.weights k 0)) (first_places no_job l.jobs (length l.jobs)) l.most) l.i l.kept l.discarded

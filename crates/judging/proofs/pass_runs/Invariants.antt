-- `judging::pass_runs` meets its contract: the runs are passed from the first upwards.
use Rattle.std.proofs.Common.{get_or, length}
use Rattle.schedule.specs.JobArrays.{no_job}
use Rattle.schedule.proofs.PassLaws.{PassedUpTo}
use Rattle.judging.proofs.pass_runs.Given as goal

abbrev pub invariant-loop-run : goal.invariant-loop-run
invariant-loop-run l = PassedUpTo (λ k. get_or l.jobs k no_job) (length l.jobs) l.runs l.totals l.from l.run-index

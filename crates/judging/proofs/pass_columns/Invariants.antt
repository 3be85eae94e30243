-- `judging::pass_columns` meets its contract: the runs are passed from the first upwards.
use Rattle.std.proofs.Common.{get_or, length}
use Rattle.schedule.specs.JobArrays.{no_job}
use Rattle.schedule.specs.Runs.{runs_of}
use Rattle.schedule.proofs.PassLaws.{PassedUpTo}
use Rattle.judging.proofs.pass_columns.Given as goal

abbrev pub invariant-loop-i : goal.invariant-loop-i
invariant-loop-i l = PassedUpTo (λ k. get_or l.jobs k no_job) (length l.jobs) (runs_of l.starts l.ends l.tasks) l.totals l.from l.i

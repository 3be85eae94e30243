-- `schedule::jobs_of` meets its contract. The loop's invariant: the places below `k` hold their jobs.
use Rattle.base.specs.Limits.{max_tasks}
use Rattle.base.proofs.ArrayFilling.{Filled}
use Rattle.schedule.specs.Jobs.{job_at}
use Rattle.schedule.specs.JobArrays.{no_job}
use Rattle.schedule.proofs.jobs_of.Given as goal

abbrev pub invariant-loop-k : goal.invariant-loop-k
invariant-loop-k l = Filled no_job (job_at l.launch l.table) max_tasks l.table.count l.k l.jobs

-- For the proofs of sequencing's code alone: the runs of jobs in order, one a job that has work, as the code writes them.
use Rattle.std.specs.Prelude.{ℕ, ◌+◌, List, [], ◌∷◌, reverse, Bool, ltb}
use Rattle.base.specs.Tests.{pick}
use Rattle.schedule.specs.declared.Job.{Job}
use Rattle.schedule.specs.declared.Run.{Run}
use Rattle.schedule.specs.Jobs.{work_with}
use Rattle.sequence.specs.InOrder.{starts_at, finish}

-- the run of w ticks of a job, from `time` on
abbrev pub run_from : Job → ℕ → ℕ → Run
run_from job w time = record { start = starts_at job time; end = starts_at job time + w; task = job.position }

-- that run before others, where there is work
unfoldable pub with_run : Job → ℕ → ℕ → List Run → List Run
with_run job w time runs = pick (ltb 0 w) (run_from job w time ∷ runs) runs

-- the runs of jobs under a keep list, the latest first
unfoldable pub latest_runs : List Job → List Bool → List Run
latest_runs [] keeps = []
latest_runs (job ∷ jobs) [] = []
latest_runs (job ∷ jobs) (keep ∷ keeps) = with_run job (work_with job keep) (finish jobs keeps) (latest_runs jobs keeps)

-- and by start
abbrev pub listed_runs : List Job → List Bool → List Run
listed_runs jobs keeps = reverse (latest_runs jobs keeps)

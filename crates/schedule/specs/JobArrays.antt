-- For the proofs of the code alone: jobs that stand at the first places of an array, and the limits that jobs keep.
use Rattle.std.specs.Prelude.{ℕ, ◌≤◌, ◌<◌, List, ltb, length, get_or}
use Rattle.base.specs.Limits.{max_tasks, max_ticks, last_tick}
use Rattle.base.specs.Tests.{pick}
use Rattle.base.specs.Places.{places}
use Rattle.base.specs.Arrays.{first_places}
use Rattle.table.specs.declared.Table.{Table}
use Rattle.schedule.specs.declared.Job.{Job}
use Rattle.schedule.specs.Jobs.{job_at}

-- the job of which every number is 0: what stands at a place that has no job
abbrev pub no_job : Job
no_job = record { position = 0; release = 0; deadline = 0; mandatory = 0; optional = 0 }

-- the jobs of a table at a launch tick, by position, and behind them no jobs
abbrev pub job_array : ℕ → Table → List Job
job_array launch t = places (λ k. pick (ltb k t.count) (job_at launch t k) no_job) max_tasks

-- the jobs at the first `count` places of an array
abbrev pub jobs_in : List Job → ℕ → List Job
jobs_in jobs count = first_places no_job jobs count

-- a job within the limits of an accepted table: the theorem `job_bounded` says that each of its jobs is
pub record Bounded (job : Job) : Type 0 where
  pub release : job.release ≤ last_tick
  pub deadline : job.deadline ≤ last_tick
  pub mandatory : job.mandatory ≤ max_ticks
  pub optional : job.optional ≤ max_ticks

-- each of some jobs is
abbrev pub AllBounded : List Job → Type 0
AllBounded jobs = (k : ℕ) → k < length jobs → Bounded (get_or jobs k no_job)

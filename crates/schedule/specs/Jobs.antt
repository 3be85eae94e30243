-- Jobs: the tasks of an accepted table in ticks of the frame clock at a launch tick. Of the definitions that rest on this one
-- none asks the clock for a tick, but Earlier, whose jobs have no launch tick, and the samples of the clock.
use Rattle.std.specs.Prelude.{ℕ, ◌+◌, ◌-◌, List, ltb, eqb, Bool}
use Rattle.base.specs.Tests.{pick}
use Rattle.base.specs.Places.{places}
use Rattle.clock.specs.Clock.{release_tick, deadline_tick}
use Rattle.table.specs.declared.Task.{Task}
use Rattle.table.specs.declared.Table.{Table}
use Rattle.table.specs.Tables.{task_at}
use Rattle.schedule.specs.declared.Job.{Job}

-- a task at a position, with its window in ticks: from a release tick, included, to a deadline tick, excluded
abbrev pub job_between : ℕ → ℕ → ℕ → Task → Job
job_between release deadline position task =
    record { position = position; release = release; deadline = deadline; mandatory = task.mandatory; optional = task.optional }

-- a task at a position under the period p/q, at a launch tick
unfoldable pub job_of : ℕ → ℕ → ℕ → ℕ → Task → Job
job_of launch p q position task =
    job_between (release_tick launch p q task.release) (deadline_tick launch p q task.deadline) position task

-- the job at a position of a table at a launch tick
unfoldable pub job_at : ℕ → Table → ℕ → Job
job_at launch t k = job_of launch t.p t.q k (task_at t k)

-- the jobs of a table at a launch tick, by position
unfoldable pub jobs_of : ℕ → Table → List Job
jobs_of launch t = places (job_at launch t) t.count

-- the ticks of a window, from its release, included, to its deadline, excluded: 'A window that has no tick left is empty', also where its release tick
-- lies after its deadline tick
abbrev pub window_ticks : Job → ℕ
window_ticks job = job.deadline - job.release

-- 'A task's work is its mandatory ticks, plus its optional ticks where kept.'
abbrev pub work_with : Job → Bool → ℕ
work_with job keep = job.mandatory + pick keep job.optional 0

-- the work of a job under a mark: 1 is kept
abbrev pub work_of : Job → ℕ → ℕ
work_of job mark = work_with job (eqb mark 1)

-- an optional part counts where it has ticks
abbrev pub counts : Job → Bool
counts job = ltb 0 job.optional

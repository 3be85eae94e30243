-- For proofs alone: jobs, and owners of ticks, that lie later by a number of ticks.
use Rattle.std.specs.Prelude.{ℕ, ◌+◌, ◌<◌, ◌≡◌, List, map}
use Rattle.std.proofs.Math.Option.{none}
use Rattle.schedule.specs.declared.Job.{Job}
use Rattle.schedule.specs.Ticks.{Owner}

-- a job with its window later by c ticks
abbrev pub later_job : ℕ → Job → Job
later_job c job =
    record {
      position = job.position;
      release = job.release + c;
      deadline = job.deadline + c;
      mandatory = job.mandatory;
      optional = job.optional;
    }

-- jobs later by c ticks
abbrev pub later_jobs : ℕ → List Job → List Job
later_jobs c jobs = map (later_job c) jobs

-- who has each tick, later by c ticks: whoever had a tick has the one c ticks after it, and no one has a tick below c
pub record LaterOwner (c : ℕ) (owner later : Owner) : Type 0 where
  pub same : (tick : ℕ) → later (tick + c) ≡ owner tick
  pub free : (tick : ℕ) → tick < c → later tick ≡ none

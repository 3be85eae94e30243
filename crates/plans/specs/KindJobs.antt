-- For proofs alone: what is known of the jobs of an accepted table in the order of its kind, last first.
use Rattle.std.specs.Prelude.{ℕ, ◌≤◌, ◌<◌, ◌≡◌, List, Bool, true, false, length, get_or}
use Rattle.base.specs.Limits.{max_tasks}
use Rattle.base.specs.Members.{Any}
use Rattle.schedule.specs.declared.Job.{Job}
use Rattle.schedule.specs.JobArrays.{no_job, AllBounded}
use Rattle.placement.specs.Chains.{Chain}
use Rattle.sequence.specs.Similar.{SimilarJobs}

-- the jobs of a nested table are a chain, those of a similar one are similar
abbrev pub JobsOfKind : Bool → List Job → Type 0
JobsOfKind true jobs = Chain jobs
JobsOfKind false jobs = SimilarJobs jobs

-- jobs of a kind, as many as a table may have: they are within the limits, and their positions are those below their number
pub record HeldJobs (nested : Bool) (jobs : List Job) : Type 0 where
  pub some : 0 < length jobs
  pub few : length jobs ≤ max_tasks
  pub kind : JobsOfKind nested jobs
  pub bounded : AllBounded jobs
  pub below : (k : ℕ) → k < length jobs → (get_or jobs k no_job).position < length jobs
  pub cover : (k : ℕ) → k < length jobs → Any (λ job. job.position ≡ k) jobs

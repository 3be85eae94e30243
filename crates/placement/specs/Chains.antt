-- For proofs alone: what the theorems of placing ask of jobs: they stand outermost first (nest order from its last to its first), and no two have one position.
use Rattle.std.specs.Prelude.{ℕ, ◌≤◌, List, [], ◌∷◌, map}
use Rattle.schedule.specs.declared.Job.{Job}
use Rattle.base.specs.Members.{All}
use Rattle.base.specs.Arrays.{Distinct}

-- the window of a job lies between the ticks a and b
abbrev pub Between : ℕ → ℕ → Job → Type 0
Between a b job = (a ≤ job.release) × (job.deadline ≤ b)

-- the window of each job contains those of all jobs after it
abbrev pub NestedJobs : List Job → Type 0
NestedJobs [] = Unit {0}
NestedJobs (job ∷ jobs) = All (Between job.release job.deadline) jobs × NestedJobs jobs

-- the positions of jobs
abbrev pub positions : List Job → List ℕ
positions jobs = map (λ job. job.position) jobs

-- a chain of jobs: each window contains those of all jobs after it in the list, and no position stands twice
pub record Chain (jobs : List Job) : Type 0 where
  pub nested : NestedJobs jobs
  pub distinct : Distinct (positions jobs)

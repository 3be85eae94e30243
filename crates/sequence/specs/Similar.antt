-- For proofs alone: what the theorems of similar jobs ask, that they stand last first (similar order from its last to its first), and that no two have one
-- position; and which job is late. The jobs before one in similar order are those after it in the list, as the jobs of a chain stand outermost first.
use Rattle.std.specs.Prelude.{ℕ, ◌+◌, ◌≤◌, ◌<◌, ◌≡◌, List, [], ◌∷◌, ◌++◌, true}
use Rattle.base.specs.Members.{All}
use Rattle.base.specs.Arrays.{Distinct}
use Rattle.schedule.specs.declared.Job.{Job}
use Rattle.choice.specs.Choice.{keep_none}
use Rattle.placement.specs.Chains.{positions}
use Rattle.sequence.specs.InOrder.{starts_at, finish, fits_in_order}

-- the other job is released no later than a job, and has no later deadline
abbrev pub NotAfter : Job → Job → Type 0
NotAfter job other = (other.release ≤ job.release) × (other.deadline ≤ job.deadline)

-- along similar order no release and no deadline is before an earlier one
abbrev pub Ordered : List Job → Type 0
Ordered [] = Unit {0}
Ordered (job ∷ jobs) = All (NotAfter job) jobs × Ordered jobs

-- similar jobs: they stand in similar order, last first, and no position stands twice. Windows may be empty.
pub record SimilarJobs (jobs : List Job) : Type 0 where
  pub ordered : Ordered jobs
  pub distinct : Distinct (positions jobs)

-- What `first_late` finds, as a statement: a place names the first late job. The mandatory ticks of the jobs before it fit, and its own, which are not 0, then end
-- after its deadline. What it finds below n meets this, and nothing else does: `late_found` and
-- `late_only`.
pub record LateAt (jobs : List Job) (place : ℕ) : Type 0 where
  pub after : List Job
  pub late : Job
  pub before : List Job
  pub split : jobs ≡ after ++ late ∷ before
  pub named : late.position ≡ place
  pub fit : fits_in_order before (keep_none before) ≡ true
  pub nonzero : 0 < late.mandatory
  pub over : late.deadline < starts_at late (finish before (keep_none before)) + late.mandatory

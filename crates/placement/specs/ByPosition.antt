-- Numbers of jobs by position, from a list in the order of the jobs.
use Rattle.std.specs.Prelude.{ℕ, List, [], ◌∷◌, eqb}
use Rattle.base.specs.Tests.{pick}
use Rattle.schedule.specs.declared.Job.{Job}

-- the number of position k in a list of one number a job
unfoldable pub number_at : List Job → List ℕ → ℕ → ℕ
number_at [] numbers k = 0
number_at (job ∷ jobs) [] k = 0
number_at (job ∷ jobs) (number ∷ numbers) k = pick (eqb job.position k) number (number_at jobs numbers k)

-- For the proofs of sequencing's code alone: the choice for similar jobs by dynamic programming: one row of numbers a job, from the first job in similar
-- order to the last, and the marks read back from the last job to the first with a bound, the latest time by which the jobs before must have ended. Jobs
-- stand last first. What the code holds of it is said in KeptRows.
use Rattle.std.specs.Prelude.{ℕ, zero, suc, ◌-◌, min, List, [], ◌∷◌, Bool, true, false, leb, ltb}
use Rattle.base.specs.Tests.{pick}
use Rattle.schedule.specs.declared.Job.{Job}
use Rattle.schedule.specs.Jobs.{work_with}
use Rattle.choice.specs.Programme.{all_worth, greatest}
use Rattle.sequence.specs.InOrder.{ends_at, in_time}

-- `huge` is a number above every deadline: it stands in a row where no list fits. Where w ticks of a job end, or huge where that is too late.
unfoldable pub ending : ℕ → Job → ℕ → ℕ → ℕ
ending huge job w time = pick (in_time job w time) (ends_at job w time) huge

-- the latest time by which the jobs before must have ended, so that w ticks of a job can end in time and by a bound
unfoldable pub bound_before : Job → ℕ → ℕ → ℕ
bound_before job w bound = pick (ltb 0 w) (min job.deadline bound - w) bound

-- The rows and what is read back from them, over a worth of each optional part.
module _ (worth : Job → ℕ) (huge : ℕ) where
  -- the earliest end that keeps the worth v where the job is kept, from the row of the jobs before it
  unfoldable pub keeping_end : Job → (ℕ → ℕ) → ℕ → ℕ
  keeping_end job before v = pick (leb (worth job) v) (ending huge job (work_with job true) (before (v - worth job))) huge

  -- and where it is discarded
  unfoldable pub discarding_end : Job → (ℕ → ℕ) → ℕ → ℕ
  discarding_end job before v = ending huge job (work_with job false) (before v)

  -- the row of some jobs: at v the earliest end of a list that fits and keeps the worth v
  unfoldable pub earliest : List Job → ℕ → ℕ
  earliest [] zero = 0
  earliest [] (suc v) = huge
  earliest (job ∷ jobs) v = min (keeping_end job (earliest jobs) v) (discarding_end job (earliest jobs) v)

  -- the marks from the last job to the first, for the worth v and the bound: a job is kept where the worth is reached by the bound with it kept
  unfoldable pub read_back : List Job → ℕ → ℕ → List Bool
  read_back [] v bound = []
  read_back (job ∷ jobs) v bound =
      pick (leb (keeping_end job (earliest jobs) v) bound)
      (true ∷ read_back jobs (v - worth job) (bound_before job (work_with job true) bound))
      (false ∷ read_back jobs v (bound_before job (work_with job false) bound))

  -- the greatest worth that a list that fits keeps
  abbrev pub most_worth : List Job → ℕ
  most_worth jobs = greatest huge (earliest jobs) (all_worth worth jobs)

  -- the keep list that the rows give
  unfoldable pub chosen_by_rows : List Job → List Bool
  chosen_by_rows jobs = read_back jobs (most_worth jobs) (huge - 1)

-- For proofs alone: the choice of optional parts by dynamic programming: one row of numbers a job, from the innermost job outwards, and the marks read back
-- from the outermost inwards. Jobs stand outermost first. What the code holds of it is said in Decisions.
use Rattle.std.specs.Prelude.{ℕ, zero, suc, ◌+◌, ◌-◌, min, List, [], ◌∷◌, map, Bool, true, false, leb, ltb, eqb}
use Rattle.base.specs.Tests.{pick}
use Rattle.base.specs.Sums.{total}
use Rattle.schedule.specs.declared.Job.{Job}
use Rattle.schedule.specs.Jobs.{window_ticks}

-- the mandatory ticks of all jobs
abbrev pub mandatory_sum : List Job → ℕ
mandatory_sum jobs = total (map (λ job. job.mandatory) jobs)

-- the ticks of the outermost window: no list that fits keeps more
abbrev pub outermost_ticks : List Job → ℕ
outermost_ticks [] = 0
outermost_ticks (job ∷ jobs) = window_ticks job

-- the worth of all optional parts
abbrev pub all_worth : (Job → ℕ) → List Job → ℕ
all_worth worth jobs = total (map worth jobs)

-- the greatest number up to n at which a row is below a limit, and 0 where there is none
unfoldable pub greatest : ℕ → (ℕ → ℕ) → ℕ → ℕ
greatest limit r zero = 0
greatest limit r (suc n) = pick (ltb (r (suc n)) limit) (suc n) (greatest limit r n)

-- `huge` is a number above the ticks of the outermost window: it stands in a row where no list fits
module _ (huge : ℕ) where
  -- x kept ticks where the window has room for them beside the mandatory ticks, and else huge
  unfoldable pub if_room : ℕ → ℕ → ℕ → ℕ
  if_room mandatory window x = pick (leb (mandatory + x) window) x huge

-- The rows and what is read back from them, over a worth of each optional part.
module _ (worth : Job → ℕ) (huge : ℕ) where
  -- the least ticks that keep the worth v where the job is kept, from the row of the jobs inside it
  unfoldable pub keeping : Job → (ℕ → ℕ) → ℕ → ℕ
  keeping job inner v = pick (leb (worth job) v) (job.optional + inner (v - worth job)) huge

  -- the row of some jobs: at v the least kept ticks of a list that fits and keeps the worth v
  unfoldable pub row : List Job → ℕ → ℕ
  row [] zero = 0
  row [] (suc v) = huge
  row (job ∷ jobs) v = if_room huge (mandatory_sum (job ∷ jobs)) (window_ticks job) (min (keeping job (row jobs) v) (row jobs v))

  -- the marks from the outermost job inwards, for the worth v and x kept ticks: a job is kept where x is reached with it kept
  unfoldable pub backtrack : List Job → ℕ → ℕ → List Bool
  backtrack [] v x = []
  backtrack (job ∷ jobs) v x =
      pick (eqb (keeping job (row jobs) v) x)
      (true ∷ backtrack jobs (v - worth job) (x - job.optional))
      (false ∷ backtrack jobs v x)

  -- the greatest worth that a list that fits keeps
  abbrev pub best_worth : List Job → ℕ
  best_worth jobs = greatest huge (row jobs) (all_worth worth jobs)

  -- the keep list that the rows give
  unfoldable pub by_rows : List Job → List Bool
  by_rows jobs = backtrack jobs (best_worth jobs) (row jobs (best_worth jobs))

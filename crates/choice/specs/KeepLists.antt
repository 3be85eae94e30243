-- For proofs alone: what they say of keep lists. Jobs stand last first, and so do the marks.
use Rattle.std.specs.Prelude.{ℕ, ◌≡◌, List, [], ◌∷◌, ◌++◌, Bool, true, false}
use Rattle.base.specs.Arrays.{first_places}
use Rattle.base.specs.Sums.{total}
use Rattle.schedule.specs.declared.Job.{Job}
use Rattle.choice.specs.Choice.{works_of, kept, discarded}

-- the work of all jobs together
abbrev pub total_work : List Job → List Bool → ℕ
total_work jobs keeps = total (works_of jobs keeps)

-- two lists differ, and at the last job where they do, in a nested table the outermost, the first keeps: before it in the list both have the marks `same`
pub record KeepsFirst (a b : List Bool) : Type 0 where
  pub same : List Bool
  pub rest_a : List Bool
  pub rest_b : List Bool
  pub keeps : a ≡ same ++ true ∷ rest_a
  pub discards : b ≡ same ++ false ∷ rest_b

-- 'An optional part of 0 ticks is marked 1': the list has one mark a job, and true for each such part
abbrev pub ZeroKept : List Job → List Bool → Type 0
ZeroKept [] [] = Unit {0}
ZeroKept [] (keep ∷ keeps) = ⊥
ZeroKept (job ∷ jobs) [] = ⊥
ZeroKept (job ∷ jobs) (keep ∷ keeps) = (job.optional ≡ 0 → keep ≡ true) × ZeroKept jobs keeps

-- what a choice of keep lists comes to for some jobs: the list that it takes, and the counts of that list, kept and discarded
abbrev pub ChosenFor : (List Job → List Bool) → List Job → List Bool → ℕ → ℕ → Type 0
ChosenFor choice jobs keeps k d = (keeps ≡ choice jobs) × (k ≡ kept jobs (choice jobs)) × (d ≡ discarded jobs (choice jobs))

-- the marks at the first `count` places of an array
abbrev pub keeps_in : List Bool → ℕ → List Bool
keeps_in keeps count = first_places false keeps count

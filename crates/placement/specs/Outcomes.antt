-- For proofs alone: what the theorems say of a placing: each job gets its work, and may get it.
use Rattle.std.specs.Prelude.{ℕ, ◌≡◌, List, [], ◌∷◌, Bool}
use Rattle.schedule.specs.declared.Job.{Job}
use Rattle.schedule.specs.Ticks.{Owner}
use Rattle.schedule.specs.Runnings.{got}
use Rattle.choice.specs.Choice.{works_of}

-- there is one work a job, and each job gets its work
abbrev pub GetsWorks : List Job → List ℕ → Owner → Type 0
GetsWorks [] [] owner = Unit {0}
GetsWorks [] (work ∷ works) owner = ⊥
GetsWorks (job ∷ jobs) [] owner = ⊥
GetsWorks (job ∷ jobs) (work ∷ works) owner = (got owner job ≡ work) × GetsWorks jobs works owner

-- there is one mark a job, and each job gets its work under its mark
abbrev pub GetsWork : List Job → List Bool → Owner → Type 0
GetsWork jobs keeps owner = GetsWorks jobs (works_of jobs keeps) owner

-- there is one work a job, and each job may get its work
abbrev pub MayGet : (Job → ℕ → Type 0) → List Job → List ℕ → Type 0
MayGet May [] [] = Unit {0}
MayGet May [] (work ∷ works) = ⊥
MayGet May (job ∷ jobs) [] = ⊥
MayGet May (job ∷ jobs) (work ∷ works) = May job work × MayGet May jobs works

-- A placing with its numbers by position: numbers and runs are together a running, in whatever order the jobs are listed.
use Prim.Native.Nat.{ℕ, ◌≤◌}
use mathlib.Core.Path.{◌≡◌, sym, ap, fun_ext, ◌∙◌}
use mathlib.Core.List.{List, [], ◌∷◌}
use mathlib.Core.Bool.{Bool, true}
use lib.ListN.{get_or}
use Rattle.schedule.specs.declared.Job.{Job}
use Rattle.schedule.specs.Jobs.{work_of}
use Rattle.schedule.specs.Ticks.{Owner, one_if}
use Rattle.schedule.specs.Runnings.{got, RunningOf, Whole}
use Rattle.base.specs.Members.{All}
use Rattle.schedule.specs.declared.Run.{Run}
use Rattle.schedule.specs.Runs.{owner_of, TogetherOf, Together}
use Rattle.choice.specs.Choice.{works_fit, works_of, fits}
use Rattle.choice.proofs.FitLaws.{work_mark, fits_length}
use Rattle.placement.specs.Chains.{Chain}
use Rattle.placement.specs.Placing.{works_placed, placed, stretches}
use Rattle.placement.specs.Outcomes.{GetsWorks, MayGet}
use Rattle.placement.proofs.PlacedRunnings.{marks_may, works_running}
use Rattle.placement.proofs.Sufficiency.{works_placed_lem}
use Rattle.placement.proofs.RunOrder.{Listed, works_listed}

-- numbers by position that say the works of jobs, which stand in the order of the jobs
abbrev pub SayWorks : (Job → ℕ → ℕ) → List Job → List ℕ → List ℕ → Type 0
SayWorks workBy [] [] numbers = Unit {0}
SayWorks workBy [] (work ∷ works) numbers = ⊥
SayWorks workBy (job ∷ jobs) [] numbers = ⊥
SayWorks workBy (job ∷ jobs) (work ∷ works) numbers = (workBy job (get_or numbers job.position 0) ≡ work) × SayWorks workBy jobs works numbers

-- numbers by position that say the same as a list of one number a job, in the order of the jobs
abbrev pub SameNumbers : List Job → List ℕ → List ℕ → Type 0
SameNumbers jobs list numbers = SayWorks (λ job number. number) jobs list numbers

-- each job gets the work that its number by position says
work_numbers : (workBy : Job → ℕ → ℕ) (owner : Owner) (jobs : List Job) (works numbers : List ℕ) → SayWorks workBy jobs works numbers
    → GetsWorks jobs works owner → All (λ job. got owner job ≡ workBy job (get_or numbers job.position 0)) jobs
work_numbers workBy owner [] works numbers s g = tt
work_numbers workBy owner (job ∷ jobs) [] numbers s g = absurd s
work_numbers workBy owner (job ∷ jobs) (work ∷ works) numbers s g =
    (g.0 ∙ sym s.0, work_numbers workBy owner jobs works numbers s.1 g.1)

-- Runs that say who has each tick of a running in which each job gets its work, and numbers that say the works, are together a running.
pub listed_together : (May : Job → ℕ → Type 0) (workBy : Job → ℕ → ℕ) (owner : Owner) (jobs : List Job) (works numbers : List ℕ) (runs : List Run)
    → Listed owner runs → RunningOf May jobs owner → GetsWorks jobs works owner → SayWorks workBy jobs works numbers
    → TogetherOf May workBy jobs numbers runs
listed_together May workBy owner jobs works numbers runs l r g s =
    let same : owner_of runs ≡ owner = fun_ext l.says in
    record { running = rw same r; work = rw same (work_numbers workBy owner jobs works numbers s g) }

-- Where works fit and each job may get its work, the numbers and the runs of the placing are together a running.
pub works_together : (May : Job → ℕ → Type 0) (workBy : Job → ℕ → ℕ) (jobs : List Job) (works numbers : List ℕ) → Chain jobs
    → works_fit jobs works ≡ true → MayGet May jobs works → SayWorks workBy jobs works numbers → (b : ℕ) → All (λ job. job.deadline ≤ b) jobs
    → TogetherOf May workBy jobs numbers (stretches (works_placed jobs works) b)
works_together May workBy jobs works numbers c e m s b a =
    listed_together May workBy (works_placed jobs works) jobs works numbers (stretches (works_placed jobs works) b) (works_listed jobs works c e b a)
    (works_running May jobs works c e m) (works_placed_lem jobs works c e).work s

-- marks by position, 1 kept and 0 discarded, that say the same as a keep list in the order of the jobs
abbrev pub SameMarks : List Job → List Bool → List ℕ → Type 0
SameMarks [] [] marks = Unit {0}
SameMarks [] (keep ∷ keeps) marks = ⊥
SameMarks (job ∷ jobs) [] marks = ⊥
SameMarks (job ∷ jobs) (keep ∷ keeps) marks = (get_or marks job.position 0 ≡ one_if keep) × SameMarks jobs keeps marks

-- they say its works
pub marks_say : (jobs : List Job) (keeps : List Bool) (marks : List ℕ) → SameMarks jobs keeps marks → SayWorks work_of jobs (works_of jobs keeps) marks
unfolding works_of
marks_say [] [] marks s = tt
marks_say [] (keep ∷ keeps) marks s = absurd s
marks_say (job ∷ jobs) [] marks s = absurd s
marks_say (job ∷ jobs) (keep ∷ keeps) marks s = (ap (work_of job) s.0 ∙ work_mark job keep, marks_say jobs keeps marks s.1)

-- Where the list fits, the marks and the runs of its placing are together a running.
pub placed_together : (jobs : List Job) (keeps : List Bool) (marks : List ℕ) → Chain jobs → fits jobs keeps ≡ true → SameMarks jobs keeps marks
    → (b : ℕ) → All (λ job. job.deadline ≤ b) jobs → Together jobs marks (stretches (placed jobs keeps) b)
placed_together jobs keeps marks c e s b a =
    works_together Whole work_of jobs (works_of jobs keeps) marks c e (marks_may jobs keeps (fits_length jobs keeps e)) (marks_say jobs keeps marks s) b a

-- Samples of the choice, on jobs in ticks: the windows that document 01's own clock, which does not wait for the end of a frame, gives P4, P5, P7, P8 and
-- P10.
use Rattle.std.specs.Prelude.{ℕ, ◌≡◌, List, [], ◌∷◌, Bool, true, false}
use Rattle.schedule.specs.declared.Job.{Job}
use Rattle.choice.specs.Choice.{chosen}

-- jobs, outermost first, with the marks expected of the choice
pub record ChoiceSample : Type 0 where
  pub jobs : List Job
  pub marks : List Bool

-- a job from its position, window, mandatory and optional ticks
abbrev pub job : ℕ → ℕ → ℕ → ℕ → ℕ → Job
job position release deadline mandatory optional =
    record { position = position; release = release; deadline = deadline; mandatory = mandatory; optional = optional }

-- P8: three windows, one inside the other
abbrev pub p8_jobs : List Job
p8_jobs = job 0 0 10 2 3 ∷ job 1 2 8 1 3 ∷ job 2 4 6 1 1 ∷ []

-- P10: two equal windows; the lower position is first in nest order, so the other is outermost
abbrev pub p10_jobs : List Job
p10_jobs = job 1 0 4 0 3 ∷ job 0 0 4 0 3 ∷ []

-- P4, P5, P7, P8 and P10
abbrev pub choice_samples : List ChoiceSample
choice_samples =
    record { jobs = job 0 0 200 100 50 ∷ []; marks = true ∷ [] }
    ∷ record { jobs = job 0 0 200 200 1 ∷ []; marks = false ∷ [] }
    ∷ record { jobs = job 0 0 200 0 0 ∷ []; marks = true ∷ [] }
    ∷ record { jobs = p8_jobs; marks = true ∷ false ∷ true ∷ [] }
    ∷ record { jobs = p10_jobs; marks = true ∷ false ∷ [] }
    ∷ []

-- the choice gives the marks of a sample
abbrev pub SampleHolds : ChoiceSample → Type 0
SampleHolds sample = chosen sample.jobs ≡ sample.marks

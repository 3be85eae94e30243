-- Small samples of similar jobs: windows that follow one another or overlap.
use Rattle.std.specs.Prelude.{◌≡◌, List, [], ◌∷◌, Bool, true, false}
use Rattle.schedule.specs.declared.Job.{Job}
use Rattle.schedule.specs.declared.Run.{Run}
use Rattle.choice.specs.ChoiceSamples.{job}
use Rattle.schedule.specs.Runs.{run_of as run}
use Rattle.sequence.specs.InOrder.{runs_in_order}
use Rattle.sequence.specs.OrderChoice.{chosen_in_order}

-- jobs, last first, with the marks and the runs expected
pub record OrderSample : Type 0 where
  pub jobs : List Job
  pub marks : List Bool
  pub runs : List Run

-- windows 0 to 5 and 5 to 9: both fit whole
abbrev pub follow_jobs : List Job
follow_jobs = job 1 5 9 1 2 ∷ job 0 0 5 2 3 ∷ []

-- windows 0 to 6 and 3 to 9: the work of both is one tick more than there is, so one part goes; the last job keeps its own
abbrev pub tie_jobs : List Job
tie_jobs = job 1 3 9 2 3 ∷ job 0 0 6 2 3 ∷ []

-- an empty window, its release one above its deadline, with no work, between two others
abbrev pub empty_jobs : List Job
empty_jobs = job 2 5 9 2 0 ∷ job 1 5 4 0 0 ∷ job 0 0 4 1 0 ∷ []

-- windows 0 to 4 and 1 to 5, of which one part goes: the longer is kept, since it stands last; the least total of kept ticks would keep the other
abbrev pub longer_jobs : List Job
longer_jobs = job 1 1 5 1 3 ∷ job 0 0 4 1 1 ∷ []

-- three windows, of which one part goes: the first. A list that keeps the first part and not the second fits as well and ends earlier: on the way
-- back the bound decides, and not the earliest end.
abbrev pub bound_jobs : List Job
bound_jobs = job 2 2 5 0 1 ∷ job 1 1 4 0 3 ∷ job 0 0 3 0 2 ∷ []

-- the samples, each with its marks and its runs
abbrev pub order_samples : List OrderSample
order_samples =
    record { jobs = follow_jobs; marks = true ∷ true ∷ []; runs = run 0 5 0 ∷ run 5 8 1 ∷ [] }
    ∷ record { jobs = tie_jobs; marks = true ∷ false ∷ []; runs = run 0 2 0 ∷ run 3 8 1 ∷ [] }
    ∷ record { jobs = empty_jobs; marks = true ∷ true ∷ true ∷ []; runs = run 0 1 0 ∷ run 5 7 2 ∷ [] }
    ∷ record { jobs = longer_jobs; marks = true ∷ false ∷ []; runs = run 0 1 0 ∷ run 1 5 1 ∷ [] }
    ∷ record { jobs = bound_jobs; marks = true ∷ true ∷ false ∷ []; runs = run 1 4 1 ∷ run 4 5 2 ∷ [] }
    ∷ []

-- the choice gives the marks of a sample, and they the runs
abbrev pub SampleHolds : OrderSample → Type 0
SampleHolds sample = (chosen_in_order sample.jobs ≡ sample.marks) × (runs_in_order sample.jobs (chosen_in_order sample.jobs) ≡ sample.runs)

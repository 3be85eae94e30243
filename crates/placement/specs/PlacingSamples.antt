-- Samples of the placing, on the jobs of the samples of the choice: the chosen list is placed, and its runs are those that document 01 gives.
use Rattle.std.specs.Prelude.{◌≡◌, List, [], ◌∷◌}
use Rattle.schedule.specs.declared.Job.{Job}
use Rattle.schedule.specs.declared.Run.{Run}
use Rattle.schedule.specs.Runs.{run_of as run}
use Rattle.choice.specs.Choice.{chosen}
use Rattle.choice.specs.ChoiceSamples.{job, p8_jobs, p10_jobs}
use Rattle.placement.specs.Placing.{runs_placed}

-- jobs, outermost first, and the runs expected
pub record PlacingSample : Type 0 where
  pub jobs : List Job
  pub runs : List Run

-- P4, P5, P7, P8 and P10
abbrev pub placing_samples : List PlacingSample
placing_samples =
    record { jobs = job 0 0 200 100 50 ∷ []; runs = run 50 200 0 ∷ [] }
    ∷ record { jobs = job 0 0 200 200 1 ∷ []; runs = run 0 200 0 ∷ [] }
    ∷ record { jobs = job 0 0 200 0 0 ∷ []; runs = [] }
    ∷ record { jobs = p8_jobs; runs = run 2 4 0 ∷ run 4 6 2 ∷ run 6 7 0 ∷ run 7 8 1 ∷ run 8 10 0 ∷ [] }
    ∷ record { jobs = p10_jobs; runs = run 1 4 1 ∷ [] }
    ∷ []

-- placing gives the runs of a sample
abbrev pub SampleHolds : PlacingSample → Type 0
SampleHolds sample = runs_placed sample.jobs (chosen sample.jobs) ≡ sample.runs

-- For the proofs of placing's code alone: the placing by runs: a list of runs, latest first, into whose gaps each job is filled from its deadline downwards.
-- Jobs stand outermost first. How the code holds the runs is said in HeldRuns.
use Rattle.std.specs.Prelude.{ℕ, zero, suc, ◌-◌, min, List, [], ◌∷◌, Bool}
use Rattle.schedule.specs.declared.Job.{Job}
use Rattle.schedule.specs.declared.Run.{Run}
use Rattle.choice.specs.Choice.{works_of}

-- the run of task i that has the last n ticks below `top`
abbrev pub run_below : ℕ → ℕ → ℕ → Run
run_below i top n = record { start = top - n; end = top; task = i }

-- one more run of task i, of n ticks that end at `top`; no run where n is 0
abbrev pub add_run : ℕ → ℕ → ℕ → List Run → List Run
add_run i top zero runs = runs
add_run i top (suc n) runs = run_below i top (suc n) ∷ runs

-- task i takes the last w free ticks from `release` to `top`, gap by gap downwards: what a gap holds, up to w, and below the gap's run the rest
unfoldable pub fill : ℕ → ℕ → List Run → ℕ → ℕ → List Run
fill i release [] top w = add_run i top (min w (top - release)) []
fill i release (run ∷ runs) top w =
    add_run i top (min w (top - run.end)) (run ∷ fill i release runs run.start (w - (top - run.end)))

-- the runs of jobs of given works, latest first: the jobs after one in the list are filled in before it
unfoldable pub works_filled : List Job → List ℕ → List Run
works_filled [] works = []
works_filled (job ∷ jobs) [] = []
works_filled (job ∷ jobs) (work ∷ works) = fill job.position job.release (works_filled jobs works) job.deadline work

-- the same under a keep list
abbrev pub filled : List Job → List Bool → List Run
filled jobs keeps = works_filled jobs (works_of jobs keeps)

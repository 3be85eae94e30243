-- Run lists, the columns of numbers that a planner writes them in, the owner of ticks that a run list describes, and when a keep list and runs are together
-- a running.
use Rattle.std.specs.Prelude.{ℕ, ◌≡◌, List, [], ◌∷◌, map, Bool, leb, ltb, length, get_or}
use Rattle.std.proofs.Math.Option.{none, some}
use Rattle.base.specs.Limits.{max_runs}
use Rattle.base.specs.Tests.{pick, and}
use Rattle.base.specs.Places.{places}
use Rattle.schedule.specs.declared.Job.{Job}
use Rattle.schedule.specs.declared.Run.{Run}
use Rattle.schedule.specs.Jobs.{work_of}
use Rattle.schedule.specs.Ticks.{Owner}
use Rattle.schedule.specs.Runnings.{got, RunningOf, Whole}
use Rattle.base.specs.Members.{All}
use Rattle.base.specs.Sums.{total}

-- a run by its start, its end and its task, and the run of which every number is 0
abbrev pub run_of : ℕ → ℕ → ℕ → Run
run_of start end task = record { start = start; end = end; task = task }

abbrev pub no_run : Run
no_run = run_of 0 0 0

-- more than 4,096 runs: the cause of 13
unfoldable pub too_many : List Run → Bool
too_many runs = ltb max_runs (length runs)

-- the run at an index of columns of one length, and the run list that they are
unfoldable pub run_at_index : List ℕ → List ℕ → List ℕ → ℕ → Run
run_at_index starts ends tasks k = run_of (get_or starts k 0) (get_or ends k 0) (get_or tasks k 0)

unfoldable pub runs_of : List ℕ → List ℕ → List ℕ → List Run
runs_of starts ends tasks = places (run_at_index starts ends tasks) (length starts)

-- the columns of a run list
abbrev pub starts_of : List Run → List ℕ
starts_of runs = map (λ run. run.start) runs

abbrev pub ends_of : List Run → List ℕ
ends_of runs = map (λ run. run.end) runs

abbrev pub tasks_of : List Run → List ℕ
tasks_of runs = map (λ run. run.task) runs

-- the sum of `number run` over the runs of a list
abbrev pub sum_runs : (Run → ℕ) → List Run → ℕ
sum_runs number runs = total (map number runs)

-- the run holds the tick
abbrev pub run_holds : Run → ℕ → Bool
run_holds run tick = and (leb run.start tick) (ltb tick run.end)

-- who has each tick: the task of the first run that holds it, or none
unfoldable pub owner_of : List Run → Owner
owner_of [] tick = none
owner_of (run ∷ runs) tick = pick (run_holds run tick) (some run.task) (owner_of runs tick)

-- a list of numbers, one a position, and runs are together a running: the runs are one, and each job gets the work that its number says
pub record TogetherOf (May : Job → ℕ → Type 0) (workBy : Job → ℕ → ℕ) (jobs : List Job) (numbers : List ℕ) (runs : List Run) : Type 0 where
  pub running : RunningOf May jobs (owner_of runs)
  pub work : All (λ job. got (owner_of runs) job ≡ workBy job (get_or numbers job.position 0)) jobs

-- a keep list and runs are together a running: the runs are one, and each job gets the work that its mark says
abbrev pub Together : List Job → List ℕ → List Run → Type 0
Together jobs marks runs = TogetherOf Whole work_of jobs marks runs

-- Where the work of each job is placed, tick by tick. Jobs stand outermost first (nest order from its last to its first), and so do their works.
use Rattle.std.specs.Prelude.{ℕ, zero, suc, List, [], ◌∷◌, reverse, Bool, true, false, not, leb, ltb, eqb}
use Rattle.std.proofs.Math.Option.{Option, none, some}
use Rattle.base.specs.Tests.{pick, and}
use Rattle.schedule.specs.declared.Job.{Job}
use Rattle.schedule.specs.Ticks.{Owner, count_between, is_owned}
use Rattle.schedule.specs.declared.Run.{Run}
use Rattle.choice.specs.Choice.{works_of}

-- a tick is free where no task has it
abbrev pub is_free : Option ℕ → Bool
is_free owner = not (is_owned owner)

-- how many of the ticks from a, included, to b, excluded, are free
abbrev pub free_in : Owner → ℕ → ℕ → ℕ
free_in owner a b = count_between (λ tick. is_free (owner tick)) a b

-- a free tick goes to task i where the test holds; any other stays as it is
abbrev pub give : ℕ → Bool → Option ℕ → Option ℕ
give i true none = some i
give i false none = none
give i test (some k) = some k

-- a job of w ticks reaches back to a tick of its window if fewer than w free ticks of the window lie after it
abbrev pub reaches_back : Owner → Job → ℕ → ℕ → Bool
reaches_back owner job w tick = and (leb job.release tick) (and (ltb tick job.deadline) (ltb (free_in owner (suc tick) job.deadline) w))

-- 'Each task takes the latest ticks of its window that are still free, as many as its work': the free ticks that it reaches back to
abbrev pub place_job : Owner → Job → ℕ → Owner
place_job owner job w tick = give job.position (reaches_back owner job w tick) (owner tick)

-- 'Placing goes in nest order': the jobs after one in the list are placed before it. Jobs that have no work given are not placed.
unfoldable pub works_placed : List Job → List ℕ → Owner
works_placed [] works tick = none
works_placed (job ∷ jobs) [] tick = none
works_placed (job ∷ jobs) (work ∷ works) tick = place_job (works_placed jobs works) job work tick

-- the same under a keep list
abbrev pub placed : List Job → List Bool → Owner
placed jobs keeps = works_placed jobs (works_of jobs keeps)

-- 'A run is (start, end, task), end excluded; in a plan it is a longest stretch of one task.'

-- one more tick of task i, after runs that stand latest first: the latest run grows by it where it ends there and is of task i; else the tick
-- begins a run
abbrev pub join_task : ℕ → ℕ → List Run → List Run
join_task tick i [] = record { start = tick; end = suc tick; task = i } ∷ []
join_task tick i (run ∷ runs) =
    pick (and (eqb run.end tick) (eqb run.task i))
    (record { start = run.start; end = suc tick; task = i } ∷ runs)
    (record { start = tick; end = suc tick; task = i } ∷ (run ∷ runs))

-- one more tick, of a task or free
abbrev pub join_tick : ℕ → Option ℕ → List Run → List Run
join_tick tick none runs = runs
join_tick tick (some i) runs = join_task tick i runs

-- the longest stretches of one task among the ticks below n, the latest first
unfoldable pub latest_first : Owner → ℕ → List Run
latest_first owner zero = []
latest_first owner (suc n) = join_tick n (owner n) (latest_first owner n)

-- 'Runs are listed by start.'
abbrev pub stretches : Owner → ℕ → List Run
stretches owner n = reverse (latest_first owner n)

-- the deadline of the outermost job, and 0 where there is none: in a chain of jobs no tick from there on is anyone's
abbrev pub outermost_deadline : List Job → ℕ
outermost_deadline [] = 0
outermost_deadline (job ∷ jobs) = job.deadline

-- the runs of jobs of given works, by start
abbrev pub works_runs : List Job → List ℕ → List Run
works_runs jobs works = stretches (works_placed jobs works) (outermost_deadline jobs)

-- the same under a keep list
abbrev pub runs_placed : List Job → List Bool → List Run
runs_placed jobs keeps = works_runs jobs (works_of jobs keeps)

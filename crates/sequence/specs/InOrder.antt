-- Running in order, each job as early as it can: when the work of jobs ends, which keep lists fit, who has each tick, where the runs lie, and which
-- job is late. Jobs stand last first (similar order from its last to its first), and so do their marks.
use Rattle.std.specs.Prelude.{ℕ, ◌+◌, max, List, [], ◌∷◌, Bool, true, false, leb, ltb}
use Rattle.std.proofs.Math.Option.{none, some}
use Rattle.base.specs.Tests.{pick, and}
use Rattle.schedule.specs.declared.Job.{Job}
use Rattle.schedule.specs.declared.Run.{Run}
use Rattle.schedule.specs.Jobs.{work_with}
use Rattle.schedule.specs.Ticks.{Owner}
use Rattle.choice.specs.Choice.{keep_none}
use Rattle.placement.specs.Placing.{stretches}

-- the earliest start of a job where no job before it has a tick from `time` on
abbrev pub starts_at : Job → ℕ → ℕ
starts_at job time = max time job.release

-- where w ticks of a job end, run as early as they can from `time` on; where there are none, `time` stays
unfoldable pub ends_at : Job → ℕ → ℕ → ℕ
ends_at job w time = pick (ltb 0 w) (starts_at job time + w) time

-- they end by the deadline; where there are none, nothing is tested
unfoldable pub in_time : Job → ℕ → ℕ → Bool
in_time job w time = pick (ltb 0 w) (leb (starts_at job time + w) job.deadline) true

-- 'Each task runs in that order, as early as it can': when the work of all jobs has ended
unfoldable pub finish : List Job → List Bool → ℕ
finish [] keeps = 0
finish (job ∷ jobs) [] = 0
finish (job ∷ jobs) (keep ∷ keeps) = ends_at job (work_with job keep) (finish jobs keeps)

-- 'a list fits if all its work then ends by the deadlines'. A list with fewer or more marks than jobs does not fit.
unfoldable pub fits_in_order : List Job → List Bool → Bool
fits_in_order [] [] = true
fits_in_order [] (keep ∷ keeps) = false
fits_in_order (job ∷ jobs) [] = false
fits_in_order (job ∷ jobs) (keep ∷ keeps) = and (in_time job (work_with job keep) (finish jobs keeps)) (fits_in_order jobs keeps)

-- the tick is one of the w ticks that a job takes, run as early as it can from `time` on
abbrev pub takes_tick : Job → ℕ → ℕ → ℕ → Bool
takes_tick job w time tick = and (leb (starts_at job time) tick) (ltb tick (starts_at job time + w))

-- 'Each task runs in that order, as early as it can': who has each tick. A job that has no mark is not placed.
unfoldable pub placed_in_order : List Job → List Bool → Owner
placed_in_order [] keeps tick = none
placed_in_order (job ∷ jobs) [] tick = none
placed_in_order (job ∷ jobs) (keep ∷ keeps) tick =
    pick (takes_tick job (work_with job keep) (finish jobs keeps) tick) (some job.position) (placed_in_order jobs keeps tick)

-- the runs, by start: the longest stretches of one task
abbrev pub runs_in_order : List Job → List Bool → List Run
runs_in_order jobs keeps = stretches (placed_in_order jobs keeps) (finish jobs keeps)

-- 8 'names the first task in its kind's order where the mandatory ticks up to and with it can't be met': the position of the first job in similar
-- order whose mandatory ticks, run in order as early as they can up to and with it, end after its deadline, and n where there is none
unfoldable pub first_late : ℕ → List Job → ℕ
first_late n [] = n
first_late n (job ∷ jobs) =
    pick (ltb (first_late n jobs) n) (first_late n jobs) (pick (in_time job job.mandatory (finish jobs (keep_none jobs))) n job.position)

-- The limits of the planner, named once for every definition. The code's names for the same numbers are the constants of src/lib.rt; `most_runs` and
-- `last_tick` have none.
-- `max_ticks` and `last_tick` stand in proofs and in contracts of inner functions: writing's 12 goes by the width of a field.
use Rattle.std.specs.Prelude.{ℕ, ◌+◌, ◌-◌, ◌*◌, Bool, ltb, eqb}
use Rattle.base.specs.Tests.{or}

-- the most tasks of a table, and the places of a table value
abbrev pub max_tasks : ℕ
max_tasks = 64

-- the most runs of a plan of n tasks: 'For n tasks there are never more than 2n − 1.'
abbrev pub most_runs : ℕ → ℕ
most_runs n = 2 * n - 1

-- the most runs of a plan
abbrev pub max_plan_runs : ℕ
max_plan_runs = most_runs max_tasks

-- the most runs of a run list
abbrev pub max_runs : ℕ
max_runs = 4_096

-- the last frame that a table can name
abbrev pub last_frame : ℕ
last_frame = 131_071

-- the greatest p and q of a period p/q
abbrev pub max_period : ℕ
max_period = 4_095

-- p or q is 0 or above 4,095, or p is below q
abbrev pub bad_period : ℕ → ℕ → Bool
bad_period p q = or (eqb p 0) (or (eqb q 0) (or (ltb max_period p) (or (ltb max_period q) (ltb p q))))

-- the greatest length of a mandatory or an optional part in ticks
abbrev pub max_ticks : ℕ
max_ticks = 16_383

-- the greatest launch tick: the last tick of a day of 24 hours
abbrev pub max_launch : ℕ
max_launch = 86_399_999

-- the greatest weight of an optional part in a weighted table
abbrev pub max_weight : ℕ
max_weight = 15

-- the greatest tick that a frame can mean: the end of the last frame at the longest period, after the greatest launch tick
abbrev pub last_tick : ℕ
last_tick = (last_frame + 1) * max_period + max_launch

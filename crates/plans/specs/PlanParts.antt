-- For proofs alone: parts of the plan of jobs, and of a table at a launch tick, that no contract of a call names.
use Rattle.std.specs.Prelude.{ℕ, List, Bool, ltb}
use Rattle.base.specs.Tests.{pick}
use Rattle.base.specs.Places.{places}
use Rattle.base.specs.Lent.{written_front}
use Rattle.table.specs.declared.Table.{Table}
use Rattle.table.specs.Kinds.{is_nested}
use Rattle.schedule.specs.declared.Job.{Job}
use Rattle.schedule.specs.Ticks.{Owner}
use Rattle.schedule.specs.Runs.{starts_of, ends_of, tasks_of}
use Rattle.choice.specs.Choice.{fits, keep_none}
use Rattle.placement.specs.Placing.{placed}
use Rattle.sequence.specs.InOrder.{fits_in_order, placed_in_order}
use Rattle.orders.specs.KindOrder.{jobs_last_first}
use Rattle.plans.specs.declared.Planned.{Planned}
use Rattle.plans.specs.Planning.{LentLists, unmet_by, chosen_by, runs_by, mark_at, too_short, plan_declined, made_by}

-- a keep list fits, of jobs of a nested table or of a similar one
unfoldable pub fits_by : Bool → List Job → List Bool → Bool
fits_by nested jobs keeps = pick nested (fits jobs keeps) (fits_in_order jobs keeps)

-- who has each tick under a keep list
unfoldable pub placed_by : Bool → List Job → List Bool → Owner
placed_by nested jobs keeps = pick nested (placed jobs keeps) (placed_in_order jobs keeps)

-- the lists with the marks of a keep list of n jobs, and their runs under it, written at the fronts
unfoldable pub written_with : Bool → ℕ → List Job → List Bool → LentLists → LentLists
written_with nested n jobs keeps lists =
    record {
      marks = written_front (places (mark_at jobs keeps) n) lists.marks;
      starts = written_front (starts_of (runs_by nested jobs keeps)) lists.starts;
      ends = written_front (ends_of (runs_by nested jobs keeps)) lists.ends;
      tasks = written_front (tasks_of (runs_by nested jobs keeps)) lists.tasks;
    }

-- what is refused of n jobs, for lists of these lengths: 8, then 9; a reply of 0 throughout where neither is
unfoldable pub refused_by : Bool → ℕ → List Job → ℕ → ℕ → ℕ → ℕ → Planned
refused_by nested n jobs marks starts ends tasks =
    pick (ltb (unmet_by nested n jobs) n) (plan_declined 8 (unmet_by nested n jobs))
    (pick (too_short n marks starts ends tasks) (plan_declined 9 0) (plan_declined 0 0))

-- the mandatory parts alone fit
unfoldable pub mandatory_fit : ℕ → Table → Bool
mandatory_fit launch t = fits_by (is_nested t) (jobs_last_first launch t) (keep_none (jobs_last_first launch t))

-- the place of an 8, and the task count where there is none
unfoldable pub unmet_place : ℕ → Table → ℕ
unmet_place launch t = unmet_by (is_nested t) t.count (jobs_last_first launch t)

-- the keep list, in the order of the kind, last first
unfoldable pub chosen_marks : ℕ → (ℕ → ℕ) → Table → List Bool
chosen_marks launch weight t = chosen_by (is_nested t) weight (jobs_last_first launch t)

-- the reply of a plan
unfoldable pub plan_of : ℕ → (ℕ → ℕ) → Table → Planned
plan_of launch weight t = made_by (is_nested t) weight (jobs_last_first launch t)

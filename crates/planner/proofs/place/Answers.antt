-- `planner::place` meets its contract: the kind says which placing it is.
use native.Mathlib.Omega.{arith}
use Rattle.plans.specs.Planning.{runs_by}
use Rattle.plans.specs.PlanParts.{fits_by}
use Rattle.plans.proofs.ArrayLaws.{array_distinct}
use Rattle.ordering.specs.Kinds.{by_nesting}
use Rattle.planner.proofs.place.Goals as goal

pub place-requires : goal.place-requires
unfolding fits_by
place-requires c =
    record { count_le_max_tasks = c.requires.held_jobs.few; all_bounded = c.requires.held_jobs.bounded; chain = rw c.in-Nested.is at c.requires.held_jobs.kind; keeps_value = rw c.in-Nested.is at c.requires.keeps_value; runs_room = c.requires.runs_room }

pub returns-in-Nested : goal.returns-in-Nested
unfolding runs_by
returns-in-Nested c =
    record { value = rw c.in-Nested.is c.place.ensures.value; runs_put = rw c.in-Nested.is c.place.ensures.runs_put }

pub place-requires-in-Similar : goal.place-requires-in-Similar
unfolding fits_by
place-requires-in-Similar c =
    record { count_le_max_tasks = c.requires.held_jobs.few; all_bounded = c.requires.held_jobs.bounded; distinct = array_distinct (by_nesting c.args.kind) c.args.jobs.now c.requires.held_jobs; keeps_value = rw c.in-Similar.is at c.requires.keeps_value; count_in_bounds = (omega arith, omega arith, omega arith) }

pub returns-in-Similar : goal.returns-in-Similar
unfolding runs_by
returns-in-Similar c =
    record { value = rw c.in-Similar.is c.place-in-Similar.ensures.value; runs_put = rw c.in-Similar.is c.place-in-Similar.ensures.runs_put }

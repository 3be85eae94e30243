-- `planner::choose` meets its contract: the kind says which choice it is.
use Rattle.plans.specs.Planning.{chosen_by}
use Rattle.plans.specs.PlanParts.{fits_by}
use Rattle.planner.proofs.choose.Goals as goal

pub choose-requires : goal.choose-requires
unfolding fits_by
choose-requires c =
    record { count_le_max_tasks = c.requires.held_jobs.few; all_bounded = c.requires.held_jobs.bounded; count_value = rw c.in-Nested.is at c.requires.none_value }

pub returns-in-Nested : goal.returns-in-Nested
unfolding chosen_by
returns-in-Nested c =
    rw c.in-Nested.is c.choose.ensures

pub choose-requires-in-Similar : goal.choose-requires-in-Similar
unfolding fits_by
choose-requires-in-Similar c =
    record { count_le_max_tasks = c.requires.held_jobs.few; all_bounded = c.requires.held_jobs.bounded; count_value = rw c.in-Similar.is at c.requires.none_value }

pub returns-in-Similar : goal.returns-in-Similar
unfolding chosen_by
returns-in-Similar c =
    rw c.in-Similar.is c.choose-in-Similar.ensures

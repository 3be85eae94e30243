-- `planner::first_unmet` meets its contract: the kind says which search it is.
use Rattle.plans.specs.Planning.{unmet_by}
use Rattle.planner.proofs.first_unmet.Goals as goal

pub returns-in-Nested : goal.returns-in-Nested
unfolding unmet_by
returns-in-Nested c =
    rw c.in-Nested.is c.first_exceeding.ensures

pub returns-in-Similar : goal.returns-in-Similar
unfolding unmet_by
returns-in-Similar c =
    rw c.in-Similar.is c.first_late.ensures

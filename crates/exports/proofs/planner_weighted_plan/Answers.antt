-- `exports::planner_weighted_plan` meets its contract: the clauses of `weighted_planner::plan` that say what is replied and written.
use Rattle.exports.proofs.planner_weighted_plan.Goals as goal

pub returns : goal.returns
returns c =
    record { reply = c.plan.ensures.reply; lists_after = c.plan.ensures.lists_after }

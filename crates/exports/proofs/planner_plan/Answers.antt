-- `exports::planner_plan` meets its contract: the clauses of `planner::plan` that say what is replied and written.
use Rattle.exports.proofs.planner_plan.Goals as goal

pub returns : goal.returns
returns c =
    record { reply = c.plan.ensures.reply; lists_after = c.plan.ensures.lists_after }

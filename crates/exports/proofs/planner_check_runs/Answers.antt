-- `exports::planner_check_runs` meets its contract: each part of the reply is that of the answer.
use Rattle.exports.specs.QueryReplies.{checked_reply}
use Rattle.exports.proofs.planner_check_runs.Goals as goal

pub returns-in-Ok : goal.returns-in-Ok
unfolding checked_reply
returns-in-Ok c = rw (← c.in-Ok.ensures)

pub returns-in-Err : goal.returns-in-Err
unfolding checked_reply
returns-in-Err c = rw (← c.in-Err.ensures, c.number.ensures, c.place.ensures)

-- `exports::found_reply` meets its contract: each part of the reply is that of the answer.
use Rattle.exports.specs.QueryReplies.{found_reply}
use Rattle.exports.proofs.found_reply.Goals as goal

pub returns-in-Ok : goal.returns-in-Ok
unfolding found_reply
returns-in-Ok c = rw (c.in-Ok.is, c.is_some.ensures, c.unwrap_or.ensures)

pub returns-in-Err : goal.returns-in-Err
unfolding found_reply
returns-in-Err c = rw (c.in-Err.is, c.number.ensures, c.place.ensures)

-- `checking::check` meets its contract: 13 by the number of runs, then 15 by the first index that is out of order.
use Rattle.checking.proofs.OrderLaws.{says_many, says_order, says_accepted}
use Rattle.schedule.specs.Runs.{too_many}
use Rattle.checking.proofs.check.Goals as goal

pub returns-then-too_many : goal.returns-then-too_many
unfolding too_many
returns-then-too_many c = says_many _ _ c.too_many.ensures c.if-too_many.true

pub returns-then-some_out_of_order : goal.returns-then-some_out_of_order
unfolding too_many
returns-then-some_out_of_order c =
    says_order _ _ c.too_many.ensures c.if-too_many.false _ c.some_out_of_order.ensures _ c.first_out_of_order.ensures c.if-some_out_of_order.true

pub returns : goal.returns
unfolding too_many
returns c = says_accepted _ _ c.too_many.ensures c.if-too_many.false _ c.some_out_of_order.ensures c.if-some_out_of_order.false

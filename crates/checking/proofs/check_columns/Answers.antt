-- `checking::check_columns` meets its contract: 13 by the number of starts, then 15 by the first index that is out of order.
use Rattle.std.proofs.Common.{sym, ◌∙◌}
use Rattle.schedule.proofs.ColumnLaws.{columns_many}
use Rattle.checking.proofs.OrderLaws.{says_many, says_order, says_accepted}
use Rattle.checking.proofs.check_columns.Goals as goal

pub returns-then-too_many : goal.returns-then-too_many
returns-then-too_many c tasks = says_many _ _ (c.too_many.ensures ∙ sym (columns_many _ _ tasks)) c.if-too_many.true

pub returns-then-some_of_columns : goal.returns-then-some_of_columns
returns-then-some_of_columns c tasks =
    says_order _ _ (c.too_many.ensures ∙ sym (columns_many _ _ tasks)) c.if-too_many.false _ (c.some_of_columns.ensures tasks) _ (c.first_of_columns.ensures tasks)
    c.if-some_of_columns.true

pub returns-else-some_of_columns : goal.returns-else-some_of_columns
returns-else-some_of_columns c tasks =
    says_accepted _ _ (c.too_many.ensures ∙ sym (columns_many _ _ tasks)) c.if-too_many.false _ (c.some_of_columns.ensures tasks) c.if-some_of_columns.false

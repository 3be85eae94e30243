-- `table::Table::nested_answer` meets its contract: the windows of the columns are those of the table.
use mathlib.Core.Path.{◌∙◌}
use Rattle.table.proofs.WindowLaws.{held_nested}
use Rattle.table.proofs.Table.nested_answer.Goals as goal

pub returns : goal.returns
returns c =
    c.nested_answer.ensures ∙ held_nested _ _ _ c.windows.ensures

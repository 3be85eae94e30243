-- `table::Table::window_answer` meets its contract: the windows of the columns are those of the table.
use mathlib.Core.Path.{◌∙◌}
use Rattle.table.proofs.WindowLaws.{held_answer}
use Rattle.table.proofs.Table.window_answer.Goals as goal

pub returns : goal.returns
returns c =
    c.answer.ensures ∙ held_answer _ _ c.windows.ensures

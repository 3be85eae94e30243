-- `table::Table::none` meets its contract: the constructor's table of no task is 0 throughout.
use mathlib.Core.Path.{◌∙◌}
use Rattle.table.proofs.TableLaws.{no_table_lem}
use Rattle.table.proofs.Table.none.Goals as goal

pub returns : goal.returns
returns c =
    c.new.ensures ∙ no_table_lem _

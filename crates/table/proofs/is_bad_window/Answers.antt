-- `table::is_bad_window` meets its contract.
use mathlib.Core.Path.{refl}
use Rattle.table.specs.Windows.{bad_window}
use Rattle.table.proofs.is_bad_window.Goals as goal

pub returns : goal.returns
unfolding bad_window
returns c =
    refl

-- `table::window_contains` meets its contract: both tests are made.
use mathlib.Core.Path.{refl}
use Rattle.table.specs.Windows.{contains}
use Rattle.table.proofs.window_contains.Goals as goal

pub returns : goal.returns
unfolding contains
returns c =
    refl

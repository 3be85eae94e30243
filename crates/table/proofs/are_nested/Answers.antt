-- `table::are_nested` meets its contract: both ways are looked at.
use mathlib.Core.Path.{ap₂}
use Rattle.base.specs.Tests.{or}
use Rattle.table.specs.Windows.{nested}
use Rattle.table.proofs.are_nested.Goals as goal

pub returns : goal.returns
unfolding nested
returns c =
    ap₂ or c.window_contains.ensures c.window_contains-2.ensures

-- `table::first_crossing` meets its contract: no window that was passed crosses an earlier one.
use Rattle.std.proofs.Common.{◌≡◌, ◌<◌, ℕ, false}
use Rattle.table.specs.Windows.{nested}
use Rattle.table.specs.Kinds.{fails_earlier}
use Rattle.table.specs.WindowColumns.{window_at}
use Rattle.table.proofs.rules.first_crossing.Given as goal

abbrev pub invariant-loop-k : goal.invariant-loop-k
invariant-loop-k l = (j : ℕ) → j < l.k → fails_earlier nested (window_at l.releases l.deadlines) j ≡ false

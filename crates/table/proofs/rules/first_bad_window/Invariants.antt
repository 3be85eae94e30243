-- `table::first_bad_window` meets its contract: no window that was passed is bad.
use Rattle.std.proofs.Common.{◌≡◌, ◌<◌, ℕ, false}
use Rattle.table.specs.Windows.{bad_window}
use Rattle.table.specs.WindowColumns.{window_at}
use Rattle.table.proofs.rules.first_bad_window.Given as goal

abbrev pub invariant-loop-k : goal.invariant-loop-k
invariant-loop-k l = (j : ℕ) → j < l.k → bad_window (window_at l.releases l.deadlines j) ≡ false

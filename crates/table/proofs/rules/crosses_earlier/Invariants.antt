-- `table::crosses_earlier` meets its contract: the flag says whether some window that was passed is not nested with the task's.
use Rattle.std.proofs.Common.{◌≡◌, not}
use Rattle.base.specs.Lowest.{some_below}
use Rattle.table.specs.Windows.{nested}
use Rattle.table.specs.WindowColumns.{window_at}
use Rattle.table.proofs.rules.crosses_earlier.Given as goal

abbrev pub invariant-loop-j : goal.invariant-loop-j
invariant-loop-j l = l.crossing ≡ some_below (λ i. not (nested (window_at l.releases l.deadlines i) l.task)) l.j

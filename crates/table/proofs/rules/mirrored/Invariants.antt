-- `table::mirrored` meets its contract: the places that were passed hold their deadlines mirrored.
use Rattle.std.proofs.Common.{◌-◌, ◌≤◌, ◌<◌, ℕ, get_or}
use Rattle.base.specs.Limits.{max_tasks}
use Rattle.base.proofs.ArrayFilling.{Filled}
use Rattle.table.specs.WindowColumns.{greatest_number}
use Rattle.table.proofs.rules.mirrored.Given as goal

abbrev pub invariant-loop-k : goal.invariant-loop-k
invariant-loop-k l =
    Filled 0 (λ j. greatest_number - get_or l.deadlines j 0) max_tasks l.count l.k l.column
    × ((j : ℕ) → j < l.k → get_or l.deadlines j 0 ≤ greatest_number)

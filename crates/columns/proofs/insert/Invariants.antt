-- `columns::insert` meets its contract. The loop's invariant: the numbers from place k to the end are moved up.
use Prim.Native.Nat.{◌≤◌}
use Rattle.columns.proofs.ColumnLaws.{Moved}
use Rattle.columns.proofs.insert.Given as goal

abbrev pub invariant-loop-k : goal.invariant-loop-k
invariant-loop-k l =
    (l.at ≤ l.k) × (l.k ≤ l.end) × Moved l.initial.column l.k l.end l.column

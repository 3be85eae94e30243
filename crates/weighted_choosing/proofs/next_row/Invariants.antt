-- `weighted_choosing::next_row` meets its contract. The loop's invariant: the places below v are written, and all others are as they were.
use Prim.Native.Nat.{◌≤◌}
use Rattle.weighted_choosing.specs.WeightedRows.{LesserPut}
use Rattle.weighted_choosing.proofs.next_row.Given as goal

abbrev pub invariant-loop-v : goal.invariant-loop-v
invariant-loop-v l =
    (l.v ≤ l.places) × LesserPut l.kept l.from l.room l.v l.initial.row l.row

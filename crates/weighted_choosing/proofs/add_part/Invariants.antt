-- `weighted_choosing::add_part` meets its contract. The loop's invariant: the places below v are written, and all others are as they were.
use Prim.Native.Nat.{◌≤◌}
use Rattle.weighted_choosing.specs.WeightedRows.{PartAddedTo}
use Rattle.weighted_choosing.proofs.add_part.Given as goal

abbrev pub invariant-loop-v : goal.invariant-loop-v
invariant-loop-v l =
    (l.v ≤ l.places) × PartAddedTo l.row l.optional l.v l.initial.kept l.kept

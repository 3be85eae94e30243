-- `weighted_choosing::decide` meets its contract. The loop's invariant: the words below v have the bit, and all others are as they were.
use Prim.Native.Nat.{◌≤◌}
use Rattle.weighted_choosing.specs.WeightedRows.{BitPut}
use Rattle.weighted_choosing.proofs.decide.Given as goal

abbrev pub invariant-loop-v : goal.invariant-loop-v
invariant-loop-v l =
    (l.v ≤ l.places) × BitPut l.kept l.from l.row l.i l.v l.initial.decisions l.decisions

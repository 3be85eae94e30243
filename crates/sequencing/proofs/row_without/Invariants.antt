-- `sequencing::row_without` meets its contract. The loop's invariant: the places below v are written, and all others are as they were.
use Prim.Native.Nat.{◌+◌, ◌≤◌}
use Rattle.base.specs.Arrays.{Rewritten}
use Rattle.choice.specs.Decisions.{row_places}
use Rattle.sequence.specs.KeptRows.{numbers_from, row_without}
use Rattle.sequencing.proofs.row_without.Given as goal

abbrev pub invariant-loop-v : goal.invariant-loop-v
invariant-loop-v l =
    (l.v ≤ l.most + 1) × Rewritten 0 (row_without l.free.from l.free.room (numbers_from l.initial.rows (l.at + row_places))) l.at 0 l.v l.initial.rows l.rows

-- `sequencing::row_with` meets its contract. The loop's invariant: the places from 1 up to v are written, and all others are as they were.
use Prim.Native.Nat.{◌+◌, ◌≤◌}
use Rattle.base.specs.Arrays.{Rewritten}
use Rattle.choice.specs.Decisions.{row_places}
use Rattle.sequence.specs.KeptRows.{numbers_from, row_with}
use Rattle.sequencing.proofs.row_with.Given as goal

abbrev pub invariant-loop-v : goal.invariant-loop-v
invariant-loop-v l =
    (l.v ≤ l.most)
    × Rewritten 0 (row_with l.optional l.kept.from l.kept.room l.free.from l.free.room (numbers_from l.initial.rows (l.at + row_places))) l.at 1 (l.v + 1) l.initial.rows l.rows

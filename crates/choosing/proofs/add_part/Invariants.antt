-- `choosing::add_part` meets its contract. The loop's invariant: the part is put in above place v, and up to it the row is as it was.
use Rattle.choice.specs.Decisions.{PutAbove}
use Rattle.choosing.proofs.add_part.Given as goal

abbrev pub invariant-loop-v : goal.invariant-loop-v
invariant-loop-v l =
    PutAbove l.optional l.top l.v l.fn.row l.row

-- `lines::put_fields` meets its contract. The loop's invariant: what is left is the fields of the numbers that come.
use Rattle.lines.specs.Text.{fields}
use Rattle.lines.proofs.PutLaws.{Putting}
use Rattle.lines.proofs.LineLaws.{fields_left}
use Rattle.lines.proofs.put_fields.Given as goal

abbrev pub invariant-loop-number : goal.invariant-loop-number
invariant-loop-number l =
    Putting (fields l.numbers) l.at l.initial.out (fields_left l.numbers l.number-index) l.next l.out

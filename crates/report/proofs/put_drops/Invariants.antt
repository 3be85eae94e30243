-- `report::put_drops` meets its contract. The loop's invariant: what is left is the DROP lines of the positions that come.
use Rattle.lines.proofs.PutLaws.{Putting}
use Rattle.printed_plan.specs.Printing.{drop_lines}
use Rattle.printed_plan.proofs.LineLaws.{drops_left}
use Rattle.report.proofs.put_drops.Given as goal

abbrev pub invariant-loop-position : goal.invariant-loop-position
invariant-loop-position l = Putting (drop_lines l.marks) l.at l.initial.out (drops_left l.marks l.position) l.next l.out

-- `conversion::put_tasks` meets its contract. The loop's invariant: what is left is the lines of the tasks from position i on.
use Rattle.base.specs.Places.{places}
use Rattle.table_text.specs.TableText.{row_lines}
use Rattle.lines.proofs.PutLaws.{Putting}
use Rattle.conversion.specs.Showing.{shown_row}
use Rattle.conversion.proofs.TaskLines.{tasks_left}
use Rattle.conversion.proofs.put_tasks.Given as goal

abbrev pub invariant-loop-i : goal.invariant-loop-i
invariant-loop-i l =
    Putting (row_lines (places (shown_row l.width l.weighted) l.weighted.table.count)) l.at l.initial.out
    (tasks_left (shown_row l.width l.weighted) l.weighted.table.count l.i) l.next l.out

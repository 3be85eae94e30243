-- `moving::moved_table` meets its contract: no task that was passed moves outside, and the places passed hold the tasks moved.
use Rattle.moving.proofs.MoveLaws.{TasksMoved}
use Rattle.moving.proofs.moved_table.Given as goal

abbrev pub invariant-loop-k : goal.invariant-loop-k
invariant-loop-k l = TasksMoved l.fn.shift l.fn.table l.k l.tasks

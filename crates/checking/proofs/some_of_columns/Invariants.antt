-- `checking::some_of_columns` meets its contract. The loop's invariant: whatever the tasks are, `found` says whether some index below `i` is out of order, and
-- `previous` is the end before it.
use Rattle.std.proofs.Common.{◌≡◌, ℕ, List}
use Rattle.base.specs.Lowest.{some_below}
use Rattle.schedule.specs.Runs.{runs_of}
use Rattle.schedule.specs.RunCheck.{previous_end, out_of_order}
use Rattle.checking.proofs.some_of_columns.Given as goal

abbrev pub invariant-loop-i : goal.invariant-loop-i
invariant-loop-i l = (tasks : List ℕ)
    → (l.found ≡ some_below (out_of_order (runs_of l.starts l.ends tasks)) l.i) × (l.previous ≡ previous_end (runs_of l.starts l.ends tasks) l.i)

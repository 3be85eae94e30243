-- `checking::some_out_of_order` meets its contract. The loop's invariant: `found` says whether some index below the run's is out of order, and `previous` is
-- the end before it.
use Rattle.std.proofs.Common.{◌≡◌}
use Rattle.base.specs.Lowest.{some_below}
use Rattle.schedule.specs.RunCheck.{previous_end, out_of_order}
use Rattle.checking.proofs.some_out_of_order.Given as goal

abbrev pub invariant-loop-run : goal.invariant-loop-run
invariant-loop-run l = (l.found ≡ some_below (out_of_order l.runs) l.run-index) × (l.previous ≡ previous_end l.runs l.run-index)

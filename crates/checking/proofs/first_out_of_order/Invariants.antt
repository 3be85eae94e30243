-- `checking::first_out_of_order` meets its contract. The loop's invariant: no index below `i` is out of order, and `previous` is the end before it.
use Rattle.std.proofs.Common.{◌≡◌, length}
use Rattle.base.proofs.LowestLaws.{Searched}
use Rattle.schedule.specs.RunCheck.{previous_end, out_of_order}
use Rattle.checking.proofs.first_out_of_order.Given as goal

abbrev pub invariant-loop-i : goal.invariant-loop-i
invariant-loop-i l = Searched (out_of_order l.runs) (length l.runs) l.i × (l.previous ≡ previous_end l.runs l.i)

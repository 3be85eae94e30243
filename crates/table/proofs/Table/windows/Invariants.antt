-- `table::Table::windows` meets its contract: the columns hold the frames of the tasks that were passed.
use Rattle.std.proofs.Common.{◌≡◌}
use Rattle.table.specs.Tables.{task_at}
use Rattle.table.proofs.WindowLaws.{FramesFilled}
use Rattle.table.proofs.Table.windows.Given as goal

abbrev pub invariant-loop-k : goal.invariant-loop-k
invariant-loop-k l = (l.windows.count ≡ l.fn.self.count) × FramesFilled (task_at l.fn.self) l.k l.windows.releases l.windows.deadlines

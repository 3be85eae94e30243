-- `table::Table::new` meets its contract: the places that were passed hold their tasks, and the others are 0.
use Rattle.std.proofs.Common.{get_or}
use Rattle.base.specs.Limits.{max_tasks}
use Rattle.base.proofs.ArrayFilling.{Filled}
use Rattle.table.specs.Tables.{no_task}
use Rattle.table.proofs.Table.new.Given as goal

abbrev pub invariant-loop-k : goal.invariant-loop-k
invariant-loop-k l = Filled no_task (λ k. get_or l.tasks k no_task) max_tasks l.count l.k l.kept

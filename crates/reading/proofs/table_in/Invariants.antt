-- `reading::table_in` meets its contract: the places below `k` hold their tasks, and the cursor stands at task `k`.
use Rattle.std.proofs.Common.{◌≡◌}
use Rattle.base.specs.Limits.{max_tasks}
use Rattle.base.proofs.ArrayFilling.{Filled}
use Rattle.table.specs.Tables.{no_task}
use Rattle.table.specs.Layout.{task_start}
use Rattle.table.specs.Reading.{task_in}
use Rattle.reading.proofs.table_in.Given as goal

abbrev pub invariant-loop-k : goal.invariant-loop-k
invariant-loop-k l =
    (l.at.at ≡ task_start l.k)
    × ((l.table.count ≡ l.fn.header.count) × (l.table.p ≡ l.fn.header.p) × (l.table.q ≡ l.fn.header.q))
    × Filled no_task (task_in l.file) max_tasks l.fn.header.count l.k l.table.tasks

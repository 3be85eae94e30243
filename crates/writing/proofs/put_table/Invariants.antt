-- `writing::put_table` meets its contract: the header's bits and those of the tasks that were passed are packed over the head of the list, and the cursor
-- stands behind them.
use Rattle.std.proofs.Common.{◌≡◌, length}
use Rattle.bits.specs.PutBits.{put_bits}
use Rattle.bits.specs.Rows.{rows_bits}
use Rattle.table.specs.Layout.{header_width, task_widths, task_start}
use Rattle.table.specs.Tables.{task_at, task_row}
use Rattle.writing.proofs.put_table.Given as goal

abbrev pub invariant-loop-task : goal.invariant-loop-task
invariant-loop-task l =
    (l.at.at ≡ task_start l.task-index)
    × (l.out ≡ put_bits l.initial.out header_width (rows_bits task_widths (λ k. task_row (task_at l.fn.table k)) l.task-index))
    × (length l.out ≡ length l.initial.out)

use Prim.Native.Nat.{ℕ}
use mathlib.Core.List.{List}
use Rattle.base.specs.Places.{places}
use Rattle.table.specs.Tables.{task_at}
use Rattle.weighted_file.specs.Weights.{weight_at}
use Rattle.table_text.specs.TableText.{row_line, row_lines}
use Rattle.lines.proofs.PutLaws.{putting_start, putting_fits, putting_step, putting_end}
use Rattle.conversion.specs.Showing.{shown_row}
use Rattle.conversion.proofs.TaskLines.{tasks_start, tasks_step, tasks_end}
use Rattle.conversion.proofs.put_tasks.Goals as goal

pub loop-i-init : goal.loop-i-init
loop-i-init c =
    let row : ℕ → List ℕ = shown_row c.args.width c.args.weighted in
    let count = c.args.weighted.table.count in
    rw (← tasks_start row count) (putting_start (row_lines (places row count)) c.args.at c.args.out.now c.requires.count_in_bounds)

pub put_task-next-requires-clause-weight_in_bounds : goal.put_task-next-requires-clause-weight_in_bounds
unfolding shown_row task_at weight_at
put_task-next-requires-clause-weight_in_bounds c =
    let row : ℕ → List ℕ = shown_row c.args.width c.args.weighted in
    let count = c.args.weighted.table.count in
    putting_fits _ _ _ c.requires.count_in_bounds (row_line (row c.loop-i.i)) _ _ _
    (rw (tasks_step row count c.loop-i.i c.loop-i-test.true) at c.loop-i.invariant)

pub loop-i-preserved : goal.loop-i-preserved
unfolding shown_row task_at weight_at
loop-i-preserved c =
    let row : ℕ → List ℕ = shown_row c.args.width c.args.weighted in
    let count = c.args.weighted.table.count in
    putting_step _ _ _ c.requires.count_in_bounds _ _ _ _ _ _ (rw (tasks_step row count c.loop-i.i c.loop-i-test.true) at c.loop-i.invariant)
    c.put_task-next.ensures

pub returns : goal.returns
returns c =
    let row = shown_row c.args.width c.args.weighted in
    putting_end _ _ _ c.requires.count_in_bounds _ _ (rw (tasks_end row c.args.weighted.table.count c.loop-i.i c.loop-i-test.false) at c.loop-i.invariant)

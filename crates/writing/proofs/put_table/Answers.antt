use Rattle.std.proofs.Common.{◌≡◌, refl, ◌∙◌, ap, arith}
use lib.Seq.{get_or-take}
use Rattle.bits.specs.Bits.{bytes_for}
use Rattle.bits.specs.PutBits.{put_bits}
use Rattle.bits.specs.Rows.{row_bits, rows_bits}
use Rattle.table.specs.declared.Task.{Task}
use Rattle.table.specs.Layout.{task_widths, task_start, file_length}
use Rattle.table.specs.Tables.{no_task, task_at, task_row}
use Rattle.table.specs.Writing.{file_of}
use Rattle.writing.proofs.PutLaws.{put_next, put_whole}
use Rattle.writing.proofs.put_table.Goals as goal

pub put_header-at-requires : goal.put_header-at-requires
unfolding file_length task_start bytes_for
put_header-at-requires c =
    omega arith

pub loop-task-init : goal.loop-task-init
unfolding task_start put_bits rows_bits
loop-task-init c =
    (c.put_header-at.ensures.0, refl, refl)

pub put_task-requires : goal.put_task-requires
unfolding file_length task_start bytes_for
put_task-requires c =
    record { task_width_bound = omega arith; task_width_bound_2 = omega arith }

pub loop-task-preserved : goal.loop-task-preserved
unfolding task_start task_at
loop-task-preserved c =
    let before = c.loop-task in
    let t = c.args.table in
    let i = before.task-index in
    let here = get_or-take t.count t.tasks i no_task (omega arith) in
    let put = c.put_task.ensures.bits ∙ ap (λ (task : Task). put_bits before.out before.at.at (row_bits task_widths (task_row task))) here in
    (omega arith, put_next task_widths _ _ _ _ _ _ before.invariant.1 before.invariant.0 put, c.put_task.auto.out ∙ before.invariant.2)

pub shape_of-out : goal.shape_of-out
shape_of-out c =
    c.loop-task.invariant.2 ∙ c.put_header-at.auto.out

pub returns : goal.returns
unfolding file_of file_length
returns c =
    let whole : c.loop-task.task-index ≡ c.args.table.count = omega arith in
    put_whole task_widths _ _ _ _ _ _ _ c.requires.count_in_bounds c.put_header-at.ensures.1 (rw whole at c.loop-task.invariant.1)

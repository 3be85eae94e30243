use Rattle.std.proofs.Common.{ℕ, ◌∙◌, ap, arith}
use Rattle.table.specs.declared.Task.{Task}
use Rattle.table.specs.Layout.{task_start}
use Rattle.table.specs.Reading.{task_from, task_in}
use Rattle.table.proofs.WindowLaws.{frames_start, frames_more}
use Rattle.reading.proofs.take_windows.Goals as goal

pub loop-k-init : goal.loop-k-init
unfolding task_start
loop-k-init c =
    let blank = c.blank-windows.ensures in
    (omega arith, blank.0, frames_start _ _ _ blank.1 blank.2)

pub take_task-requires : goal.take_task-requires
unfolding task_start
take_task-requires c =
    record { task_width_bound = omega arith; task_width_bound_2 = omega arith }

pub loop-k-preserved : goal.loop-k-preserved
unfolding task_start task_in
loop-k-preserved c =
    let l = c.loop-k in
    let taken = c.take_task.ensures in
    let same = taken.task ∙ ap (λ (start : ℕ). task_from c.args.file.now start) l.invariant.0 in
    let put = c.set.ensures in (
      omega arith,
      put.count ∙ l.invariant.1,
      rw (put.frames.0, put.frames.1)
          (frames_more _ _ _ _ _ _ (omega arith) (ap (λ (task : Task). task.release) same) (ap (λ (task : Task). task.deadline) same) l.invariant.2),
    )

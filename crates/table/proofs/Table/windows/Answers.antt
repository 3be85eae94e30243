use Rattle.std.proofs.Common.{ap, ◌∙◌, arith}
use Rattle.table.specs.declared.Task.{Task}
use lib.Seq.{get_or-take}
use Rattle.table.specs.Tables.{no_task, task_at}
use Rattle.table.proofs.WindowLaws.{frames_start, frames_more}
use Rattle.table.proofs.Table.windows.Goals as goal

pub loop-k-init : goal.loop-k-init
loop-k-init c =
    let blank = c.blank-windows.ensures in
    (blank.0, frames_start _ _ _ blank.1 blank.2)

pub loop-k-preserved : goal.loop-k-preserved
unfolding task_at
loop-k-preserved c =
    let t = c.args.self in
    let here = get_or-take t.count t.tasks c.loop-k.k no_task (omega arith) in
    let put = c.set.ensures in (
      put.count ∙ c.loop-k.invariant.0,
      rw (put.frames.0, put.frames.1)
          (frames_more _ _ _ _ _ _ (omega arith) (ap (λ (task : Task). task.release) here) (ap (λ (task : Task). task.deadline) here) c.loop-k.invariant.1),
    )

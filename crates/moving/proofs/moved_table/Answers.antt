use Rattle.std.proofs.Common.{ap, ◌∙◌, arith}
use lib.Seq.{get_or-take}
use Rattle.table.specs.Tables.{no_task, task_at}
use Rattle.moving.specs.Moved.{task_as}
use Rattle.moving.proofs.MoveLaws.{as_passed, moved_none, moved_refused, moved_more, moved_all}
use Rattle.moving.proofs.moved_table.Goals as goal

pub loop-k-init : goal.loop-k-init
loop-k-init c =
    moved_none _ _

pub returns-in-None : goal.returns-in-None
unfolding task_at
returns-in-None c =
    let t = c.args.table in
    let here = get_or-take t.count t.tasks c.loop-k.k no_task (omega arith) in
    let shift = as_passed c.ranges.shift in
    let held = rw shift at c.loop-k.invariant in
    let told = rw shift at c.in-None.ensures in
    moved_refused _ _ _ _ (omega arith) held (told ∙ ap (task_as _) here)

pub loop-k-preserved : goal.loop-k-preserved
unfolding task_at
loop-k-preserved c =
    let t = c.args.table in
    let here = get_or-take t.count t.tasks c.loop-k.k no_task (omega arith) in
    moved_more _ _ _ _ _ (omega arith) (omega arith) c.loop-k.invariant (c.in-Some.ensures ∙ ap (task_as _) here)

pub returns : goal.returns
returns c =
    let held = rw (as_passed c.ranges.shift) at c.loop-k.invariant in
    moved_all _ _ _ _ (omega arith) held

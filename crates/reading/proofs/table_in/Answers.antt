use Rattle.std.proofs.Common.{ℕ, refl, ◌∙◌, ap, arith}
use Rattle.base.proofs.ArrayFilling.{filled_start, filled_set, filled_whole}
use Rattle.table.specs.Layout.{task_start}
use Rattle.table.specs.Reading.{task_from, task_in}
use Rattle.reading.proofs.ReadLaws.{head_few, table_taken}
use Rattle.reading.proofs.table_in.Goals as goal

pub loop-k-init : goal.loop-k-init
unfolding task_start
loop-k-init c =
    (omega arith, (refl, refl, refl), filled_start _ _ _ _)

pub take_task-requires : goal.take_task-requires
unfolding task_start
take_task-requires c =
    let few = head_few _ c.requires.file_value in
    let count = c.requires.header_of.0 in
    record { task_width_bound = omega (arith, few.1, count); task_width_bound_2 = omega (arith, few.0, count) }

pub bounds-table-k : goal.bounds-table-k
bounds-table-k c =
    omega (arith, (head_few _ c.requires.file_value).0, c.requires.header_of.0)

pub loop-k-preserved : goal.loop-k-preserved
unfolding task_start task_in
loop-k-preserved c =
    let l = c.loop-k in
    let few = head_few _ c.requires.file_value in
    let count = c.requires.header_of.0 in
    let same = c.take_task.ensures.task ∙ ap (λ (start : ℕ). task_from c.args.file.now start) l.invariant.0 in
    (omega arith, l.invariant.1, filled_set _ _ _ _ _ _ _ (omega (arith, few.0, count)) (omega arith) same l.invariant.2)

pub returns : goal.returns
returns c =
    let header = c.requires.header_of in
    let l = c.loop-k in
    let same = l.invariant.1 in
    table_taken _ _ _ header.0 same.0 (same.1 ∙ header.1) (same.2 ∙ header.2) (filled_whole _ _ _ _ _ _ (λ k a b. omega arith) l.invariant.2)

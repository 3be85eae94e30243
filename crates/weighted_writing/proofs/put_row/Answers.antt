-- `weighted_writing::put_row` meets its contract: the weight is put behind the bits of the task.
use Rattle.std.proofs.Common.{refl, [], ◌∷◌}
use Rattle.table.specs.Tables.{task_row}
use Rattle.table.specs.Layout.{task_widths}
use Rattle.writing.proofs.PutLaws.{put_behind, field_row}
use Rattle.weighted_file.specs.Weights.{weight_width}
use Rattle.weighted_writing.proofs.put_row.Goals as goal

pub returns-clause-bits : goal.returns-clause-bits
returns-clause-bits c =
    let task = c.put_task.ensures in
    let weight = rw (c.from.ensures, field_row weight_width c.args.weight) at c.put.ensures.bits in
    put_behind task_widths (task_row c.args.task) (weight_width ∷ []) (c.args.weight ∷ []) _ _ _ _ _ refl task.bits task.moved weight

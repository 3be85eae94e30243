-- `conversion::put_task` meets its contract: the first number, and as many of the others as are shown.
use mathlib.Core.List.{[], ◌∷◌}
use native.Mathlib.Omega.{arith}
use Rattle.table_text.specs.TableText.{row_line}
use Rattle.conversion.proofs.TaskLines.{take_behind}
use Rattle.conversion.proofs.put_task.Goals as goal

pub put_numbers-requires : goal.put_numbers-requires
unfolding row_line
put_numbers-requires c =
    rw (c.from.ensures, c.from-2.ensures, c.from-3.ensures, c.from-4.ensures, c.from-5.ensures) (rw (take_behind c.args.width c.args.task.release (c.args.task.deadline ∷ c.args.task.mandatory ∷ c.args.task.optional ∷ c.args.weight ∷ []) (omega arith)) at c.requires.weight_in_bounds)

pub returns : goal.returns
unfolding row_line
returns c =
    rw (take_behind c.args.width c.args.task.release (c.args.task.deadline ∷ c.args.task.mandatory ∷ c.args.task.optional ∷ c.args.weight ∷ []) (omega arith)) (rw (c.from.ensures, c.from-2.ensures, c.from-3.ensures, c.from-4.ensures, c.from-5.ensures) at c.put_numbers.ensures)

-- `sequencing::choose_by_rows` meets its contract: both lists are huge throughout and have room for the rows.
use native.Mathlib.Omega.{arith}
use Rattle.sequence.proofs.KeptRowLaws.{blank_array}
use Rattle.sequencing.proofs.choose_by_rows.Goals as goal

pub choose_in-requires : goal.choose_in-requires
choose_in-requires c =
    record { count_le_max_tasks = c.requires.count_le_max_tasks; all_bounded = c.requires.all_bounded; count_value = c.requires.count_value; parts_of = c.requires.parts_of; room_for = (omega (arith, c.if-jobs-le-FEW.true), omega arith); blank = blank_array 1105 }

pub choose_in-requires-2 : goal.choose_in-requires-2
choose_in-requires-2 c =
    record { count_le_max_tasks = c.requires.count_le_max_tasks; all_bounded = c.requires.all_bounded; count_value = c.requires.count_value; parts_of = c.requires.parts_of; room_for = (omega (arith, c.requires.count_le_max_tasks), omega arith); blank = blank_array 4225 }

-- `reading::padding_set` meets its contract. A file of at most 64 rows has few bytes, and less than one byte of padding.
use Prim.Native.Nat.{◌-◌, ◌*◌}
use mathlib.Core.Path.{◌≡◌}
use native.Mathlib.Omega.{arith}
use Rattle.bits.specs.Bits.{bytes_for, field, number}
use Rattle.table.specs.Layout.{row_start, rows_length}
use Rattle.table.specs.Reading.{padding_set}
use Rattle.table.proofs.RowFiles.{rows_few}
use Rattle.reading.proofs.padding_set.Goals as goal

pub overflow_mul-used : goal.overflow_mul-used
overflow_mul-used c =
    omega (arith, rows_few c.requires.width_le_widest_row c.requires.count_le_max_tasks)

pub overflow_add-used : goal.overflow_add-used
overflow_add-used c =
    omega (arith, rows_few c.requires.width_le_widest_row c.requires.count_le_max_tasks)

pub overflow_mul-rest : goal.overflow_mul-rest
unfolding bytes_for
overflow_mul-rest c =
    omega (arith, rows_few c.requires.width_le_widest_row c.requires.count_le_max_tasks)

pub overflow_sub-rest : goal.overflow_sub-rest
unfolding bytes_for
overflow_sub-rest c =
    omega arith

pub overflow_cast-rest : goal.overflow_cast-rest
unfolding bytes_for
overflow_cast-rest c =
    omega arith

pub piece-requires : goal.piece-requires
unfolding bytes_for
piece-requires c =
    record { at_bound = omega arith; le_width = omega arith }

pub returns-then-rest-ne0 : goal.returns-then-rest-ne0
unfolding padding_set
returns-then-rest-ne0 c =
    rw (c.piece.ensures, c.requires.file_len)

pub returns-else-rest-ne0 : goal.returns-else-rest-ne0
unfolding padding_set field number
returns-else-rest-ne0 c =
    let a = c.args in
    let none : 8 * rows_length a.width a.count - row_start a.width a.count ≡ 0 = omega (arith, c.requires.file_len) in
    rw (none, c.if-rest-ne0.false)

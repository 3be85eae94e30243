-- `table::rows_length` meets its contract.
use Rattle.std.proofs.Common.{arith}
use Rattle.bits.specs.Bits.{bytes_for}
use Rattle.table.proofs.rows_length.Goals as goal

pub returns : goal.returns
unfolding bytes_for
returns c =
    omega (arith, c.div_ceil.ensures)

-- `weighted_writing::put_weighted` meets its contract: the header's bits and those of the rows below `k` are packed over the head of the list, and the
-- cursor stands at row `k`.
use Rattle.std.proofs.Common.{◌≡◌, length}
use Rattle.bits.specs.PutBits.{put_bits}
use Rattle.bits.specs.Rows.{rows_bits}
use Rattle.table.specs.Layout.{header_width, row_start}
use Rattle.weighted_file.specs.Weights.{weighted_widths, weighted_width, weighted_row}
use Rattle.weighted_writing.proofs.put_weighted.Given as goal

abbrev pub invariant-loop-k : goal.invariant-loop-k
invariant-loop-k l =
    (l.at.at ≡ row_start weighted_width l.k)
    × (l.out ≡ put_bits l.initial.out header_width (rows_bits weighted_widths (weighted_row l.weighted) l.k))
    × (length l.out ≡ length l.initial.out)

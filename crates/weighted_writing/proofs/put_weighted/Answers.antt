use Rattle.std.proofs.Common.{◌≡◌, refl, ◌∙◌, arith}
use Rattle.bits.specs.Bits.{bytes_for}
use Rattle.bits.specs.PutBits.{put_bits}
use Rattle.bits.specs.Rows.{rows_bits}
use Rattle.table.specs.Tables.{task_at}
use Rattle.writing.proofs.PutLaws.{put_next, put_whole}
use Rattle.weighted_file.specs.Weights.{weighted_widths, weighted_length, weight_at, file_of_weighted}
use Rattle.weighted_writing.proofs.put_weighted.Goals as goal

pub put_header-at-requires : goal.put_header-at-requires
unfolding weighted_length bytes_for
put_header-at-requires c =
    omega arith

pub loop-k-init : goal.loop-k-init
unfolding put_bits rows_bits
loop-k-init c =
    (c.put_header-at.ensures.0, refl, refl)

pub put_row-requires : goal.put_row-requires
unfolding weighted_length bytes_for
put_row-requires c =
    record { weighted_width_bound = omega arith; weighted_width_bound_2 = omega arith }

pub loop-k-preserved : goal.loop-k-preserved
unfolding task_at weight_at
loop-k-preserved c =
    let before = c.loop-k.invariant in
    (omega arith, put_next weighted_widths _ _ _ _ _ _ before.1 before.0 c.put_row.ensures.bits, c.put_row.auto.out ∙ before.2)

pub shape_of-out : goal.shape_of-out
shape_of-out c =
    c.loop-k.invariant.2 ∙ c.put_header-at.auto.out

pub returns : goal.returns
unfolding file_of_weighted weighted_length
returns c =
    let whole : c.loop-k.k ≡ c.args.weighted.table.count = omega arith in
    put_whole weighted_widths _ _ _ _ _ _ _ c.requires.count_in_bounds c.put_header-at.ensures.1 (rw whole at c.loop-k.invariant.1)

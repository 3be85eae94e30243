-- `bits::piece` meets its contract: the field is a part of one byte.
use Prim.Native.Nat.{◌/◌, ◌<◌}
use mathlib.Core.Path.{sym}
use native.Mathlib.Omega.{arith}
use lib.ListN.{get_or}
use Rattle.bits.proofs.ByteLaws.{field_piece, one_shl, one_shl_pos}
use Rattle.bits.proofs.piece.Goals as goal

pub nonzero_rem-result : goal.nonzero_rem-result
nonzero_rem-result c =
    one_shl_pos c.args.width 64 (omega arith)

pub returns : goal.returns
returns c =
    let a = c.args in
    let small : get_or a.file.now (a.at / 8) 0 < 256 = omega (arith, c.type_inv.file (a.at / 8)) in
    rw (c.from.ensures, one_shl a.width 64 (omega arith)) (sym (field_piece a.file.now a.at a.width small (omega arith)))

-- `bits::put_piece` meets its contract: the bits kept of the byte, with the new ones behind them, shifted up stay a byte.
use Prim.Native.Nat.{ℕ, suc, ◌+◌, ◌-◌, ◌*◌, ◌/◌, ◌%◌, ◌≤◌, ◌<◌}
use mathlib.Core.List.{List}
use mathlib.Core.Path.{◌≡◌, sym}
use native.Mathlib.Omega.{arith}
use lib.ListN.{length, set}
use Rattle.bits.specs.Bits.{bits_of}
use Rattle.bits.specs.PutBits.{put_bits}
use Rattle.bits.proofs.ByteLaws.{piece_byte, put_bits-piece, one_shl_pos, joined_small, stored_small, stored}
use Rattle.bits.proofs.put_piece.Goals as goal

-- One byte is changed, as by putting the bits one after another.
put_is : (s : List ℕ) (a w v : ℕ) → a < 8 * length s → 1 ≤ w → a % 8 + w ≤ 8 → set s (a / 8) (piece_byte s a w v) ≡ put_bits s a (bits_of w v)
put_is s a w v inside some h =
    let e : w ≡ suc (w - 1) = omega arith in
    rw e (sym (put_bits-piece (w - 1) s a v (omega arith) (omega arith)))

pub nonzero_rem-out : goal.nonzero_rem-out
nonzero_rem-out c =
    one_shl_pos c.args.width 64 (omega arith)

pub overflow_add-out : goal.overflow_add-out
overflow_add-out c =
    let byte_small : c.from.result < 256 = omega (arith, c.from.ensures, c.slice_known-2-1.given (c.args.at / 8)) in
    let a = c.args in
    omega (arith, joined_small a.out.now a.at a.width a.bits c.from.result c.from.ensures (byte_small) (omega arith))

pub overflow_cast-out-4 : goal.overflow_cast-out-4
overflow_cast-out-4 c =
    let byte_small : c.from.result < 256 = omega (arith, c.from.ensures, c.slice_known-2-1.given (c.args.at / 8)) in
    let a = c.args in
    omega (arith, stored_small a.out.now a.at a.width a.bits c.from.result c.from.ensures (byte_small) (omega arith))

pub returns : goal.returns
returns c =
    let byte_small : c.from.result < 256 = omega (arith, c.from.ensures, c.slice_known-2-1.given (c.args.at / 8)) in
    let a = c.args in
    rw (stored a.out.now a.at a.width a.bits c.from.result c.from.ensures (byte_small) (omega arith))
    (put_is a.out.now a.at a.width a.bits (omega arith) (omega arith) (omega arith))

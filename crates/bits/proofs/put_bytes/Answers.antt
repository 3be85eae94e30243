use Prim.Native.Nat.{◌+◌, ◌-◌, ◌*◌}
use mathlib.Core.Path.{◌≡◌, ◌∙◌}
use native.Mathlib.Omega.{arith}
use Rattle.bits.specs.Bits.{bits_of}
use Rattle.bits.specs.PutBits.{put_bits}
use Rattle.bits.proofs.ByteLaws.{put_more}
use Rattle.bits.proofs.put_bytes.Goals as goal

pub loop-k-preserved : goal.loop-k-preserved
loop-k-preserved c =
    let a = c.args in
    let l = c.loop-k in
    let on : 8 * (a.first + (l.k + 1)) ≡ 8 * (a.first + l.k) + 8 = omega arith in
    let left : a.width - 8 * (l.k + 1) ≡ a.width - 8 * l.k - 8 = omega arith in
    let put = rw left at c.put_piece.ensures in (
      omega arith,
      rw (on, left) (put_more l.out c.put_piece.new.out (8 * (a.first + l.k)) (a.width - 8 * l.k) 8 a.bits (omega arith) put ∙ l.invariant.1),
    )

pub returns-else-left-ne0 : goal.returns-else-left-ne0
unfolding put_bits bits_of
returns-else-left-ne0 c =
    let none : c.args.width - 8 * c.loop-k.k ≡ 0 = omega arith in
    rw none at c.loop-k.invariant.1

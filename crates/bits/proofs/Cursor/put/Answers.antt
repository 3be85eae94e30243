-- `bits::Cursor::put` meets its contract: the bits that fill the cursor's byte, and then the rest from a byte on.
use mathlib.Core.Path.{◌≡◌, refl, ◌∙◌}
use native.Mathlib.Omega.{arith}
use Rattle.bits.specs.Bits.{bits_of}
use Rattle.bits.specs.PutBits.{put_bits}
use Rattle.bits.proofs.ByteLaws.{put_on}
use Rattle.bits.proofs.Cursor.put.Goals as goal

pub returns-then-first-eq0-clause-bits : goal.returns-then-first-eq0-clause-bits
unfolding put_bits bits_of
returns-then-first-eq0-clause-bits c =
    let none : c.args.width ≡ 0 = omega arith in
    rw none refl

pub returns-clause-bits : goal.returns-clause-bits
returns-clause-bits c =
    let a = c.args in
    let first = c.min-first.result in
    c.put_bytes.ensures ∙ put_on a.out.now _ _ a.width first a.value (omega arith) (λ l. omega arith) c.put_piece.ensures

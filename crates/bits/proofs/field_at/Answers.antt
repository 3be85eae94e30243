-- `bits::field_at` meets its contract: the number of eight bytes, shifted up to the field's first bit and down to its last, and the bits of the ninth
-- byte behind it where the field reaches so far.
use Prim.Native.Nat.{◌+◌, ◌/◌, ◌<◌}
use native.Mathlib.Omega.{arith}
use lib.ListN.{get_or}
use Rattle.bits.proofs.ByteLaws.{eight_hold, nine_hold, field_small}
use Rattle.bits.proofs.field_at.Goals as goal

pub returns-then-end-le64 : goal.returns-then-end-le64
returns-then-end-le64 c =
    let a = c.args in
    rw c.eight_bytes.ensures (eight_hold a.file.now a.at a.width (omega arith))

-- the two parts that are added
pub overflow_add-result : goal.overflow_add-result
overflow_add-result c =
    let a = c.args in
    let byte : get_or a.file.now (a.at / 8 + 8) 0 < 256 = omega (arith, c.type_inv.file (a.at / 8 + 8)) in
    rw (c.eight_bytes.ensures, c.from.ensures, nine_hold a.file.now a.at a.width byte (omega arith) (omega arith))
    (omega (arith, field_small a.file.now a.at a.width (omega arith)))

pub returns : goal.returns
returns c =
    let a = c.args in
    let byte : get_or a.file.now (a.at / 8 + 8) 0 < 256 = omega (arith, c.type_inv.file (a.at / 8 + 8)) in
    rw (c.eight_bytes.ensures, c.from.ensures) (nine_hold a.file.now a.at a.width byte (omega arith) (omega arith))

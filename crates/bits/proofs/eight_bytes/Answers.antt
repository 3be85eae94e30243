-- `bits::eight_bytes` meets its contract: the bytes in their order are a field.
use native.Mathlib.Omega.{arith}
use Rattle.bits.proofs.ByteLaws.{eight_field}
use Rattle.bits.proofs.eight_bytes.Goals as goal

pub returns : goal.returns
returns c =
    omega (arith, eight_field c.args.file.now c.args.k (λ i. omega (arith, c.type_inv.file i)), c.from_be_bytes.ensures)

-- `bits::join` meets its contract: nothing is lost, and the sum fits.
use native.Mathlib.Omega.{arith}
use Rattle.bits.proofs.ByteLaws.{one_shl_pos, join_is, join_lt}
use Rattle.bits.proofs.join.Goals as goal

pub nonzero_rem-result : goal.nonzero_rem-result
nonzero_rem-result c =
    one_shl_pos c.args.width 64 (omega arith)

pub overflow_add-result : goal.overflow_add-result
overflow_add-result c =
    let a = c.args in
    rw (c.from.ensures, join_is a.high a.low a.width c.requires.width_bound c.requires.high_bound) (omega (arith, join_lt a.high a.low a.width c.requires.width_bound c.requires.high_bound))

pub returns : goal.returns
returns c =
    rw c.from.ensures (join_is c.args.high c.args.low c.args.width c.requires.width_bound c.requires.high_bound)

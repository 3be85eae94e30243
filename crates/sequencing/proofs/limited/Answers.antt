-- `sequencing::limited` meets its contract.
use native.Mathlib.Omega.{arith}
use Rattle.sequence.proofs.BesideLaws.{limited_in, limited_over}
use Rattle.sequencing.proofs.limited.Goals as goal

pub returns-then-end-limits : goal.returns-then-end-limits
returns-then-end-limits c =
    omega (
      arith,
      c.max.ensures,
      limited_in c.args.limits.from c.args.limits.room c.args.ticks c.args.time (omega (arith, c.max.ensures)),
    )

pub returns-else-end-limits : goal.returns-else-end-limits
returns-else-end-limits c =
    omega (
      arith,
      limited_over c.args.limits.from c.args.limits.room c.args.ticks c.args.time (omega (arith, c.max.ensures)),
    )

-- `sequencing::bound_before` meets its contract.
use mathlib.Core.Path.{sym}
use native.Mathlib.Omega.{arith}
use Rattle.sequence.proofs.BesideLaws.{next_bound_none, next_bound_some}
use Rattle.sequencing.proofs.bound_before.Goals as goal

pub returns-then-job-ticks-gt0 : goal.returns-then-job-ticks-gt0
returns-then-job-ticks-gt0 c =
    omega (arith, next_bound_some c.args.job c.args.keep c.args.room c.args.bound (omega arith))

pub returns-else-job-ticks-gt0 : goal.returns-else-job-ticks-gt0
returns-else-job-ticks-gt0 c =
    sym (next_bound_none _ _ _ _ (omega arith))

-- `sequencing::ending_at` meets its contract.
use mathlib.Core.Path.{sym}
use native.Mathlib.Omega.{arith}
use Rattle.choice.specs.Decisions.{huge_ticks}
use Rattle.sequence.proofs.OrderRowLaws.{ending_none, ending_some, ending_late}
use Rattle.sequencing.proofs.ending_at.Goals as goal

pub returns-then-work-eq0 : goal.returns-then-work-eq0
returns-then-work-eq0 c =
    sym (ending_none huge_ticks _ _ _ (omega arith))

pub returns-then-end-job : goal.returns-then-end-job
returns-then-end-job c =
    omega (arith, ending_some huge_ticks c.args.job c.args.work c.args.time (omega arith) (omega (arith, c.max.ensures)), c.max.ensures)

pub returns-else-end-job : goal.returns-else-end-job
returns-else-end-job c =
    sym (ending_late huge_ticks c.args.job c.args.work c.args.time (omega arith) (omega (arith, c.max.ensures)))

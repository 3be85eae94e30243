-- `choosing::keeps_above` meets its contract.
use mathlib.Core.Path.{sym, ◌∙◌}
use native.Mathlib.Omega.{arith}
use borrow.Author.Tests.{eq-eqb}
use Rattle.choice.proofs.PartLaws.{above_none, above_part}
use Rattle.choosing.proofs.keeps_above.Goals as goal

pub returns-then-job-eq0 : goal.returns-then-job-eq0
returns-then-job-eq0 c =
    eq-eqb _ _ (omega arith) ∙ sym (above_none _ _ _ (omega arith))

pub returns-else-job-eq0 : goal.returns-else-job-eq0
returns-else-job-eq0 c =
    sym (above_part _ _ _ (omega arith))

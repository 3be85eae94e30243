-- `weighted_file::bad_weight` meets its contract.
use borrow.Author.Tests.{eq-eqb, ne_eqb}
use Rattle.weighted_file.specs.Weights.{bad_weight}
use Rattle.weighted_file.proofs.bad_weight.Goals as goal

pub returns-then-weight-eq0 : goal.returns-then-weight-eq0
unfolding bad_weight
returns-then-weight-eq0 c =
    simp (eq-eqb _ _ c.if-weight-eq0.true)

pub returns-else-weight-eq0 : goal.returns-else-weight-eq0
unfolding bad_weight
returns-else-weight-eq0 c =
    simp (ne_eqb _ _ c.if-weight-eq0.false)

-- `table::bad_count` meets its contract.
use borrow.Author.Tests.{eq-eqb, ne_eqb}
use Rattle.table.specs.Layout.{bad_count}
use Rattle.table.proofs.bad_count.Goals as goal

pub returns-then-count-eq0 : goal.returns-then-count-eq0
unfolding bad_count
returns-then-count-eq0 c =
    simp (eq-eqb _ _ c.if-count-eq0.true)

pub returns-else-count-eq0 : goal.returns-else-count-eq0
unfolding bad_count
returns-else-count-eq0 c =
    simp (ne_eqb _ _ c.if-count-eq0.false)

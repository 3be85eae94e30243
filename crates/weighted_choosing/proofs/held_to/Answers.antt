-- `weighted_choosing::held_to` meets its contract.
use mathlib.Core.Path.{sym, ◌∙◌}
use Rattle.weighted_choosing.specs.WeightedRows.{held_to}
use Rattle.weighted_choosing.proofs.held_to.Goals as goal

pub returns-then-at_most : goal.returns-then-at_most
unfolding held_to
returns-then-at_most c =
    rw (sym c.at_most.ensures ∙ c.if-at_most.true)

pub returns-else-at_most : goal.returns-else-at_most
unfolding held_to
returns-else-at_most c =
    rw (sym c.at_most.ensures ∙ c.if-at_most.false)

-- `sequencing::choose` meets its contract.
use mathlib.Core.Path.{sym, ◌∙◌}
use Rattle.sequence.proofs.AllKeptLaws.{all_gives}
use Rattle.sequencing.proofs.choose.Goals as goal

pub returns-then-all_fit : goal.returns-then-all_fit
returns-then-all_fit c =
    all_gives _ _ c.requires.count_le_max_tasks c.parts_of-parts.ensures.0 (sym c.all_fit.ensures ∙ c.if-all_fit.true)

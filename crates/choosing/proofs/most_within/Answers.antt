use mathlib.Core.Path.{sym, ◌∙◌}
use native.Mathlib.Omega.{arith}
use Rattle.choice.proofs.ProgrammeLaws.{greatest_none, greatest_found, greatest_passed}
use Rattle.choosing.proofs.most_within.Goals as goal

pub returns-then-row-v : goal.returns-then-row-v
returns-then-row-v c =
    sym (greatest_found _ _ _ (omega arith) (omega arith)) ∙ c.loop-v.invariant.1

pub loop-v-preserved : goal.loop-v-preserved
loop-v-preserved c =
    (omega arith, greatest_passed _ _ _ (omega arith) (omega arith) ∙ c.loop-v.invariant.1)

pub returns : goal.returns
returns c =
    sym (greatest_none _ _ _ (omega arith)) ∙ c.loop-v.invariant.1

use Rattle.std.proofs.Common.{sym, ◌∙◌, arith}
use Rattle.base.proofs.FoundLaws.{found_first, found_none}
use Rattle.table.proofs.rules.first_crossing.Goals as goal

pub returns-then-crosses_earlier : goal.returns-then-crosses_earlier
returns-then-crosses_earlier c =
    found_first _ _ _ (omega arith) c.loop-k.invariant (sym c.crosses_earlier.ensures ∙ c.if-crosses_earlier.true)

pub returns : goal.returns
returns c =
    found_none _ _ (λ j l. c.loop-k.invariant j (omega arith))

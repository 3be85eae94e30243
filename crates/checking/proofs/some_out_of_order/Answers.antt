use Rattle.std.proofs.Common.{sym, ◌∙◌, refl, add-one}
use mathlib.Core.Path.{ap₂}
use Rattle.base.specs.Tests.{or}
use Rattle.base.proofs.LowestLaws.{some_none, some_more}
use Rattle.checking.proofs.OrderLaws.{tested_at}
use Rattle.checking.proofs.some_out_of_order.Goals as goal

pub loop-run-init : goal.loop-run-init
loop-run-init c = (sym (some_none _), refl)

pub loop-run-preserved : goal.loop-run-preserved
loop-run-preserved c =
    let tested = tested_at _ _ _ _ c.loop-run.invariant.1 c.is_out_of_order-found.ensures in
    (ap₂ or c.loop-run.invariant.0 tested ∙ sym (some_more _ c.loop-run.run-index), rw add-one)

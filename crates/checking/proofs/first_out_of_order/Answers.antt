use Rattle.std.proofs.Common.{◌≡◌, sym, ◌∙◌, refl, arith, add-one, length}
use Rattle.base.proofs.LowestLaws.{search_start, search_found, search_passed, search_end}
use Rattle.schedule.specs.RunCheck.{first_out_of_order}
use Rattle.checking.proofs.OrderLaws.{tested_at}
use Rattle.checking.proofs.first_out_of_order.Goals as goal

pub loop-i-init : goal.loop-i-init
loop-i-init c = (search_start _ _, refl)

pub returns-then-is_out_of_order : goal.returns-then-is_out_of_order
unfolding first_out_of_order
returns-then-is_out_of_order c =
    let tested = tested_at _ _ _ _ c.loop-i.invariant.1 c.is_out_of_order.ensures in
    search_found _ _ _ c.loop-i.invariant.0 (omega arith) (sym tested ∙ c.if-is_out_of_order.true)

pub loop-i-preserved : goal.loop-i-preserved
loop-i-preserved c =
    let tested = tested_at _ _ _ _ c.loop-i.invariant.1 c.is_out_of_order.ensures in
    (search_passed _ _ _ c.loop-i.invariant.0 (omega arith) (sym tested ∙ c.if-is_out_of_order.false), rw add-one)

pub returns : goal.returns
unfolding first_out_of_order
returns c =
    let all : c.loop-i.i ≡ length c.args.runs.now = omega arith in
    sym all ∙ search_end _ _ _ c.loop-i.invariant.0 (omega arith)

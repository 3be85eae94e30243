use Rattle.std.proofs.Common.{◌≡◌, sym, ◌∙◌, refl, arith, length}
use Rattle.base.proofs.LowestLaws.{search_start, search_found, search_passed, search_end}
use Rattle.schedule.specs.RunCheck.{first_out_of_order}
use Rattle.schedule.proofs.ColumnLaws.{columns_length}
use Rattle.checking.proofs.OrderLaws.{column_tested, column_end}
use Rattle.checking.proofs.first_of_columns.Goals as goal

pub loop-i-init : goal.loop-i-init
loop-i-init c tasks = (search_start _ _, refl)

pub returns-then-is_out_of_order : goal.returns-then-is_out_of_order
unfolding first_out_of_order
returns-then-is_out_of_order c tasks =
    let starts = c.args.starts.now in
    let ends = c.args.ends.now in
    let so_far = c.loop-i.invariant tasks in
    let tested = column_tested starts ends tasks c.loop-i.i (omega arith) _ _ so_far.1 c.is_out_of_order.ensures in
    search_found _ _ _ so_far.0 (omega (arith, columns_length starts ends tasks)) (sym tested ∙ c.if-is_out_of_order.true)

pub loop-i-preserved : goal.loop-i-preserved
loop-i-preserved c tasks =
    let starts = c.args.starts.now in
    let ends = c.args.ends.now in
    let so_far = c.loop-i.invariant tasks in
    let tested = column_tested starts ends tasks c.loop-i.i (omega arith) _ _ so_far.1 c.is_out_of_order.ensures in (
      search_passed _ _ _ so_far.0 (omega (arith, columns_length starts ends tasks)) (sym tested ∙ c.if-is_out_of_order.false),
      column_end starts ends tasks c.loop-i.i (omega arith),
    )

pub returns : goal.returns
unfolding first_out_of_order
returns c tasks =
    let starts = c.args.starts.now in
    let ends = c.args.ends.now in
    let all : c.loop-i.i ≡ length starts = omega arith in
    sym all ∙ search_end _ _ _ (c.loop-i.invariant tasks).0 (omega (arith, columns_length starts ends tasks))

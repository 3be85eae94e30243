use Rattle.std.proofs.Common.{◌≡◌, sym, ◌∙◌, ap, refl, arith, length}
use mathlib.Core.Path.{ap₂}
use Rattle.base.specs.Tests.{or}
use Rattle.base.specs.Lowest.{some_below}
use Rattle.base.proofs.LowestLaws.{some_none, some_more}
use Rattle.schedule.specs.Runs.{runs_of}
use Rattle.schedule.specs.RunCheck.{out_of_order}
use Rattle.schedule.proofs.ColumnLaws.{columns_length}
use Rattle.checking.proofs.OrderLaws.{column_tested, column_end}
use Rattle.checking.proofs.some_of_columns.Goals as goal

pub loop-i-init : goal.loop-i-init
loop-i-init c tasks = (sym (some_none _), refl)

pub loop-i-preserved : goal.loop-i-preserved
loop-i-preserved c tasks =
    let starts = c.args.starts.now in
    let ends = c.args.ends.now in
    let so_far = c.loop-i.invariant tasks in
    let tested = column_tested starts ends tasks c.loop-i.i (omega arith) _ _ so_far.1 c.is_out_of_order-found.ensures in
    (ap₂ or so_far.0 tested ∙ sym (some_more _ c.loop-i.i), column_end starts ends tasks c.loop-i.i (omega arith))

pub returns : goal.returns
returns c tasks =
    let starts = c.args.starts.now in
    let ends = c.args.ends.now in
    let runs = runs_of starts ends tasks in
    let all : c.loop-i.i ≡ length runs = omega (arith, columns_length starts ends tasks) in
    (c.loop-i.invariant tasks).0 ∙ ap (some_below (out_of_order runs)) all

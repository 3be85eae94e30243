use Rattle.std.proofs.Common.{◌≡◌, not, sym, ap, ◌∙◌, arith}
use mathlib.Core.Path.{ap₂}
use Rattle.base.specs.Tests.{or}
use Rattle.base.proofs.LowestLaws.{some_none, some_more}
use Rattle.table.specs.Kinds.{fails_earlier}
use Rattle.table.proofs.rules.crosses_earlier.Goals as goal

pub loop-j-init : goal.loop-j-init
loop-j-init c =
    sym (some_none _)

pub loop-j-preserved : goal.loop-j-preserved
loop-j-preserved c =
    let test = rw c.window_at.ensures at c.are_nested.ensures in
    ap₂ or c.loop-j.invariant (ap not test) ∙ sym (some_more _ c.loop-j.j)

pub returns : goal.returns
unfolding fails_earlier
returns c =
    let all : c.loop-j.j ≡ c.args.k = omega arith in
    rw (all, c.window_at-task.ensures) at c.loop-j.invariant

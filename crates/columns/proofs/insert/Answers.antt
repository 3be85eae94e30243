use native.Mathlib.Omega.{arith}
use lib.ListN.{length-set}
use mathlib.Core.Path.{◌≡◌, ◌∙◌}
use Prim.Native.Nat.{◌+◌, ◌-◌}
use Rattle.columns.proofs.ColumnLaws.{moved_start, moved_next, moved_end}
use Rattle.columns.proofs.insert.Goals as goal

pub loop-k-init : goal.loop-k-init
loop-k-init c =
    (c.requires.at_le_end, omega arith, moved_start _ _)

pub loop-k-preserved : goal.loop-k-preserved
loop-k-preserved c =
    let here : c.loop-k.k - 1 + 1 ≡ c.loop-k.k = omega arith in
    (omega arith, omega arith, rw here (moved_next _ _ _ _ (omega arith) c.loop-k.invariant.1 c.requires.end_in_bounds c.loop-k.invariant.2))

pub returns : goal.returns
returns c =
    let inv = c.loop-k.invariant in
    let last : c.loop-k.k ≡ c.args.at = omega arith in
    (length-set c.loop-k.column c.args.at c.args.number ∙ inv.2.same_length, moved_end _ _ _ _ _ c.requires.at_le_end c.requires.end_in_bounds (rw last at inv.2))

use Prim.Native.Nat.{◌+◌, ◌%◌, ◌^◌}
use mathlib.Core.Path.{◌≡◌}
use mathlib.Core.Bool.{Bool}
use lib.ListN.{get_or}
use native.Mathlib.Omega.{arith}
use Rattle.weighted_choosing.specs.WeightedRows.{bit_where, kept_at}
use Rattle.weighted_choosing.proofs.BitLaws.{bit_is, bit_fits}
use Rattle.weighted_choosing.proofs.decide.Goals as goal

pub overflow_add-decisions : goal.overflow_add-decisions
overflow_add-decisions c =
    let kept_here : Bool = kept_at c.args.kept.now c.args.from c.args.row.now c.loop-v.v in
    let put_is : c.bit_where.result ≡ bit_where (kept_here) (2 ^ c.args.i) = rw (← bit_is c.args.i (omega arith), ← c.at_most-keep.ensures) c.bit_where.ensures in
    let v = c.loop-v.v in
    let unset : get_or c.loop-v.decisions v 0 % 2 ^ (c.args.i + 1) ≡ 0 = rw (c.loop-v.invariant.1.beyond v (omega arith)) (c.requires.by_index v (omega arith)) in
    let small = bit_fits (get_or c.loop-v.decisions v 0) c.args.i unset (omega arith) (omega (arith, c.slice_known-in-loop-v-1.given v)) (kept_here) in
    omega (arith, small, put_is)

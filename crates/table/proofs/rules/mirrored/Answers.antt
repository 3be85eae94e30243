use Rattle.std.proofs.Common.{refl, arith}
use Rattle.base.proofs.ArrayFilling.{filled_start, filled_set}
use Rattle.table.proofs.rules.mirrored.Goals as goal

pub loop-k-init : goal.loop-k-init
loop-k-init c =
    (filled_start _ _ _ _, λ j l. absurd (omega arith))

pub loop-k-preserved : goal.loop-k-preserved
loop-k-preserved c =
    (filled_set _ _ _ _ _ _ _ (omega arith) (omega arith) refl c.loop-k.invariant.0, λ j l. omega (arith, c.shared_slice_known-1.given j))

pub returns : goal.returns
returns c =
    record {
      mirrored = λ k l. c.loop-k.invariant.0.before k (omega arith) l (omega arith);
      within = λ k l. c.loop-k.invariant.1 k (omega arith);
    }

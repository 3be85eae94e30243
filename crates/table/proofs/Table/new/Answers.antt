use Rattle.std.proofs.Common.{ap, List, refl, arith}
use Rattle.base.proofs.ArrayFilling.{filled_start, filled_set, filled_whole}
use Rattle.table.specs.declared.Task.{Task}
use Rattle.table.specs.Tables.{table_of}
use Rattle.table.proofs.Table.new.Goals as goal

pub loop-k-init : goal.loop-k-init
loop-k-init c =
    filled_start _ _ _ _

pub loop-k-preserved : goal.loop-k-preserved
loop-k-preserved c =
    filled_set _ _ _ _ _ _ _ (omega arith) (omega arith) refl c.loop-k.invariant

pub returns : goal.returns
unfolding table_of
returns c =
    ap
    (λ (kept : List Task). record { count = c.args.count; p = c.args.p; q = c.args.q; tasks = kept })
    (filled_whole _ _ _ _ _ _ (λ k a b. omega arith) c.loop-k.invariant)

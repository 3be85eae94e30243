-- `sequencing::is_kept` meets its contract.
use Prim.Native.Nat.{ℕ, ◌+◌}
use mathlib.Core.Path.{sym, ap, ◌∙◌}
use native.Mathlib.Omega.{arith}
use lib.Dec.{leb}
use Rattle.sequence.proofs.BesideLaws.{kept_none, kept_first, kept_more}
use Rattle.sequencing.proofs.is_kept.Goals as goal

pub returns-then-job-eq0 : goal.returns-then-job-eq0
returns-then-job-eq0 c =
    sym (kept_none _ _ _ _ _ (omega arith))

pub returns-then-v-eq0 : goal.returns-then-v-eq0
returns-then-v-eq0 c =
    sym (kept_first _ _ _ _ _ (omega arith) (omega arith))

pub returns : goal.returns
returns c =
    ap (λ (t : ℕ). leb (t + c.args.job.optional) c.args.limits.room) c.max.ensures
    ∙ sym (kept_more c.args.job _ _ _ _ (omega arith) (omega arith))

use Rattle.std.proofs.Common.{ℕ, ◌∙◌, ap, refl, arith, List, get_or}
use Rattle.base.proofs.ArrayFilling.{filled_start, filled_set, filled_whole}
use Rattle.bits.specs.Rows.{fields_from}
use Rattle.table.specs.Tables.{task_of}
use Rattle.weighted_file.specs.Weights.{weighted_widths}
use Rattle.weighted_reading.proofs.ReadLaws.{weighted_taken}
use Rattle.weighted_reading.proofs.weighted_in.Goals as goal

pub loop-k-init : goal.loop-k-init
loop-k-init c =
    (omega arith, (refl, refl, refl), filled_start _ _ _ _, filled_start _ _ _ _)

pub loop-k-preserved : goal.loop-k-preserved
loop-k-preserved c =
    let l = c.loop-k in
    let taken = c.take_weighted-weight.ensures in
    let row = ap (λ (start : ℕ). fields_from weighted_widths c.args.file.now start) l.invariant.0 in (
      omega arith,
      l.invariant.1,
      filled_set _ _ _ _ _ _ _ (omega arith) (omega arith) (taken.task ∙ ap task_of row) l.invariant.2,
      filled_set _ _ _ _ _ _ _ (omega arith) (omega arith) (taken.weight ∙ ap (λ (fields : List ℕ). get_or fields 4 0) row) l.invariant.3,
    )

pub returns : goal.returns
returns c =
    let header = c.requires.header_of in
    let same = c.loop-k.invariant.1 in
    weighted_taken _ _ _ header.0 same.0 (same.1 ∙ header.1) (same.2 ∙ header.2)
    (filled_whole _ _ _ _ _ _ (λ k a b. omega arith) c.loop-k.invariant.2)
    (filled_whole _ _ _ _ _ _ (λ k a b. omega arith) c.loop-k.invariant.3)

use Prim.Native.Nat.{ℕ, ◌+◌}
use mathlib.Core.Path.{◌≡◌, refl, sym, ap, ◌∙◌}
use native.Mathlib.Omega.{arith}
use lib.ListN.{get_or}
use Rattle.base.proofs.RewriteLaws.{rewritten_next, written_next}
use Rattle.choice.specs.Decisions.{row_places}
use Rattle.sequence.specs.KeptRows.{limited_end, numbers_from}
use Rattle.sequence.proofs.BesideLaws.{with_first, with_made}
use Rattle.sequencing.proofs.row_with.Goals as goal

pub loop-v-preserved : goal.loop-v-preserved
loop-v-preserved c =
    let as_before : (k : ℕ) → get_or c.loop-v.rows (c.args.at + row_places + k) 0 ≡ get_or c.args.rows.now (c.args.at + row_places + k) 0 = λ k. c.loop-v.invariant.1.beyond (c.args.at + row_places + k) (omega (arith, c.requires.most_lt_row_places)) in
    let v = c.loop-v.v in
    let before = numbers_from c.args.rows.now (c.args.at + row_places) in
    let with = c.limited-with.ensures ∙ ap (limited_end c.args.kept.from c.args.kept.room c.args.optional) (as_before v) in
    let without = c.limited-without.ensures ∙ ap (limited_end c.args.free.from c.args.free.room 0) (as_before (v + 1)) in
    let made = with_made c.args.optional c.args.kept.from c.args.kept.room c.args.free.from c.args.free.room before v _ _ _ with without c.min.ensures in
    (omega arith, written_next _ _ _ _ _ _ _ _ _ (omega arith) refl (omega (arith, c.loop-v.invariant.1.same_length)) made c.loop-v.invariant.1)

pub returns : goal.returns
returns c =
    let as_before : (k : ℕ) → get_or c.loop-v.rows (c.args.at + row_places + k) 0 ≡ get_or c.args.rows.now (c.args.at + row_places + k) 0 = λ k. c.loop-v.invariant.1.beyond (c.args.at + row_places + k) (omega (arith, c.requires.most_lt_row_places)) in
    let first : get_or c.loop-v.rows (c.args.at + row_places) 0 ≡ numbers_from c.loop-v.rows (c.args.at + row_places) 0 = let e : c.args.at + row_places ≡ c.args.at + row_places + 0 = omega arith in
    ap (λ place. get_or c.loop-v.rows place 0) e in
    let end : c.loop-v.v ≡ c.args.most = omega (arith, c.loop-v.invariant.0) in
    let before = numbers_from c.args.rows.now (c.args.at + row_places) in
    let made = c.limited.ensures ∙ (ap (limited_end c.args.free.from c.args.free.room 0) (first ∙ as_before 0)
    ∙ sym (with_first c.args.optional c.args.kept.from c.args.kept.room c.args.free.from c.args.free.room before)) in
    rewritten_next _ _ _ _ _ _ _ _ _ (omega arith) (omega arith) (omega arith) (omega (arith, c.loop-v.invariant.1.same_length)) made (rw end at c.loop-v.invariant.1)

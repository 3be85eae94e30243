-- `conversion::weighted_to_text_from_first` meets its contract: what is shown of an input follows from the bytes that are held of it.
use Prim.Native.Nat.{ℕ}
use mathlib.Core.Path.{◌≡◌, sym, ap, ◌∙◌}
use native.Mathlib.Omega.{arith}
use lib.ListN.{take}
use lib.Seq.{length-take-le}
use Rattle.bits.specs.Bits.{bytes_for}
use Rattle.weighted_file.specs.Weights.{weighted_length}
use Rattle.table_text.specs.Conversions.{weighted_text_reply}
use Rattle.table.proofs.PrefixLaws.{first_taken}
use Rattle.conversion.proofs.TextReplies.{weighted_form, held_weighted, text_fits}
use Rattle.conversion.proofs.weighted_to_text_from_first.Goals as goal

pub slice_bounds-weighted_to_text-end : goal.slice_bounds-weighted_to_text-end
slice_bounds-weighted_to_text-end c =
    sym (length-take-le _ _ (omega arith))

pub returns : goal.returns
unfolding weighted_text_reply weighted_length bytes_for
returns c =
    let part-is : take c.bytes_read-end.result c.args.first ≡ take c.args.filled c.args.first = ap (λ (n : ℕ). take n c.args.first) c.bytes_read-end.ensures ∙ first_taken _ c.args.first c.args.filled (omega arith) in
    record {
      shown = λ input h.
          held_weighted c.args.first c.args.filled input _ _ _ (rw (part-is) at c.weighted_to_text.ensures.reply)
          (rw (part-is) at c.weighted_to_text.ensures.content) (rw (part-is) at c.weighted_to_text.ensures.restores) h;
      size = omega arith;
      within = omega (arith, text_fits weighted_form _ _ _ c.weighted_to_text.ensures.reply);
    }

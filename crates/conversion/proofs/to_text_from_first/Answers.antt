-- `conversion::to_text_from_first` meets its contract: what is shown of an input follows from the bytes that are held of it.
use Prim.Native.Nat.{ℕ}
use mathlib.Core.Path.{◌≡◌, sym, ap, ◌∙◌}
use native.Mathlib.Omega.{arith}
use lib.ListN.{take}
use lib.Seq.{length-take-le}
use Rattle.bits.specs.Bits.{bytes_for}
use Rattle.table.specs.Layout.{file_length}
use Rattle.table_text.specs.Conversions.{text_reply}
use Rattle.table.proofs.PrefixLaws.{first_taken}
use Rattle.conversion.proofs.TextReplies.{plain_form, held_shown, text_fits}
use Rattle.conversion.proofs.to_text_from_first.Goals as goal

pub slice_bounds-to_text-end : goal.slice_bounds-to_text-end
slice_bounds-to_text-end c =
    sym (length-take-le _ _ (omega arith))

pub returns : goal.returns
unfolding text_reply file_length bytes_for
returns c =
    let part-is : take c.bytes_read-end.result c.args.first ≡ take c.args.filled c.args.first = ap (λ (n : ℕ). take n c.args.first) c.bytes_read-end.ensures ∙ first_taken _ c.args.first c.args.filled (omega arith) in
    record {
      shown = λ input h.
          held_shown c.args.first c.args.filled input _ _ _ (rw (part-is) at c.to_text.ensures.reply)
          (rw (part-is) at c.to_text.ensures.content) (rw (part-is) at c.to_text.ensures.restores) h;
      size = omega arith;
      within = omega (arith, text_fits plain_form _ _ _ c.to_text.ensures.reply);
    }

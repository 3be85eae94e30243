-- `writing::header_word` meets its contract: each field's bits are joined behind those before it.
use mathlib.Core.Path.{◌≡◌, refl, ◌∙◌}
use mathlib.Core.List.{[], append_assoc, append-nil}
use Rattle.bits.specs.Bits.{bits_of}
use Rattle.bits.specs.Rows.{row_bits}
use Rattle.table.specs.Writing.{head_bits}
use Rattle.writing.proofs.PutLaws.{word_more}
use Rattle.writing.proofs.header_word.Goals as goal

pub returns : goal.returns
unfolding head_bits row_bits bits_of
returns c =
    let first : bits_of 7 c.join-first.result ≡ bits_of 7 c.args.count = word_more 0 7 0 c.args.count _ [] refl c.join-first.ensures in
    let a = c.args in
    word_more 19 12 _ a.q _ _ (word_more 7 12 _ a.p _ _ (first) c.join-second.ensures) c.join.ensures
    ∙ simp (append_assoc, append-nil)

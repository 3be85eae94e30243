-- `writing::task_word` meets its contract: each field's bits are joined behind those before it.
use mathlib.Core.Path.{◌≡◌, refl, ◌∙◌}
use mathlib.Core.List.{[], append_assoc, append-nil}
use Rattle.bits.specs.Bits.{bits_of}
use Rattle.bits.specs.Rows.{row_bits}
use Rattle.writing.proofs.PutLaws.{word_more}
use Rattle.writing.proofs.task_word.Goals as goal

pub returns : goal.returns
unfolding row_bits bits_of
returns c =
    let first : bits_of 17 c.join-first.result ≡ bits_of 17 c.args.task.release = word_more 0 17 0 c.args.task.release _ [] refl c.join-first.ensures in
    let task = c.args.task in
    let second = word_more 17 17 _ task.deadline _ _ (first) c.join-second.ensures in
    let third = word_more 34 14 _ task.mandatory _ _ second c.join-third.ensures in
    word_more 48 14 _ task.optional _ _ third c.join.ensures ∙ simp (append_assoc, append-nil)

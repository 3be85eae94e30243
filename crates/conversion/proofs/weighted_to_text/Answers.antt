-- `conversion::weighted_to_text` meets its contract: what `show` shows of what was read is the text of the file's weighted table.
use Rattle.std.proofs.Common.{rules, ◌∙◌}
use Rattle.table.proofs.FileLaws.{legal_count}
use Rattle.weighted_file.specs.Weights.{weighted_in, weighted_answer, weighted_read_result}
use Rattle.weighted_file.proofs.WeightLaws.{read_legal}
use Rattle.table_text.specs.WeightedText.{weighted_text}
use Rattle.table_text.specs.Conversions.{weighted_text_reply, weighted_text_over}
use Rattle.conversion.proofs.TextReplies.{result_few, result_shown, text_same, weighted_form, shown_restores, weighted_text_lem}
use Rattle.conversion.proofs.weighted_to_text.Goals as goal

pub show-requires-clause-count_le_max_tasks : goal.show-requires-clause-count_le_max_tasks
unfolding weighted_read_result
show-requires-clause-count_le_max_tasks c =
    let s = c.args.file.now in
    result_few (weighted_answer s) (weighted_in s) _ c.read-read.ensures.reply (λ a. (legal_count (read_legal s a)).1)

pub returns : goal.returns
unfolding weighted_text_reply weighted_text_over weighted_read_result
returns c =
    let s = c.args.file.now in
    let out = c.args.out.now in
    let read = result_shown 5 (weighted_answer s) (weighted_in s) _ c.read-read.ensures.reply in
    let same = text_same _ _ (weighted_answer s) _ (weighted_text (weighted_in s)) out read.0 (λ a. read.1 a ∙ weighted_text_lem _) in
    let reply = c.from.ensures ∙ (c.show.ensures.reply ∙ same.0) in
    let content = c.show.ensures.content ∙ same.1 in
    record { reply = reply; content = content; restores = shown_restores weighted_form s out _ _ (search rules) reply content }

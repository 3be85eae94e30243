-- `conversion::to_text` meets its contract: what `show` shows of what was read is the text of the file's table.
use Rattle.std.proofs.Common.{rules, ◌∙◌}
use Rattle.table.proofs.FileLaws.{legal_count}
use Rattle.table.proofs.RoundTrip.{read_legal}
use Rattle.table.specs.Reading.{table_in, read_answer}
use Rattle.table_text.specs.TableText.{text_of_table}
use Rattle.table_text.specs.Conversions.{text_reply, text_over}
use Rattle.conversion.specs.Showing.{unweighted}
use Rattle.conversion.proofs.TextReplies.{result_few, result_shown, text_same, plain_form, shown_restores, plain_text}
use Rattle.conversion.proofs.to_text.Goals as goal

pub show-requires-clause-count_le_max_tasks : goal.show-requires-clause-count_le_max_tasks
show-requires-clause-count_le_max_tasks c =
    let s = c.args.file.now in
    result_few (read_answer s) (unweighted (table_in s)) _ c.read_unweighted-read.ensures (λ a. (legal_count (read_legal s a)).1)

pub returns : goal.returns
unfolding text_reply text_over
returns c =
    let s = c.args.file.now in
    let out = c.args.out.now in
    let read = result_shown 4 (read_answer s) (unweighted (table_in s)) _ c.read_unweighted-read.ensures in
    let same = text_same _ _ (read_answer s) _ (text_of_table (table_in s)) out read.0 (λ a. read.1 a ∙ plain_text _) in
    let reply = c.from.ensures ∙ (c.show.ensures.reply ∙ same.0) in
    let content = c.show.ensures.content ∙ same.1 in
    record { reply = reply; content = content; restores = shown_restores plain_form s out _ _ (search rules) reply content }

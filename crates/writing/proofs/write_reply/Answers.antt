-- `writing::write_reply` meets its contract: past 2 the count is in range, and the parts of the reply are known.
use Rattle.std.proofs.Common.{◌∙◌, sym, refl}
use Rattle.table.specs.Writing.{write_reply}
use Rattle.table.proofs.RowFiles.{count_known}
use Rattle.writing.proofs.WriteLaws.{count_refused, reply_parts}
use Rattle.writing.proofs.write_reply.Goals as goal

pub returns-then-bad_count : goal.returns-then-bad_count
unfolding write_reply
returns-then-bad_count c =
    count_refused _ _ _ _ _ _ _ (sym c.bad_count.ensures ∙ c.if-bad_count.true)

pub window_answer-requires : goal.window_answer-requires
window_answer-requires c =
    (count_known c.args.table.count (sym c.bad_count.ensures ∙ c.if-bad_count.false)).1

pub file_length-requires : goal.file_length-requires
file_length-requires c =
    (count_known c.args.table.count (sym c.bad_count.ensures ∙ c.if-bad_count.false)).1

pub table_reply-requires : goal.table_reply-requires
table_reply-requires c =
    sym c.bad_count.ensures ∙ c.if-bad_count.false

pub returns : goal.returns
unfolding write_reply
returns c =
    c.table_reply.ensures ∙ reply_parts _ _ _ _ refl c.window_answer.ensures c.file_length.ensures

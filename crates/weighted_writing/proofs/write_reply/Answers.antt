-- `weighted_writing::write_reply` meets its contract: past 2 the count is in range, and the parts of the reply are known.
use Rattle.std.proofs.Common.{◌∙◌, sym, refl, arith}
use Rattle.table.proofs.RowFiles.{count_known}
use Rattle.writing.proofs.WriteLaws.{count_refused, reply_parts}
use Rattle.weighted_file.specs.Weights.{weighted_length, weighted_write_reply}
use Rattle.weighted_writing.proofs.write_reply.Goals as goal

pub returns-then-bad_count : goal.returns-then-bad_count
unfolding weighted_write_reply
returns-then-bad_count c =
    count_refused _ _ _ _ _ _ _ (sym c.bad_count.ensures ∙ c.if-bad_count.true)

pub rules_answer-requires : goal.rules_answer-requires
rules_answer-requires c =
    (count_known c.args.weighted.table.count (sym c.bad_count.ensures ∙ c.if-bad_count.false)).1

pub rows_length-requires : goal.rows_length-requires
rows_length-requires c =
    record {
      width_le_widest_row = omega arith;
      count_le_max_tasks = (count_known c.args.weighted.table.count (sym c.bad_count.ensures ∙ c.if-bad_count.false)).1;
    }

pub table_reply-requires : goal.table_reply-requires
table_reply-requires c =
    sym c.bad_count.ensures ∙ c.if-bad_count.false

pub returns : goal.returns
unfolding weighted_write_reply weighted_length
returns c =
    c.table_reply.ensures ∙ reply_parts _ _ _ _ refl c.rules_answer.ensures c.rows_length.ensures

-- `writing::table_reply` meets its contract: the first task with a field too wide is looked for, and the count stands for none.
use Rattle.std.proofs.Common.{◌∙◌, refl, arith}
use Rattle.table.specs.Writing.{too_wide, first_too_wide}
use Rattle.table.proofs.RowFiles.{count_known}
use Rattle.table.proofs.TableLaws.{task_found}
use Rattle.writing.proofs.WriteLaws.{found_or, reply_parts}
use Rattle.writing.proofs.table_reply.Goals as goal

pub shared_ref_as_front-first_too_wide : goal.shared_ref_as_front-first_too_wide
shared_ref_as_front-first_too_wide c =
    (count_known c.args.table.count c.requires).1

pub returns : goal.returns
unfolding first_too_wide
returns c =
    let t = c.args.table in
    let found = c.first_too_wide.ensures ∙ task_found too_wide t (omega arith) (count_known t.count c.requires).1 in
    c.rows_reply.ensures ∙ reply_parts _ _ _ _ (c.unwrap_or-wide.ensures ∙ found_or _ _ _ found) refl refl

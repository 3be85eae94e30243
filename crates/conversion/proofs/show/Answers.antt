-- `conversion::show` meets its contract: each return knows the tests that led there, in their order, and a refusal touches no byte.
use Rattle.std.proofs.Common.{◌≤◌, arith}
use Rattle.std.proofs.lemmas.Result.{IfOk-at_ok}
use Rattle.base.specs.Limits.{max_tasks}
use Rattle.table.proofs.AnswerLaws.{question_replies}
use Rattle.table_text.specs.TableText.{max_rows_text}
use Rattle.weighted_file.specs.declared.Weighted.{Weighted}
use Rattle.conversion.proofs.TextReplies.{refusal_shown, short_shown, put_shown, shown_few}
use Rattle.conversion.proofs.show.Goals as goal

pub returns-in_err-weighted : goal.returns-in_err-weighted
returns-in_err-weighted c =
    let shown = refusal_shown (max_rows_text c.args.width) c.args.width c.args.read c.args.out.now _ c.in_err-weighted.was in
    record { reply = question_replies _ _ _ c.from_residual.ensures.1 shown.0; content = shown.1 }

pub returns-then-out-bound : goal.returns-then-out-bound
returns-then-out-bound c =
    let shown = short_shown (max_rows_text c.args.width) c.args.width c.args.read c.args.out.now _ c.in_ok-weighted.was (omega (arith, c.if-out-bound.true, c.requires.lt_width.2)) in
    record { reply = shown.0; content = shown.1 }

pub put_table-requires-clause-weighted_in_bounds : goal.put_table-requires-clause-weighted_in_bounds
put_table-requires-clause-weighted_in_bounds c =
    let few = IfOk-at_ok (λ (w : Weighted). w.table.count ≤ max_tasks) c.in_ok-weighted.was c.requires.count_le_max_tasks in
    let text = shown_few c.args.width c.in_ok-weighted.weighted c.requires.lt_width.0 c.requires.lt_width.1 few in
    omega (arith, text, c.if-out-bound.false, c.requires.lt_width.2)

pub returns : goal.returns
returns c =
    let shown = put_shown (max_rows_text c.args.width) c.args.width c.args.read c.args.out.now _ _ _ c.in_ok-weighted.was (omega (arith, c.if-out-bound.false, c.requires.lt_width.2)) c.put_table.ensures in
    record { reply = shown.0; content = shown.1 }

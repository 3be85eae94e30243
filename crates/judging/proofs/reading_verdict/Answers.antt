-- `judging::reading_verdict` meets its contract: reading's refusals, and on an accepted file what judging its table comes to.
use mathlib.Core.Path.{refl, sym, ◌∙◌, ap}
use Rattle.table.specs.LegalReads.{taken_from}
use Rattle.schedule.specs.Judging.{judge_reply}
use Rattle.judging.specs.Refusals.{judged_of}
use Rattle.judging.specs.Lending.{lent_runs}
use Rattle.std.specs.Prelude.{Err}
use Rattle.judging.specs.declared.JudgeRefusal.TheVariants.{File}
use Rattle.table.proofs.AnswerLaws.{question_returns}
use Rattle.judging.proofs.ReadingLaws.{judged_table, judged_refusal}
use Rattle.judging.proofs.reading_verdict.Goals as goal

pub returns-in_err-table : goal.returns-in_err-table
returns-in_err-table c =
    ap judged_of (question_returns _ (Err (File _)) (File _) c.from_residual.ensures.1 refl)
    ∙ (judged_refusal c.args.launch c.in_err-table.field-0.0 c.args.marks.now (lent_runs c.args.runs)
    ∙ sym (ap (λ r. judge_reply c.args.launch (taken_from r) c.args.marks.now (lent_runs c.args.runs)) c.in_err-table.was))

pub returns : goal.returns
returns c =
    c.table_verdict.ensures
    ∙ (judged_table c.args.launch c.in_ok-table.table c.args.marks.now (lent_runs c.args.runs)
    ∙ sym (ap (λ r. judge_reply c.args.launch (taken_from r) c.args.marks.now (lent_runs c.args.runs)) c.in_ok-table.was))

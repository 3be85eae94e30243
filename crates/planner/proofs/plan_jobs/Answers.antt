-- `planner::plan_jobs` meets its contract: a refusal touches no list, and what is put under the chosen list is the plan.
use mathlib.Core.Path.{refl, ap, ◌∙◌}
use lib.Dec.{eqb}
use Rattle.std.specs.Prelude.{Err}
use Rattle.table.proofs.AnswerLaws.{question_returns}
use Rattle.planner.specs.Refusals.{plan_number, planned_of}
use borrow.Author.Tests.{ne_eqb}
use Rattle.table.specs.Reading.{one_each}
use Rattle.plans.specs.Planning.{LentLists}
use Rattle.plans.proofs.ArrayLaws.{refused-plan, none-fit, put-known, put-plan}
use Rattle.ordering.specs.Kinds.{by_nesting}
use Rattle.planner.proofs.plan_jobs.Goals as goal

pub returns-in_err-refused_jobs : goal.returns-in_err-refused_jobs
returns-in_err-refused_jobs c =
    let lent : LentLists = record { marks = c.args.marks.now; starts = c.args.starts.now; ends = c.args.ends.now; tasks = c.args.tasks.now } in
    let due = rw c.in_err-refused_jobs.was at c.refused_jobs.ensures in
    let refusal = c.in_err-refused_jobs.field-0.0 in
    let same = question_returns c.from_residual.result (Err refusal) refusal c.from_residual.ensures.1 refl in
    let plan =
    refused-plan (by_nesting c.args.kind) one_each c.args.jobs.now lent (planned_of c.from_residual.result) (ap planned_of same ∙ due.0)
    (ap (λ r. eqb (planned_of r).number 0) same ∙ ne_eqb (plan_number refusal) 0 due.1) in
    record { value = plan.0; tasks_value = plan.1 }

pub choose-choice-requires : goal.choose-choice-requires
choose-choice-requires c =
    let lent : LentLists = record { marks = c.args.marks.now; starts = c.args.starts.now; ends = c.args.ends.now; tasks = c.args.tasks.now } in
    record { held_jobs = c.requires; none_value = none-fit (by_nesting c.args.kind) one_each c.args.jobs.now lent _ (rw c.in_ok-refused_jobs.was at c.refused_jobs.ensures) refl c.requires }

pub put_choice-requires : goal.put_choice-requires
put_choice-requires c =
    let lent : LentLists = record { marks = c.args.marks.now; starts = c.args.starts.now; ends = c.args.ends.now; tasks = c.args.tasks.now } in
    let known = put-known (by_nesting c.args.kind) one_each c.args.jobs.now lent _ (rw c.in_ok-refused_jobs.was at c.refused_jobs.ensures) refl _ _ _ c.choose-choice.ensures c.requires in
    record { held_jobs = c.requires; keeps_value = known.0; tasks_value = known.1 }

pub returns : goal.returns
returns c =
    let lent : LentLists = record { marks = c.args.marks.now; starts = c.args.starts.now; ends = c.args.ends.now; tasks = c.args.tasks.now } in
    let plan = put-plan (by_nesting c.args.kind) one_each c.args.jobs.now lent _ (rw c.in_ok-refused_jobs.was at c.refused_jobs.ensures) refl _ _ _
    c.choose-choice.ensures c.put_choice.result _ c.put_choice.ensures.value c.put_choice.ensures.tasks_value_2 in
    record { value = plan.0; tasks_value = plan.1 }

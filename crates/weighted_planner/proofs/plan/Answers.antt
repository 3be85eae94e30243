-- `weighted_planner::plan` meets its contract: reading's refusals end the call and touch no list; the demands follow from the reply and from what the lists hold.
use Prim.Native.Nat.{ℕ, ◌≤◌, ◌<◌}
use mathlib.Core.Path.{◌≡◌, sym, ap, subst⁻¹, ◌∙◌}
use mathlib.Core.Bool.{true}
use mathlib.Core.List.{List}
use lib.Dec.{eqb}
use Rattle.std.specs.Prelude.{Ok, Err}
use Rattle.base.specs.Limits.{max_tasks, max_weight}
use Rattle.table.specs.Answers.{Answer, Accepted, number_of, place_of, is_accepted}
use Rattle.table.specs.declared.Refusal.{Refusal}
use Rattle.table.specs.Kinds.{is_nested}
use Rattle.table.specs.Writing.{Legal}
use Rattle.table.proofs.AnswerLaws.{refused_number, answered_ok-known, answered_err-known}
use Rattle.weighted_file.specs.declared.Weighted.{Weighted}
use Rattle.weighted_file.specs.Weights.{weight_at, weighted_in, weighted_answer, weighted_read, weighted_read_result}
use Rattle.weighted_file.proofs.WeightLaws.{read_legal, read_nested, read_low}
use Rattle.plans.specs.declared.Planned.{Planned}
use Rattle.plans.specs.Planning.{LentLists, plan_declined, plan_table, lists_after}
use Rattle.plans.proofs.ReplyLaws.{table_kept, file_refused, file_accepted}
use Rattle.weighted_plans.proofs.CallLaws.{weighted_clauses}
use Rattle.planner.specs.Refusals.{plan_number, plan_place, planned_of}
use Rattle.weighted_planner.proofs.plan.Goals as goal

-- what reading returns tells the answer of the file, and its weighted table where that accepts
read_in : (file : List ℕ) (weighted : Weighted) → Ok weighted ≡ weighted_read_result file → (weighted_answer file ≡ Accepted) × (weighted ≡ weighted_in file)
unfolding weighted_read_result
read_in file weighted e = answered_ok-known (weighted_answer file) (weighted_in file) weighted e

read_out : (file : List ℕ) (refusal : Refusal) → Err refusal ≡ weighted_read_result file → weighted_answer file ≡ Err refusal
unfolding weighted_read_result
read_out file refusal e = answered_err-known (weighted_answer file) (weighted_in file) refusal e

pub returns-in-Err : goal.returns-in-Err
returns-in-Err c =
    let lent : LentLists = record { marks = c.args.marks.now; starts = c.args.starts.now; ends = c.args.ends.now; tasks = c.args.tasks.now } in
    let file = c.args.file.now in
    let answer = sym (read_out file c.in-Err.refusal c.in-Err.ensures.reply) in
    let bad = ap is_accepted (sym answer) in
    let says =
    c.refusal_reply.ensures
    ∙ (ap (λ r. plan_declined (plan_number r) (plan_place r)) c.from.ensures ∙ ap (λ (a : Answer). plan_declined (number_of a) (place_of a)) answer) in
    let gives =
    weighted_clauses c.args.launch file c.refusal_reply.result lent lent
    (record {
      lawful = read_legal file;
      reply_is = says ∙ sym (file_refused c.args.launch (weighted_read file) lent bad);
      lists_are = table_kept c.args.launch (weighted_read file).weight (weighted_read file).table c.refusal_reply.result lent
          (ap (λ (p : Planned). eqb p.number 0) says ∙ refused_number (weighted_answer file) bad);
    }) in
    record {
      reply = gives.0;
      lists_after = gives.1.0;
      demand_2_refusal = gives.1.1.0;
      demand_2_judge = gives.1.1.1.0;
      demand_3 = gives.1.1.1.1.0;
      by_rules = gives.1.1.1.1.1.0;
      eight_first = gives.1.1.1.1.1.1.0;
      earlier_at_0 = gives.1.1.1.1.1.1.1.0;
      later_by_launch = gives.1.1.1.1.1.1.1.1.0;
      equals_unweighted = gives.1.1.1.1.1.1.1.1.1;
    }

pub plan_weighted-requires : goal.plan_weighted-requires
plan_weighted-requires c =
    let file = c.args.file.now in
    let read = read_in file c.in-Ok.weighted c.in-Ok.ensures.reply in
    let known =
    subst⁻¹ (λ (w : Weighted). Legal w.table × ((is_nested w.table ≡ true) × ((k : ℕ) → k < max_tasks → weight_at w k ≤ max_weight))) read.1
    (read_legal file read.0, (read_nested file read.0, read_low file read.0)) in
    record { legal = known.0; table_value = known.1.0; by_index = known.1.1 }

pub returns-in-Ok : goal.returns-in-Ok
returns-in-Ok c =
    let lent : LentLists = record { marks = c.args.marks.now; starts = c.args.starts.now; ends = c.args.ends.now; tasks = c.args.tasks.now } in
    let file = c.args.file.now in
    let read = read_in file c.in-Ok.weighted c.in-Ok.ensures.reply in
    let gives =
    weighted_clauses c.args.launch file c.reply.result lent _
    (record {
      lawful = read_legal file;
      reply_is = c.reply.ensures
          ∙ (c.plan_weighted.ensures.value
          ∙ (ap (λ (w : Weighted). plan_table c.args.launch (weight_at w) w.table lent) read.1
          ∙ sym (file_accepted c.args.launch (weighted_read file) lent read.0)));
      lists_are = c.plan_weighted.ensures.tasks_value
          ∙ (ap (λ (w : Weighted). lists_after c.args.launch (weight_at w) w.table (planned_of c.plan_weighted.result) lent) read.1
          ∙ ap (λ (p : Planned). lists_after c.args.launch (weighted_read file).weight (weighted_read file).table p lent) (sym c.reply.ensures));
    }) in
    record {
      reply = gives.0;
      lists_after = gives.1.0;
      demand_2_refusal = gives.1.1.0;
      demand_2_judge = gives.1.1.1.0;
      demand_3 = gives.1.1.1.1.0;
      by_rules = gives.1.1.1.1.1.0;
      eight_first = gives.1.1.1.1.1.1.0;
      earlier_at_0 = gives.1.1.1.1.1.1.1.0;
      later_by_launch = gives.1.1.1.1.1.1.1.1.0;
      equals_unweighted = gives.1.1.1.1.1.1.1.1.1;
    }

-- `report::print` meets its contract: what planning leaves is printed.
use Prim.Native.Nat.{ℕ}
use mathlib.Core.Path.{◌≡◌}
use mathlib.Core.List.{List}
use native.Mathlib.Omega.{arith}
use lib.ListN.{take}
use Rattle.printed_plan.specs.Printing.{plan_lines, printed}
use Rattle.printed_plan.proofs.TextLaws.{printed_length, printed_refused, printed_planned}
use Rattle.printed_plan.proofs.PrintLaws.{prints_put, prints_none, prints_same}
use Rattle.report.specs.declared.FilePlan.{FilePlan}
use Rattle.report.specs.FilePlans.{file_plan, runs_in_plan}
use Rattle.report.proofs.FilePlanLaws.{reply_left, plan_in_lists}
use Rattle.report.proofs.print.Goals as goal

-- its text
abbrev text : FilePlan → List ℕ
text plan = plan_lines plan.count plan.reply.kept plan.reply.discarded (take plan.count plan.marks) (runs_in_plan plan)

-- it is the text that is printed
text_is : (launch : ℕ) (file : List ℕ) (plan : FilePlan) → plan ≡ file_plan launch file → plan.reply.number ≡ 0 → text plan ≡ printed launch file
text_is launch file plan is planned =
    let m = plan_in_lists launch file plan is planned in
    printed_planned _ _ plan.reply (reply_left _ _ _ is) planned _ _ _ m.count_is m.marks_are m.runs_are

pub returns-then-out-lt-MAX_TEXT : goal.returns-then-out-lt-MAX_TEXT
returns-then-out-lt-MAX_TEXT c =
    record { text = prints_none _ _ c.if-out-lt-MAX_TEXT.true }

pub returns-then-reply-ne0 : goal.returns-then-reply-ne0
returns-then-reply-ne0 c =
    record {
      text = prints_same _ _ _ _ _ (printed_refused _ _ c.plan_file-plan.result.reply (reply_left _ _ _ c.plan_file-plan.ensures) c.if-reply-ne0.true)
          c.print_refusal.ensures;
    }

pub shared_ref_as_front-put_plan : goal.shared_ref_as_front-put_plan
shared_ref_as_front-put_plan c =
    omega (arith, (plan_in_lists _ _ _ c.plan_file-plan.ensures c.if-reply-ne0.false).marks_there)

pub shared_ref_as_front-put_plan-2 : goal.shared_ref_as_front-put_plan-2
shared_ref_as_front-put_plan-2 c =
    omega (arith, (plan_in_lists _ _ _ c.plan_file-plan.ensures c.if-reply-ne0.false).starts_there)

pub put_plan-requires-clause-tasks_in_bounds : goal.put_plan-requires-clause-tasks_in_bounds
put_plan-requires-clause-tasks_in_bounds c =
    rw (text_is _ _ c.plan_file-plan.result c.plan_file-plan.ensures c.if-reply-ne0.false)
    (omega (arith, printed_length c.args.launch c.args.file.now, c.if-out-lt-MAX_TEXT.false))

pub returns : goal.returns
returns c =
    record {
      text = prints_same (text c.plan_file-plan.result) _ _ _ _ (text_is _ _ _ c.plan_file-plan.ensures c.if-reply-ne0.false)
          (prints_put (text c.plan_file-plan.result) _ _ _ c.if-out-lt-MAX_TEXT.false c.put_plan.ensures);
    }

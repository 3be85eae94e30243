-- `console::print_now` meets its contract: what planning leaves is asked and printed.
use mathlib.Core.Path.{◌≡◌, sym, ◌∙◌}
use native.Mathlib.Omega.{arith}
use lib.Seq.{length-take-le}
use Rattle.printed_plan.specs.NowText.{now_lines, now_text}
use Rattle.printed_plan.proofs.NowLaws.{now_length, now_refused, now_planned, plan_accepted}
use Rattle.printed_plan.proofs.PrintLaws.{prints_put, prints_none, prints_same}
use Rattle.report.specs.declared.FilePlan.{FilePlan}
use Rattle.report.specs.FilePlans.{runs_in_plan}
use Rattle.report.proofs.FilePlanLaws.{PlanInLists, reply_left, plan_in_lists}
use Rattle.console.proofs.print_now.Goals as goal

pub returns-then-out-lt-MAX_TEXT : goal.returns-then-out-lt-MAX_TEXT
returns-then-out-lt-MAX_TEXT c =
    record { text = prints_none _ _ c.if-out-lt-MAX_TEXT.true; plan_accepted = plan_accepted _ _ }

pub returns-then-reply-ne0 : goal.returns-then-reply-ne0
returns-then-reply-ne0 c =
    let reply_is = reply_left _ _ _ c.plan_file-plan.ensures in
    record {
      text = prints_same _ _ _ _ _
          (now_refused c.args.launch c.args.tick c.args.span c.args.file.now c.plan_file-plan.result.reply reply_is c.if-reply-ne0.true)
          c.print_refusal.ensures;
      plan_accepted = plan_accepted c.args.launch c.args.file.now;
    }

pub slice_bounds-starts-end : goal.slice_bounds-starts-end
slice_bounds-starts-end c =
    let left : FilePlan = c.plan_file-plan.result in
    let in-lists : PlanInLists c.args.launch c.args.file.now (left) = plan_in_lists _ _ _ c.plan_file-plan.ensures c.if-reply-ne0.false in
    (in-lists).starts_there

pub slice_bounds-put_now-end : goal.slice_bounds-put_now-end
slice_bounds-put_now-end c =
    let left : FilePlan = c.plan_file-plan.result in
    let in-lists : PlanInLists c.args.launch c.args.file.now (left) = plan_in_lists _ _ _ c.plan_file-plan.ensures c.if-reply-ne0.false in
    sym (length-take-le _ _ in-lists.starts_there)

pub slice_bounds-ends-end : goal.slice_bounds-ends-end
slice_bounds-ends-end c =
    let left : FilePlan = c.plan_file-plan.result in
    let in-lists : PlanInLists c.args.launch c.args.file.now (left) = plan_in_lists _ _ _ c.plan_file-plan.ensures c.if-reply-ne0.false in
    (in-lists).ends_there

pub slice_bounds-put_now-end-2 : goal.slice_bounds-put_now-end-2
slice_bounds-put_now-end-2 c =
    let left : FilePlan = c.plan_file-plan.result in
    let in-lists : PlanInLists c.args.launch c.args.file.now (left) = plan_in_lists _ _ _ c.plan_file-plan.ensures c.if-reply-ne0.false in
    sym (length-take-le _ _ in-lists.ends_there)

pub slice_bounds-tasks-end : goal.slice_bounds-tasks-end
slice_bounds-tasks-end c =
    let left : FilePlan = c.plan_file-plan.result in
    let in-lists : PlanInLists c.args.launch c.args.file.now (left) = plan_in_lists _ _ _ c.plan_file-plan.ensures c.if-reply-ne0.false in
    (in-lists).tasks_there

pub slice_bounds-put_now-end-3 : goal.slice_bounds-put_now-end-3
slice_bounds-put_now-end-3 c =
    let left : FilePlan = c.plan_file-plan.result in
    let in-lists : PlanInLists c.args.launch c.args.file.now (left) = plan_in_lists _ _ _ c.plan_file-plan.ensures c.if-reply-ne0.false in
    sym (length-take-le _ _ in-lists.tasks_there)

pub put_now-requires : goal.put_now-requires
put_now-requires c =
    let left : FilePlan = c.plan_file-plan.result in
    let in-lists : PlanInLists c.args.launch c.args.file.now (left) = plan_in_lists _ _ _ c.plan_file-plan.ensures c.if-reply-ne0.false in
    let text-is : now_lines (runs_in_plan (left)) c.args.tick c.args.span ≡ now_text c.args.launch c.args.tick c.args.span c.args.file.now =
    now_planned c.args.launch c.args.tick c.args.span c.args.file.now (left).reply (reply_left _ _ _ c.plan_file-plan.ensures) c.if-reply-ne0.false _
    (in-lists).runs_are in
    record {
      one_length = (
        length-take-le _ _ in-lists.starts_there ∙ sym (length-take-le _ _ in-lists.ends_there),
        length-take-le _ _ in-lists.starts_there ∙ sym (length-take-le _ _ in-lists.tasks_there),
      );
      room = omega (arith, length-take-le _ _ in-lists.starts_there, in-lists.starts_there);
      span_in_bounds = rw (text-is) (omega (arith, now_length c.args.launch c.args.tick c.args.span c.args.file.now, c.if-out-lt-MAX_TEXT.false));
    }

pub returns : goal.returns
returns c =
    let left : FilePlan = c.plan_file-plan.result in
    let in-lists : PlanInLists c.args.launch c.args.file.now (left) = plan_in_lists _ _ _ c.plan_file-plan.ensures c.if-reply-ne0.false in
    let text-is : now_lines (runs_in_plan (left)) c.args.tick c.args.span ≡ now_text c.args.launch c.args.tick c.args.span c.args.file.now =
    now_planned c.args.launch c.args.tick c.args.span c.args.file.now (left).reply (reply_left _ _ _ c.plan_file-plan.ensures) c.if-reply-ne0.false _
    (in-lists).runs_are in
    let text = now_lines (runs_in_plan (left)) c.args.tick c.args.span in
    record { text = prints_same text _ _ _ _ (text-is) (prints_put text _ _ _ c.if-out-lt-MAX_TEXT.false c.put_now.ensures); plan_accepted = plan_accepted _ _ }

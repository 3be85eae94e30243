-- `planner::plan` meets its contract: the demands follow from the reply and from what the lists hold.
use Rattle.table.specs.Reading.{plain_read}
use Rattle.table.proofs.RoundTrip.{read_legal}
use Rattle.plans.proofs.ReplyLaws.{Replied, reply_optimal}
use Rattle.plans.proofs.CallLaws.{call_clauses}
use Rattle.planner.proofs.plan.Goals as goal

pub returns : goal.returns
returns c =
    let file = c.args.file.now in
    let replied : Replied c.args.launch (plain_read file) c.plan_counted.result.reply
    (record { marks = c.args.marks.now; starts = c.args.starts.now; ends = c.args.ends.now; tasks = c.args.tasks.now })
    (record { marks = c.plan_counted.new.marks; starts = c.plan_counted.new.starts; ends = c.plan_counted.new.ends; tasks = c.plan_counted.new.tasks }) =
    record { lawful = read_legal file; reply_is = c.plan_counted.ensures.reply_value; lists_are = c.plan_counted.ensures.tasks_value } in
    record {
      reply = (call_clauses c.args.launch (plain_read file) c.plan_counted.result.reply _ _ replied _
          (reply_optimal c.args.launch file c.plan_counted.result.reply _ _ replied)).0;
      lists_after = (call_clauses c.args.launch (plain_read file) c.plan_counted.result.reply _ _ replied _
          (reply_optimal c.args.launch file c.plan_counted.result.reply _ _ replied)).1.0;
      demand_2_refusal = (call_clauses c.args.launch (plain_read file) c.plan_counted.result.reply _ _ replied _
          (reply_optimal c.args.launch file c.plan_counted.result.reply _ _ replied)).1.1.0;
      demand_2_judge = (call_clauses c.args.launch (plain_read file) c.plan_counted.result.reply _ _ replied _
          (reply_optimal c.args.launch file c.plan_counted.result.reply _ _ replied)).1.1.1.0;
      demand_3 = (call_clauses c.args.launch (plain_read file) c.plan_counted.result.reply _ _ replied _
          (reply_optimal c.args.launch file c.plan_counted.result.reply _ _ replied)).1.1.1.1.0;
      by_rules = (call_clauses c.args.launch (plain_read file) c.plan_counted.result.reply _ _ replied _
          (reply_optimal c.args.launch file c.plan_counted.result.reply _ _ replied)).1.1.1.1.1.0;
      eight_first = (call_clauses c.args.launch (plain_read file) c.plan_counted.result.reply _ _ replied _
          (reply_optimal c.args.launch file c.plan_counted.result.reply _ _ replied)).1.1.1.1.1.1.0;
      earlier_at_0 = (call_clauses c.args.launch (plain_read file) c.plan_counted.result.reply _ _ replied _
          (reply_optimal c.args.launch file c.plan_counted.result.reply _ _ replied)).1.1.1.1.1.1.1.0;
      later_by_launch = (call_clauses c.args.launch (plain_read file) c.plan_counted.result.reply _ _ replied _
          (reply_optimal c.args.launch file c.plan_counted.result.reply _ _ replied)).1.1.1.1.1.1.1.1;
    }

-- For the proofs of report and console alone: what planning a file leaves to print.
use Rattle.std.specs.Prelude.{ℕ, List}
use Rattle.base.specs.Limits.{max_tasks}
use Rattle.table.specs.Reading.{plain_read, read_reply}
use Rattle.schedule.specs.declared.Run.{Run}
use Rattle.plans.specs.declared.Planned.{Planned}
use Rattle.plans.specs.Planning.{LentLists, lent, lists_for, lists_left}
use Rattle.plans.specs.Demands.{runs_in}
use Rattle.printed_plan.specs.Printing.{long_reply}
use Rattle.report.specs.declared.FilePlan.{FilePlan}

-- a reply, a task count and lists, as one
abbrev pub left_by : Planned → ℕ → LentLists → FilePlan
left_by reply count lists =
    record { reply = reply; count = count; marks = lists.marks; starts = lists.starts; ends = lists.ends; tasks = lists.tasks }

-- what planning a file leaves: the reply for lists long enough for every table, the count of the table, 0 where reading refuses, and such lists as
-- planning leaves them, which held 0 throughout
unfoldable pub file_plan : ℕ → List ℕ → FilePlan
file_plan launch file =
    left_by (long_reply launch file) (read_reply file).table.count (lists_left launch (plain_read file) (long_reply launch file) (lists_for max_tasks))

-- its lists: the marks, and the columns of the runs
abbrev pub lists_in_plan : FilePlan → LentLists
lists_in_plan plan = lent plan.marks plan.starts plan.ends plan.tasks

-- the runs that stand in the first places of the columns
abbrev pub runs_in_plan : FilePlan → List Run
runs_in_plan plan = runs_in plan.reply (lists_in_plan plan)

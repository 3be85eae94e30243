-- `weighted_reading::take_weighted` meets its contract: the weight starts at the bit where the task ended.
use Rattle.std.proofs.Common.{◌+◌, ◌-◌, ◌∙◌, arith}
use Rattle.table.specs.Reading.{task_from}
use Rattle.reading.proofs.Fields.{field_taken}
use Rattle.weighted_reading.proofs.take_weighted.Goals as goal

pub returns-clause-task : goal.returns-clause-task
unfolding task_from
returns-clause-task c =
    c.take_task-task.ensures.task

pub returns-clause-weight : goal.returns-clause-weight
returns-clause-weight c =
    let behind = c.take_task-task.new.at.at in
    c.take.ensures.value
    ∙ field_taken c.args.file.now (behind + 4 - 57) 53 4 0 c.take_near_end-row.ensures.row.0 (omega arith) (omega arith)

-- `reading::take_task` meets its contract: each field starts at the bit where the last ended.
use Rattle.std.proofs.Common.{◌∙◌, arith}
use Rattle.table.specs.Reading.{task_from}
use Rattle.reading.proofs.Fields.{field_taken, task_is}
use Rattle.reading.proofs.take_task.Goals as goal

pub returns-clause-task : goal.returns-clause-task
unfolding task_from
returns-clause-task c =
    let s = c.args.file.now in
    let start = c.args.at.now.at in
    let row = c.take-row.ensures.row in
    let second = c.take.ensures.moved.0 ∙ row.0 in
    let third = c.take-2.ensures.moved.0 ∙ second in
    let fourth = c.take-3.ensures.moved.0 ∙ third in
    task_is
    (c.take.ensures.value ∙ field_taken s start 0 17 45 row.0 (omega arith) (omega arith))
    (c.take-2.ensures.value ∙ field_taken s start 17 17 28 second (omega arith) (omega arith))
    (c.take-3.ensures.value ∙ field_taken s start 34 14 14 third (omega arith) (omega arith))
    (c.take-4.ensures.value ∙ field_taken s start 48 14 0 fourth (omega arith) (omega arith))

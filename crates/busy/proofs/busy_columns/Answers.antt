-- `busy::busy_columns` meets its contract: what the check refuses, or the sum, which no interval of 32 bits makes too great.
use Rattle.std.proofs.Common.{sym, ◌∙◌, arith}
use Rattle.schedule.specs.Runs.{runs_of}
use Rattle.schedule.proofs.BusyLaws.{sum_most}
use Rattle.busy.proofs.SumLaws.{columns_sum, reply_refused, reply_sum}
use Rattle.busy.proofs.busy_columns.Goals as goal

pub shared_of_columns-requires : goal.shared_of_columns-requires
shared_of_columns-requires c =
    let starts = c.args.starts.now in
    let ends = c.args.ends.now in
    let tasks = c.args.tasks.now in
    let few = sum_most (runs_of starts ends tasks) (sym (c.in-Ok.ensures tasks)) c.args.a c.args.b in
    omega (arith, columns_sum starts ends tasks c.requires.0 c.args.a c.args.b, few)

pub returns-in-Ok : goal.returns-in-Ok
returns-in-Ok c =
    let starts = c.args.starts.now in
    let ends = c.args.ends.now in
    let tasks = c.args.tasks.now in
    let sum = c.shared_of_columns.ensures ∙ columns_sum starts ends tasks c.requires.0 c.args.a c.args.b in
    c.counted.ensures ∙ reply_sum (runs_of starts ends tasks) c.args.a c.args.b _ (sym (c.in-Ok.ensures tasks)) sum

pub returns-in-Err : goal.returns-in-Err
returns-in-Err c =
    c.refused.ensures ∙ reply_refused _ c.args.a c.args.b _ (c.in-Err.ensures c.args.tasks.now)

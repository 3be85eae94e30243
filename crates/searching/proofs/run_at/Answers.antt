-- `searching::run_at` meets its contract: of an accepted list the run that holds the tick is the first that ends after it, where it has begun.
use Rattle.std.proofs.Common.{◌≡◌, sym, rules}
use Rattle.std.proofs.lemmas.Result.{err_from_is_err_and}
use Rattle.schedule.specs.Runs.{run_holds, runs_of}
use Rattle.schedule.specs.RunCheck.{Accepted, check_answer}
use Rattle.checking.proofs.PointLaws.{held_found, refused}
use Rattle.searching.proofs.ColumnLaws.{ending_there}
use Rattle.searching.proofs.run_at.Goals as goal

pub returns-in_err-check_columns : goal.returns-in_err-check_columns
returns-in_err-check_columns c =
    let p = err_from_is_err_and c.from_residual.result c.from_residual.ensures.1 in
    rw (p.1, p.2) (refused (λ run. run_holds run c.args.tick) _ _ (c.in_err-check_columns.ensures c.args.tasks.now))

pub returns : goal.returns
returns c =
    let starts = c.args.starts.now in
    let ends = c.args.ends.now in
    let tasks = c.args.tasks.now in
    let point = c.partition_point-first in
    let accepted : check_answer (runs_of starts ends tasks) ≡ Accepted = sym (c.in_ok-check_columns.ensures tasks) in
    let place = ending_there starts ends tasks accepted c.requires.0 c.args.tick point.result point.ensures.bound point.ensures.partitioned (λ a r g q. search rules) in
    held_found (runs_of starts ends tasks) accepted c.args.tick point.result _ _ place c.run_there.ensures _ (λ run b q. search rules) c.filter.ensures

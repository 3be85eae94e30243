-- `searching::run_from` meets its contract: of an accepted list the search finds the first run that starts at the tick or after it.
use Rattle.std.proofs.Common.{◌≡◌, sym, rules}
use Rattle.std.proofs.lemmas.Result.{err_from_is_err_and}
use Rattle.schedule.specs.Runs.{runs_of}
use Rattle.schedule.specs.RunCheck.{Accepted, check_answer}
use Rattle.schedule.specs.Queries.{starts_from_tick}
use Rattle.checking.proofs.PointLaws.{next_found, refused}
use Rattle.searching.proofs.ColumnLaws.{starting_there}
use Rattle.searching.proofs.run_from.Goals as goal

pub returns-in_err-check_columns : goal.returns-in_err-check_columns
returns-in_err-check_columns c =
    let p = err_from_is_err_and c.from_residual.result c.from_residual.ensures.1 in
    rw (p.1, p.2) (refused (starts_from_tick c.args.tick) _ _ (c.in_err-check_columns.ensures c.args.tasks.now))

pub returns : goal.returns
returns c =
    let starts = c.args.starts.now in
    let ends = c.args.ends.now in
    let tasks = c.args.tasks.now in
    let point = c.partition_point-first in
    let accepted : check_answer (runs_of starts ends tasks) ≡ Accepted = sym (c.in_ok-check_columns.ensures tasks) in
    let place = starting_there starts ends tasks accepted c.args.tick point.result point.ensures.bound point.ensures.partitioned (λ a r g q. search rules) in
    next_found (runs_of starts ends tasks) accepted c.args.tick point.result _ place c.run_there.ensures

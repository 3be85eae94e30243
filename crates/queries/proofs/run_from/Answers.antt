-- `queries::run_from` meets its contract: of an accepted list the search finds the first run that starts at the tick or after it.
use Rattle.std.proofs.Common.{◌≡◌, sym, ◌∙◌, rules}
use Rattle.std.proofs.lemmas.Result.{err_from_is_err_and}
use Rattle.schedule.specs.RunCheck.{Accepted, check_answer}
use Rattle.schedule.specs.Queries.{starts_from_tick}
use Rattle.schedule.proofs.QueryLaws.{first_from_lem}
use Rattle.checking.proofs.PointLaws.{starting_place, next_found, copied_there, refused}
use Rattle.queries.proofs.run_from.Goals as goal

pub returns-in_err-check-clause-reply : goal.returns-in_err-check-clause-reply
returns-in_err-check-clause-reply c =
    let p = err_from_is_err_and c.from_residual.result c.from_residual.ensures.1 in
    rw (p.1, p.2) (refused (starts_from_tick c.args.tick) _ _ c.in_err-check.ensures)

pub returns : goal.returns
returns c =
    let runs = c.args.runs.now in
    let point = c.partition_point-first in
    let accepted : check_answer runs ≡ Accepted = sym c.in_ok-check.ensures in
    let place = starting_place runs accepted c.args.tick point.result point.ensures.bound point.ensures.partitioned (λ a r g q. search rules) in
    let there = c.copied.ensures ∙ copied_there runs point.result _ c.get.ensures.lookup in
    let is = next_found runs accepted c.args.tick point.result _ place there in
    record { reply = is; first_from = first_from_lem runs c.args.tick _ is }

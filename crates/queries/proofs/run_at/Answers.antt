-- `queries::run_at` meets its contract: of an accepted list the run that holds the tick is the first that ends after it, where it has begun.
use Rattle.std.proofs.Common.{◌≡◌, sym, ◌∙◌, rules}
use Rattle.std.proofs.lemmas.Result.{err_from_is_err_and}
use Rattle.schedule.specs.Runs.{run_holds}
use Rattle.schedule.specs.RunCheck.{Accepted, check_answer}
use Rattle.schedule.proofs.QueryLaws.{holds_tick}
use Rattle.checking.proofs.PointLaws.{ending_place, held_found, copied_there, refused}
use Rattle.queries.proofs.run_at.Goals as goal

pub returns-in_err-check-clause-reply : goal.returns-in_err-check-clause-reply
returns-in_err-check-clause-reply c =
    let p = err_from_is_err_and c.from_residual.result c.from_residual.ensures.1 in
    rw (p.1, p.2) (refused (λ run. run_holds run c.args.tick) _ _ c.in_err-check.ensures)

pub returns : goal.returns
returns c =
    let runs = c.args.runs.now in
    let point = c.partition_point-first in
    let accepted : check_answer runs ≡ Accepted = sym c.in_ok-check.ensures in
    let place = ending_place runs accepted c.args.tick point.result point.ensures.bound point.ensures.partitioned (λ a r g q. search rules) in
    let there = c.copied.ensures ∙ copied_there runs point.result _ c.get.ensures.lookup in
    let is = held_found runs accepted c.args.tick point.result _ _ place there _ (λ run b q. search rules) c.filter.ensures in
    record { reply = is; holds_tick = holds_tick runs c.args.tick _ is }

-- `release_tick` meets its contract: (frame + 1) * p fits 32 bits, also with q - 1 added, and so does the tick.
use mathlib.Core.Path.{refl}
use borrow.Author.Rules.{rules}
use Rattle.base.proofs.PeriodLaws.{period_known}
use Rattle.clock.specs.Clock.{release_offset, release_tick}
use Rattle.clock.proofs.ClockLaws.{release_meets, sum_few, product_few, number_fits, tick_fits}
use Rattle.clock.proofs.release_tick.Goals as goal

pub overflow_add-result : goal.overflow_add-result
overflow_add-result c =
    let k = period_known c.args.p c.args.q c.requires.q_value in search (rules, k)

pub overflow_mul-result : goal.overflow_mul-result
overflow_mul-result c =
    let k = period_known c.args.p c.args.q c.requires.q_value in record { fits = number_fits (product_few (search (rules, k)) (search (rules, k))) }

pub overflow_sub-result : goal.overflow_sub-result
overflow_sub-result c =
    let k = period_known c.args.p c.args.q c.requires.q_value in search (rules, k)

pub overflow_add-result-2 : goal.overflow_add-result-2
overflow_add-result-2 c =
    let k = period_known c.args.p c.args.q c.requires.q_value in record { fits = number_fits (sum_few (search (rules, k)) (search (rules, k)) (search (rules, k))) }

pub nonzero_div-result : goal.nonzero_div-result
nonzero_div-result c =
    let k = period_known c.args.p c.args.q c.requires.q_value in search (rules, k)

pub overflow_add-result-3 : goal.overflow_add-result-3
overflow_add-result-3 c =
    let k = period_known c.args.p c.args.q c.requires.q_value in record { fits = tick_fits _ (sum_few (search (rules, k)) (search (rules, k)) (search (rules, k))) (search (rules, k)) }

pub returns : goal.returns
unfolding release_tick release_offset
returns c =
    let k = period_known c.args.p c.args.q c.requires.q_value in
    record { tick = refl; least = release_meets _ _ _ _ (search (rules, k)) }

-- `deadline_tick` meets its contract: frame * p fits 32 bits, and so does the tick.
use mathlib.Core.Path.{refl}
use borrow.Author.Rules.{rules}
use Rattle.base.proofs.PeriodLaws.{period_known}
use Rattle.clock.specs.Clock.{deadline_offset, deadline_tick}
use Rattle.clock.proofs.ClockLaws.{deadline_meets, product_few, number_fits, tick_fits}
use Rattle.clock.proofs.deadline_tick.Goals as goal

pub overflow_mul-result : goal.overflow_mul-result
overflow_mul-result c =
    let k = period_known c.args.p c.args.q c.requires.q_value in record { fits = number_fits (product_few (search (rules, k)) (search (rules, k))) }

pub nonzero_div-result : goal.nonzero_div-result
nonzero_div-result c =
    let k = period_known c.args.p c.args.q c.requires.q_value in search (rules, k)

pub overflow_add-result : goal.overflow_add-result
overflow_add-result c =
    let k = period_known c.args.p c.args.q c.requires.q_value in record { fits = tick_fits _ (product_few (search (rules, k)) (search (rules, k))) (search rules) }

pub returns : goal.returns
unfolding deadline_tick deadline_offset
returns c =
    let k = period_known c.args.p c.args.q c.requires.q_value in
    record { tick = refl; greatest = deadline_meets _ _ _ _ (search (rules, k)) }

-- `planner::refused_jobs` meets its contract: each return knows the tests that led there, in their order.
use mathlib.Core.Path.{◌≡◌, sym, ap, ◌∙◌}
use native.Mathlib.Omega.{arith}
use lib.ListN.{length}
use borrow.Author.Tests.{lt-ltb, le-ltb}
use Rattle.ordering.specs.Kinds.{by_nesting}
use Rattle.plans.specs.Planning.{plan_declined, unmet_by}
use Rattle.plans.specs.PlanParts.{refused_by}
use Rattle.planner.proofs.refused_jobs.Goals as goal

pub returns-then-unmet-jobs : goal.returns-then-unmet-jobs
unfolding refused_by
returns-then-unmet-jobs c =
    let found = c.first_unmet-unmet.ensures in
    let unmet = unmet_by (by_nesting c.args.kind) (length c.args.jobs.now) c.args.jobs.now in (
      ap (plan_declined 8) found ∙ rw (lt-ltb unmet (length c.args.jobs.now) (omega (arith, found))),
      λ e. let n : 8 ≡ 0 = e in absurd (omega arith),
    )

pub returns-then-too_short : goal.returns-then-too_short
unfolding refused_by
returns-then-too_short c =
    let found = c.first_unmet-unmet.ensures in
    let unmet = unmet_by (by_nesting c.args.kind) (length c.args.jobs.now) c.args.jobs.now in (
      rw (le-ltb unmet (length c.args.jobs.now) (omega (arith, found)), sym c.too_short.ensures ∙ c.if-too_short.true),
      λ e. let n : 9 ≡ 0 = e in absurd (omega arith),
    )

pub returns : goal.returns
unfolding refused_by
returns c =
    let found = c.first_unmet-unmet.ensures in
    let unmet = unmet_by (by_nesting c.args.kind) (length c.args.jobs.now) c.args.jobs.now in
    rw (le-ltb unmet (length c.args.jobs.now) (omega (arith, found)), sym c.too_short.ensures ∙ c.if-too_short.false)

-- Plans, queries and the busy count: the run list of every plan is accepted by their check.
use Prim.Native.Nat.{ℕ}
use mathlib.Core.Path.{◌≡◌}
use mathlib.Core.Bool.{true}
use native.Mathlib.Omega.{arith}
use lib.ListN.{length}
use borrow.Author.Tests.{le-ltb}
use Rattle.base.specs.Limits.{max_runs}
use Rattle.table.specs.declared.Table.{Table}
use Rattle.table.specs.Writing.{Legal}
use Rattle.table.proofs.FileLaws.{legal_count}
use Rattle.schedule.specs.Ticks.{ticks_owned}
use Rattle.schedule.specs.Runs.{too_many, owner_of}
use Rattle.schedule.specs.RunCheck.{Accepted, check_answer}
use Rattle.schedule.specs.BusyCount.{busy_reply}
use Rattle.schedule.proofs.CheckLaws.{ordered_accepted}
use Rattle.schedule.proofs.BusyLaws.{sum_owned}
use Rattle.plans.specs.Planning.{plan_runs}
use Rattle.plans.specs.PlanParts.{mandatory_fit}
use Rattle.plans.proofs.PlanLaws.{plan_listed, plan_few}

-- It has no more runs than a run list may have, none is empty, and none starts before the one before it ends. So a query of a plan is never
-- refused, and where it answers that there is no run, there is none.
pub plan_checked : (launch : ℕ) (weight : ℕ → ℕ) (t : Table) → Legal t → mandatory_fit launch t ≡ true → check_answer (plan_runs launch weight t) ≡ Accepted
unfolding too_many
plan_checked launch weight t legal fit =
    let listed = plan_listed launch weight t legal fit in
    let few = le-ltb max_runs (length (plan_runs launch weight t)) (omega (arith, plan_few launch weight t legal fit, legal_count legal)) in
    ordered_accepted (plan_runs launch weight t) few (listed.nonempty, listed.ordered)

-- Nor is its busy count, which is the number of ticks of the interval that the plan's runs hold.
pub plan_busy : (launch : ℕ) (weight : ℕ → ℕ) (t : Table) → Legal t → mandatory_fit launch t ≡ true
    → (a b : ℕ) → busy_reply (plan_runs launch weight t) a b ≡ record { number = 0; place = 0; ticks = ticks_owned (owner_of (plan_runs launch weight t)) a b }
unfolding busy_reply
plan_busy launch weight t legal fit a b =
    let accepted = plan_checked launch weight t legal fit in
    rw (accepted, sum_owned (plan_runs launch weight t) accepted a b)

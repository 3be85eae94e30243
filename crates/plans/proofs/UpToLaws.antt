-- Sums up to a task in the order of its table's kind. In nest order works fit exactly where those up to each task come to no more than the ticks of its
-- window.
use Prim.Native.Nat.{ℕ, ◌+◌, ◌≤◌, ◌<◌}
use mathlib.Core.Path.{◌≡◌, refl, ap}
use mathlib.Core.Logic.{◌↔◌}
use mathlib.Core.Bool.{true, false}
use mathlib.Core.List.{List, [], ◌∷◌, map}
use native.Mathlib.Omega.{arith}
use lib.Dec.{eqb}
use borrow.Author.Tests.{eq-eqb, ne_eqb}
use Rattle.base.specs.Tests.{pick, or}
use Rattle.base.specs.Members.{All}
use Rattle.base.proofs.TestLaws.{both_absurd, or_first, or_false}
use Rattle.base.proofs.MemberLaws.{all_members}
use Rattle.table.specs.declared.Table.{Table}
use Rattle.schedule.specs.Jobs.{job_at, window_ticks}
use Rattle.choice.specs.Choice.{works_fit}
use Rattle.choice.proofs.WorkLaws.{works_head, works_tail, works_cons}
use Rattle.orders.specs.KindOrder.{kind_before, order_last_first, jobs_last_first}
use Rattle.orders.proofs.SortLaws.{sum_over, sum_order, Sorted}
use Rattle.orders.proofs.BeforeLaws.{kind_once, kind_falls, all_order, order_all}
use Rattle.plans.specs.Rules.{up_to, ticks_up_to, Within}

-- a task counts up to itself, those before it do, and those after it do not
up_to-self : (t : Table) (k : ℕ) → up_to t k k ≡ true
unfolding up_to
up_to-self t k = or_first (eqb k k) (kind_before t k k) (eq-eqb k k refl)

up_to-before : (t : Table) (j k : ℕ) → kind_before t j k ≡ true → up_to t j k ≡ true
unfolding up_to
up_to-before t j k e = rw e (always (eqb j k))
  where
    always : (b : _) → or b true ≡ true
    always true = refl
    always false = refl

up_to-after : (t : Table) (j k : ℕ) → kind_before t k j ≡ true → up_to t j k ≡ false
unfolding up_to
up_to-after t j k e =
    or_false (eqb j k) (kind_before t j k)
    (ne_eqb j k (λ q. let self : kind_before t k k ≡ true = rw q at e in both_absurd (kind_before t k k) self (kind_once t k k self)))
    (kind_once t k j e)

module _ (launch : ℕ) (t : Table) (ticks : ℕ → ℕ) where
  -- the ticks up to a task among the positions of a list
  unfoldable pub list_up_to : List ℕ → ℕ → ℕ
  list_up_to js k = sum_over (λ j. pick (up_to t j k) (ticks j) 0) js

  -- up to the last they are all
  pub up_first : (k : ℕ) (js : List ℕ) → All (λ j. kind_before t j k ≡ true) js → list_up_to (k ∷ js) k ≡ ticks k + sum_over ticks js
  unfolding list_up_to
  up_first k js h = rw (up_to-self t k) (ap (λ (x : ℕ). ticks k + x) (whole js h))
    where
      whole : (js : List ℕ) → All (λ j. kind_before t j k ≡ true) js → sum_over (λ j. pick (up_to t j k) (ticks j) 0) js ≡ sum_over ticks js
      whole [] h = refl
      whole (j ∷ js) h = rw (up_to-before t j k h.0) (ap (λ (x : ℕ). ticks j + x) (whole js h.1))

  -- up to another the last adds nothing
  pub up_rest : (k i : ℕ) (js : List ℕ) → kind_before t i k ≡ true → list_up_to (k ∷ js) i ≡ list_up_to js i
  unfolding list_up_to
  up_rest k i js e = rw (up_to-after t k i e) (omega arith)

  -- works of positions that stand last first fit exactly where each window has the ticks for those up to its task
  pub list_within : (js : List ℕ) → Sorted (kind_before t) js
      → (works_fit (map (job_at launch t) js) (map ticks js) ≡ true) ↔ All (λ k. list_up_to js k ≤ window_ticks (job_at launch t k)) js
  unfolding works_fit
  list_within [] s = (λ e. tt, λ h. refl)
  list_within (k ∷ js) s =
      let first : list_up_to (k ∷ js) k ≡ ticks k + sum_over ticks js = up_first k js s.0 in
      let rest = list_within js s.1 in
      let inner = (all_members (λ i. kind_before t i k ≡ true) js).0 s.0 in
      let short = all_members (λ i. list_up_to js i ≤ window_ticks (job_at launch t i)) js in
      let long = all_members (λ i. list_up_to (k ∷ js) i ≤ window_ticks (job_at launch t i)) js in (
        λ e. (
          omega (arith, works_head (job_at launch t k) (map (job_at launch t) js) (ticks k) (map ticks js) e),
          long.1 (λ i m. rw (up_rest k i js (inner i m)) (short.0 (rest.0 (works_tail (job_at launch t k) (map (job_at launch t) js) (ticks k) (map ticks js) e)) i m)),
        ),
        λ h.
            let head = h.0 in
            works_cons (job_at launch t k) (map (job_at launch t) js) (ticks k) (map ticks js) (omega arith)
            (rest.1 (short.1 (λ i m. rw (up_rest k i js (inner i m)) at (long.0 h.1 i m)))),
      )

  -- the order of a table has each position once
  pub up_order : (k : ℕ) → list_up_to (order_last_first t) k ≡ ticks_up_to t ticks k
  unfolding list_up_to ticks_up_to order_last_first
  up_order k = sum_order (kind_before t) (λ j. pick (up_to t j k) (ticks j) 0) t.count

  -- Works of the tasks of a table fit exactly where those up to each task come to no more than the ticks of its window.
  pub works_within : (works_fit (jobs_last_first launch t) (map ticks (order_last_first t)) ≡ true) ↔ ((k : ℕ) → k < t.count → Within launch t ticks k)
  unfolding jobs_last_first
  works_within =
      let order = order_last_first t in
      let law = list_within order (kind_falls t) in (
        λ e k l. rw (← up_order k) (order_all t (λ i. list_up_to order i ≤ window_ticks (job_at launch t i)) (law.0 e) k l),
        λ h. law.1 (all_order t (λ i. list_up_to order i ≤ window_ticks (job_at launch t i)) (λ k l. rw (up_order k) (h k l))),
      )

-- The search for the first task that exceeds its window finds it, and finds nothing exactly where there is none.
use Prim.Native.Nat.{ℕ, ◌+◌, ◌≤◌, ◌<◌}
use mathlib.Core.Path.{◌≡◌, refl, sym, ap, ap₂, ◌∙◌}
use mathlib.Core.Logic.{◌↔◌, inl, inr}
use mathlib.Core.Bool.{true, false, not}
use mathlib.Core.List.{List, [], ◌∷◌, map, reverse, reverse-cons}
use native.Mathlib.Omega.{arith}
use native.Mathlib.Decide.{ℕ_discrete}
use lib.Dec.{ltb}
use borrow.Author.Tests.{ltb-true, ltb-false, le-ltb, not-false}
use Rattle.base.specs.Tests.{pick}
use Rattle.base.specs.Members.{All, Any}
use Rattle.base.proofs.TestLaws.{cases, both_absurd}
use Rattle.base.proofs.MemberLaws.{all_reverse, all_members}
use Rattle.table.specs.declared.Table.{Table}
use Rattle.schedule.specs.Jobs.{job_at, window_ticks}
use Rattle.schedule.proofs.JudgeLaws.{job_position}
use Rattle.choice.specs.Choice.{works_of, fits, keep_none}
use Rattle.choice.specs.Programme.{mandatory_sum}
use Rattle.orders.specs.KindOrder.{kind_before, order_last_first, jobs_last_first}
use Rattle.orders.proofs.SortLaws.{order_below, sum_over, Sorted}
use Rattle.orders.proofs.BeforeLaws.{kind_once, kind_total, kind_falls, order_all}
use Rattle.plans.specs.Planning.{exceeding_after}
use Rattle.plans.specs.Rules.{Within, FirstExceeding}
use Rattle.plans.proofs.ExceedLaws.{exceeding_append, sum_reverse, exceeding_test}
use Rattle.plans.proofs.PlanLaws.{jobs_below}
use Rattle.plans.proofs.UpToLaws.{list_up_to, up_first, up_rest, list_within, up_order, works_within}

module _ (launch : ℕ) (t : Table) where
  -- the mandatory ticks of the task at a position
  abbrev mandatoryAt : ℕ → ℕ
  mandatoryAt j = (job_at launch t j).mandatory

  -- among some positions, those up to a task come to no more than the ticks of its window
  abbrev ListWithin : List ℕ → ℕ → Type 0
  ListWithin js k = list_up_to launch t mandatoryAt js k ≤ window_ticks (job_at launch t k)

  -- the works of jobs under the list that keeps nothing are their mandatory ticks
  none-works : (js : List ℕ) → works_of (map (job_at launch t) js) (keep_none (map (job_at launch t) js)) ≡ map mandatoryAt js
  unfolding works_of
  none-works [] = refl
  none-works (j ∷ js) =
      let e : (job_at launch t j).mandatory + 0 ≡ (job_at launch t j).mandatory = omega arith in
      ap₂ (λ (x : ℕ) (xs : List ℕ). x ∷ xs) e (none-works js)

  -- their sum
  mandatory-sum : (js : List ℕ) → mandatory_sum (map (job_at launch t) js) ≡ sum_over mandatoryAt js
  mandatory-sum [] = refl
  mandatory-sum (j ∷ js) = ap (λ (x : ℕ). (job_at launch t j).mandatory + x) (mandatory-sum js)

  -- the jobs of positions below n have positions below n
  positions-below : (n : ℕ) (js : List ℕ) → All (λ j. j < n) js → All (λ job. job.position < n) (map (job_at launch t) js)
  positions-below n [] b = tt
  positions-below n (j ∷ js) b = (rw (job_position launch t j) b.0, positions-below n js b.1)

  -- the search over positions that stand last first
  abbrev found : ℕ → List ℕ → ℕ
  found n js = exceeding_after n 0 (reverse (map (job_at launch t) js))

  -- where it finds nothing, no task exceeds its window
  none_found : (n : ℕ) (js : List ℕ) → All (λ j. j < n) js → Sorted (kind_before t) js → ltb (found n js) n ≡ false → All (ListWithin js) js
  none_found n js b s e =
      (list_within launch t mandatoryAt js s).0
      (rw (none-works js) at
      (not-false (fits (map (job_at launch t) js) (keep_none (map (job_at launch t) js))) (sym (exceeding_test n (map (job_at launch t) js) (positions-below n js b)) ∙ e)))

  -- the first task among some positions that exceeds its window
  record FirstIn (js : List ℕ) (place : ℕ) : Type 0 where
    member : Any (λ j. j ≡ place) js
    exceeds : window_ticks (job_at launch t place) < list_up_to launch t mandatoryAt js place
    first : All (λ k. kind_before t k place ≡ true → ListWithin js k) js

  -- the search with one more task, the last: what it finds among the others, or that task
  found-more : (n k : ℕ) (js : List ℕ) → All (λ j. j < n) js
      → found n (k ∷ js)
      ≡ pick (ltb (found n js) n) (found n js) (pick (ltb (window_ticks (job_at launch t k)) (sum_over mandatoryAt js + (job_at launch t k).mandatory)) k n)
  unfolding exceeding_after
  found-more n k js b =
      let sum : 0 + mandatory_sum (reverse (map (job_at launch t) js)) ≡ sum_over mandatoryAt js = omega (arith, sum_reverse (map (job_at launch t) js), mandatory-sum js) in
      rw (reverse-cons (job_at launch t k) (map (job_at launch t) js))
      (exceeding_append n 0 (reverse (map (job_at launch t) js)) (job_at launch t k ∷ []) (all_reverse (λ job. job.position < n) (map (job_at launch t) js) (positions-below n js b))
      ∙ rw (sum, job_position launch t k))

  -- what it finds is the first task that exceeds its window
  first-in : (n : ℕ) (js : List ℕ) → All (λ j. j < n) js → Sorted (kind_before t) js → (place : ℕ) → found n js ≡ place → place < n → FirstIn js place
  unfolding exceeding_after
  first-in n [] b s place e l = absurd (omega arith)
  first-in n (k ∷ js) b s place e l =
      let more = found-more n k js b.1 in
      let inner = (all_members (λ i. kind_before t i k ≡ true) js).0 s.0 in
      let long = all_members (λ i. kind_before t i place ≡ true → ListWithin (k ∷ js) i) js in
      cases (ltb (found n js) n)
      (λ f.
      let same : found n js ≡ place = sym (rw f at more) ∙ e in
      let r : FirstIn js place = first-in n js b.1 s.1 place same l in
      let short = (all_members (λ i. kind_before t i place ≡ true → ListWithin js i) js).0 r.first in
      let before : kind_before t place k ≡ true = inner place r.member in
      record {
        member = inr r.member;
        exceeds = rw (up_rest launch t mandatoryAt k place js before) r.exceeds;
        first = (
          λ h. both_absurd (kind_before t k place) h (kind_once t place k before),
          long.1 (λ i m h. rw (up_rest launch t mandatoryAt k i js (inner i m)) (short i m h)),
        );
      })
      (λ f.
      let others = (all_members (ListWithin js) js).0 (none_found n js b.1 s.1 f) in
      let sum = up_first launch t mandatoryAt k js s.0 in
      cases (ltb (window_ticks (job_at launch t k)) (sum_over mandatoryAt js + (job_at launch t k).mandatory))
      (λ g.
      let over = ltb-true (window_ticks (job_at launch t k)) (sum_over mandatoryAt js + (job_at launch t k).mandatory) g in
      let is : k ≡ place = sym (rw (f, g) at more) ∙ e in
      record {
        member = inl is;
        exceeds = rw (← is) (omega arith);
        first = (
          λ h. let self : kind_before t k k ≡ true = rw (← is) at h in both_absurd (kind_before t k k) self (kind_once t k k self),
          long.1 (λ i m h. rw (up_rest launch t mandatoryAt k i js (inner i m)) (others i m)),
        );
      })
      (λ g. let is : n ≡ place = sym (rw (f, g) at more) ∙ e in absurd (omega arith)))

  -- what the search finds in the order of a table
  unfoldable pub first_exceeding : ℕ
  first_exceeding = exceeding_after t.count 0 (reverse (jobs_last_first launch t))

  -- The search finds nothing exactly where the mandatory ticks up to each task come to no more than the ticks of its window.
  pub exceeding_never : (t.count ≤ first_exceeding) ↔ ((k : ℕ) → k < t.count → Within launch t (λ j. (job_at launch t j).mandatory) k)
  unfolding first_exceeding jobs_last_first
  exceeding_never =
      let order = order_last_first t in
      let test = exceeding_test t.count (jobs_last_first launch t) (jobs_below launch t) in
      let law = works_within launch t mandatoryAt in (
        λ l.
            let fit = not-false (fits (jobs_last_first launch t) (keep_none (jobs_last_first launch t))) (sym test ∙ le-ltb first_exceeding t.count l) in
            law.0 (rw (none-works order) at fit),
        λ h. ltb-false first_exceeding t.count (test ∙ ap not (rw (← none-works order) at (law.1 h))),
      )

  -- What it finds is the first task that exceeds its window,
  exceeding_found : first_exceeding < t.count → FirstExceeding launch t first_exceeding
  unfolding first_exceeding jobs_last_first order_last_first
  exceeding_found l =
      let order = order_last_first t in
      let r = first-in t.count order (order_below (kind_before t) t.count) (kind_falls t) first_exceeding refl l in
      record {
        known = l;
        exceeds = rw (← up_order launch t mandatoryAt first_exceeding) r.exceeds;
        first = λ k m h. rw (← up_order launch t mandatoryAt k) (order_all t (λ i. kind_before t i first_exceeding ≡ true → ListWithin order i) r.first k m h);
      }

  -- and there is one at most.
  exceeding-one : (a b : ℕ) → FirstExceeding launch t a → FirstExceeding launch t b → a ≡ b
  exceeding-one a b p q =
      elim (ℕ_discrete a b) [
        | yes e ↦ e
        | no n ↦
            absurd
            (cases (kind_before t a b)
            (λ e. omega (arith, q.first a p.known e))
            (λ e. omega (arith, p.first b q.known (kind_total t a b n e))))
      ]

  -- The search finds a place exactly where it is that of the first task that exceeds its window.
  pub exceeding_first : (place : ℕ) → ((first_exceeding ≡ place) × (place < t.count)) ↔ FirstExceeding launch t place
  exceeding_first place = (
    λ h. rw h.0 at (exceeding_found (rw h.0 h.1)),
    λ f.
        cases (ltb first_exceeding t.count)
        (λ e. (exceeding-one first_exceeding place (exceeding_found (ltb-true first_exceeding t.count e)) f, f.known))
        (λ e. absurd (omega (arith, f.exceeds, exceeding_never.0 (ltb-false first_exceeding t.count e) place f.known))),
  )

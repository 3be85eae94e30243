-- The first task in the order of its table's kind where the mandatory ticks up to and with it can't be met: what the search finds has no running of the
-- tasks up to and with it, and for each task before it there is one.
use Prim.Native.Nat.{ℕ, zero, suc, ◌+◌, ◌<◌}
use mathlib.Core.Path.{◌≡◌, refl, sym, ap, ◌∙◌}
use mathlib.Core.Logic.{◌↔◌, ◌≢◌, inl, inr}
use mathlib.Core.Bool.{Bool, true, false, not}
use mathlib.Core.List.{List, [], ◌∷◌, map, reverse, reverse-cons}
use native.Mathlib.Omega.{arith}
use native.Mathlib.Decide.{ℕ_discrete}
use lib.Dec.{eqb, ltb}
use borrow.Author.Tests.{eq-eqb, ne_eqb, lt-ltb, le-ltb, ltb-true, eqb-true}
use Rattle.base.specs.Tests.{pick, and}
use Rattle.base.specs.Members.{All, Any}
use Rattle.base.proofs.TestLaws.{cases, both_absurd, or_first, or_second}
use Rattle.base.proofs.MemberLaws.{all_members, all_reverse}
use Rattle.table.specs.declared.Table.{Table}
use Rattle.table.specs.Kinds.{is_nested}
use Rattle.table.specs.Writing.{Legal}
use Rattle.schedule.specs.declared.Job.{Job}
use Rattle.schedule.specs.Jobs.{job_at, window_ticks}
use Rattle.schedule.specs.Ticks.{Owner}
use Rattle.schedule.specs.Runnings.{Whole, Running}
use Rattle.schedule.proofs.JudgeLaws.{job_position}
use Rattle.placement.proofs.SameJobs.{running_same}
use Rattle.choice.specs.Choice.{works_fit, works_of, keep_none}
use Rattle.choice.specs.Programme.{mandatory_sum}
use Rattle.choice.proofs.FitLaws.{fits_tail}
use Rattle.sequence.specs.InOrder.{in_time, finish, fits_in_order, first_late}
use Rattle.sequence.proofs.InOrderLaws.{order_tail}
use Rattle.sequence.proofs.LateLaws.{late_test, fits_mandatory}
use Rattle.orders.specs.KindOrder.{kind_before, order_last_first, jobs_last_first}
use Rattle.orders.proofs.SortLaws.{Sorted}
use Rattle.orders.proofs.BeforeLaws.{kind_once, kind_total, kind_falls, among_order, order_among, sorted_other}
use Rattle.plans.specs.Planning.{exceeding_after, unmet_by}
use Rattle.plans.specs.PlanParts.{fits_by, unmet_place, mandatory_fit}
use Rattle.plans.specs.KindJobs.{JobsOfKind}
use Rattle.plans.specs.Rules.{up_to, jobs_that, jobs_up_to, FirstUnmet}
use Rattle.plans.proofs.ExceedLaws.{exceeding_append, exceeding_test}
use Rattle.plans.proofs.JobPlans.{exists_by, unmet_test}
use Rattle.plans.proofs.PlanLaws.{none_unmet}
use Rattle.plans.proofs.TableJobs.{kind_jobs}

-- The mandatory parts of jobs alone fit, and what one job more changes.
abbrev pub fit : Bool → List Job → Bool
fit nested jobs = fits_by nested jobs (keep_none jobs)

fit_empty : (nested : Bool) → fit nested [] ≡ true
unfolding fits_by works_fit works_of fits_in_order
fit_empty true = refl
fit_empty false = refl

fit_tail : (nested : Bool) (job : Job) (jobs : List Job) → fit nested (job ∷ jobs) ≡ true → fit nested jobs ≡ true
unfolding fits_by
fit_tail true job jobs e = fits_tail job jobs false (keep_none jobs) e
fit_tail false job jobs e = order_tail job jobs false (keep_none jobs) e

kind_rest : (nested : Bool) (job : Job) (jobs : List Job) → JobsOfKind nested (job ∷ jobs) → JobsOfKind nested jobs
kind_rest true job jobs c = record { nested = c.nested.1; distinct = c.distinct.1 }
kind_rest false job jobs s = record { ordered = s.ordered.1; distinct = s.distinct.1 }

-- a job is found before which all fit, and with which they do not,
unmet_here : (nested : Bool) (n : ℕ) (job : Job) (jobs : List Job) → All (λ job. job.position < n) (job ∷ jobs) → fit nested jobs ≡ true
    → fit nested (job ∷ jobs) ≡ false → unmet_by nested n (job ∷ jobs) ≡ job.position
unfolding unmet_by fits_by exceeding_after first_late
unmet_here true n job jobs b e f =
    let sum = 0 + mandatory_sum (reverse jobs) in
    let split = exceeding_append n 0 (reverse jobs) (job ∷ []) (all_reverse (λ job. job.position < n) jobs b.1) in
    let earlier : ltb (exceeding_after n 0 (reverse jobs)) n ≡ false = exceeding_test n jobs b.1 ∙ ap not e in
    let whole : exceeding_after n 0 (reverse (job ∷ jobs)) ≡ pick (ltb (window_ticks job) (sum + job.mandatory)) job.position n =
    ap (exceeding_after n 0) (reverse-cons job jobs) ∙ (split ∙ rw earlier refl) in
    cases (ltb (window_ticks job) (sum + job.mandatory))
    (λ g. whole ∙ rw g refl)
    (λ g.
    let none : exceeding_after n 0 (reverse (job ∷ jobs)) ≡ n = whole ∙ rw g refl in
    both_absurd (ltb (exceeding_after n 0 (reverse (job ∷ jobs))) n) (exceeding_test n (job ∷ jobs) b ∙ ap not f) (rw none (le-ltb n n (omega arith))))
unmet_here false n job jobs b e f =
    let earlier : ltb (first_late n jobs) n ≡ false = late_test n jobs b.1 ∙ ap not e in
    let late : in_time job job.mandatory (finish jobs (keep_none jobs)) ≡ false = first-false _ _ (sym (fits_mandatory job jobs) ∙ f) e in
    rw (earlier, late) refl
  where
    first-false : (x y : Bool) → and x y ≡ false → y ≡ true → x ≡ false
    first-false true y h q = both_absurd y q h
    first-false false y h q = refl

-- and else what was found before
unmet_there : (nested : Bool) (n : ℕ) (job : Job) (jobs : List Job) → All (λ job. job.position < n) (job ∷ jobs) → fit nested jobs ≡ false
    → unmet_by nested n (job ∷ jobs) ≡ unmet_by nested n jobs
unfolding unmet_by fits_by exceeding_after first_late
unmet_there true n job jobs b e =
    let split = exceeding_append n 0 (reverse jobs) (job ∷ []) (all_reverse (λ job. job.position < n) jobs b.1) in
    let earlier : ltb (exceeding_after n 0 (reverse jobs)) n ≡ true = exceeding_test n jobs b.1 ∙ ap not e in
    ap (exceeding_after n 0) (reverse-cons job jobs) ∙ (split ∙ rw earlier refl)
unmet_there false n job jobs b e =
    let earlier : ltb (first_late n jobs) n ≡ true = late_test n jobs b.1 ∙ ap not e in
    rw earlier refl

-- the part of a list of positions from a position on
unfoldable pub from_on : List ℕ → ℕ → List ℕ
from_on [] k = []
from_on (j ∷ js) k = pick (eqb j k) (j ∷ js) (from_on js k)

on_here : (k : ℕ) (js : List ℕ) → from_on (k ∷ js) k ≡ k ∷ js
unfolding from_on
on_here k js = rw (eq-eqb k k refl)

on_there : (j k : ℕ) (js : List ℕ) → j ≢ k → from_on (j ∷ js) k ≡ from_on js k
unfolding from_on
on_there j k js n = rw (ne_eqb j k n)

module _ (launch : ℕ) (t : Table) where
  -- from a position on stand it and those before it, and no others
  on-members : (js : List ℕ) → Sorted (kind_before t) js → (k j : ℕ) → Any (λ i. i ≡ j) (from_on js k) → Any (λ i. i ≡ j) js × (up_to t j k ≡ true)
  unfolding from_on up_to
  on-members [] s k j m = absurd m
  on-members (i ∷ js) s k j m =
      elim (ℕ_discrete i k) [
        | yes e ↦
            let m₂ : Any (λ i. i ≡ j) (i ∷ js) = rw (eq-eqb i k e) at m in
            (m₂, whole e m₂)
        | no n ↦
            let r = on-members js s.1 k j (rw (ne_eqb i k n) at m) in
            (inr r.0, r.1)
      ]
    where
      whole : i ≡ k → Any (λ x. x ≡ j) (i ∷ js) → up_to t j k ≡ true
      whole e (inl q) = or_first (eqb j k) (kind_before t j k) (eq-eqb j k (sym q ∙ e))
      whole e (inr q) =
          let l : kind_before t j i ≡ true = (all_members (λ x. kind_before t x i ≡ true) js).0 s.0 j q in
          let l₂ : kind_before t j k ≡ true = rw e at l in
          cases (eqb j k) (λ f. or_first (eqb j k) (kind_before t j k) f) (λ f. or_second (eqb j k) (kind_before t j k) f ∙ l₂)

  members-on : (js : List ℕ) → Sorted (kind_before t) js → (k j : ℕ) → Any (λ i. i ≡ k) js → Any (λ i. i ≡ j) js → up_to t j k ≡ true
      → Any (λ i. i ≡ j) (from_on js k)
  unfolding up_to
  members-on [] s k j x4 m u = absurd x4
  members-on (i ∷ js) s k j (inl e) m u = rw (← e) (rw (on_here i js) m)
  members-on (i ∷ js) s k j (inr n) (inr m) u = rw (on_there i k js (sorted_other t i k js s n)) (members-on js s.1 k j n m u)
  members-on (i ∷ js) s k j (inr n) (inl e) u =
      let l : kind_before t k i ≡ true = (all_members (λ x. kind_before t x i ≡ true) js).0 s.0 k n in
      let l₂ : kind_before t k j ≡ true = rw e at l in
      absurd
      (cases (eqb j k)
      (λ f. let q : kind_before t k k ≡ true = rw (eqb-true j k f) at l₂ in both_absurd (kind_before t k k) q (kind_once t k k q))
      (λ f. both_absurd (kind_before t j k) (sym (or_second (eqb j k) (kind_before t j k) f) ∙ u) (kind_once t k j l₂)))

  -- the jobs of positions, and those of the positions below n that pass a test
  jobs-of : (P : Job → Type 0) (js : List ℕ) (k : ℕ) → Any (λ i. i ≡ k) js → P (job_at launch t k) → Any P (map (job_at launch t) js)
  jobs-of P [] k x'' p = absurd x''
  jobs-of P (i ∷ js) k (inl e) p = inl (rw e p)
  jobs-of P (i ∷ js) k (inr m) p = inr (jobs-of P js k m p)

  of-jobs : (P : Job → Type 0) (js : List ℕ) → Any P (map (job_at launch t) js) → (k : ℕ) × Any (λ i. i ≡ k) js × P (job_at launch t k)
  of-jobs P [] x' = absurd x'
  of-jobs P (i ∷ js) (inl p) = (i, inl refl, p)
  of-jobs P (i ∷ js) (inr m) = let r = of-jobs P js m in (r.0, inr r.1, r.2)

  that-of : (P : Job → Type 0) (test : ℕ → Bool) (n k : ℕ) → k < n → test k ≡ true → P (job_at launch t k) → Any P (jobs_that launch t test n)
  unfolding jobs_that
  that-of P test zero k l e p = absurd (omega arith)
  that-of P test (suc n) k l e p =
      elim (ℕ_discrete k n) [
        | yes q ↦ rw (rw q at e) (inl (rw (← q) p))
        | no q ↦
            let r = that-of P test n k (omega arith) e p in
            cases (test n) (λ f. rw f (inr r)) (λ f. rw f r)
      ]

  of-that : (P : Job → Type 0) (test : ℕ → Bool) (n : ℕ) → Any P (jobs_that launch t test n) → (k : ℕ) × (k < n) × (test k ≡ true) × P (job_at launch t k)
  unfolding jobs_that
  of-that P test zero m = absurd m
  of-that P test (suc n) m =
      cases (test n)
      (λ f. let m₂ : Any P (job_at launch t n ∷ jobs_that launch t test n) = rw f at m in here f m₂ (λ q. of-that P test n q))
      (λ f. let r = of-that P test n (rw f at m) in (r.0, omega (arith, r.1), r.2, r.3))
    where
      here : test n ≡ true → Any P (job_at launch t n ∷ jobs_that launch t test n)
          → (Any P (jobs_that launch t test n) → (k : ℕ) × (k < n) × (test k ≡ true) × P (job_at launch t k))
          → (k : ℕ) × (k < suc n) × (test k ≡ true) × P (job_at launch t k)
      here f (inl p) g = (n, omega arith, f, p)
      here f (inr q) g = let r = g q in (r.0, omega (arith, r.1), r.2, r.3)

  -- A running of the task at k and all before it, in an order of all positions below n, is one of the jobs from k on.
  running-on : (n : ℕ) (js : List ℕ) → Sorted (kind_before t) js → All (λ j. j < n) js → ((j : ℕ) → j < n → Any (λ i. i ≡ j) js) → (k : ℕ) → k < n
      → (owner : Owner) → Running (jobs_that launch t (λ j. up_to t j k) n) owner ↔ Running (map (job_at launch t) (from_on js k)) owner
  running-on n js s b all k l owner =
      running_same Whole (jobs_that launch t (λ j. up_to t j k) n) (map (job_at launch t) (from_on js k)) owner
      (λ job m.
      let r = of-that (λ other. other ≡ job) (λ j. up_to t j k) n m in
      jobs-of (λ other. other ≡ job) (from_on js k) r.0 (members-on js s k r.0 (all k l) (all r.0 r.1) r.2) r.3)
      (λ job m.
      let r = of-jobs (λ other. other ≡ job) (from_on js k) m in
      let q = on-members js s k r.0 r.1 in
      that-of (λ other. other ≡ job) (λ j. up_to t j k) n r.0 ((all_members (λ j. j < n) js).0 b r.0 q.0) q.1 r.2)

  -- A search for the first unmet task, over a test of the mandatory parts of jobs.
  module _ (nested : Bool) where
    -- what fits, fits from each position on
    fit_on : (js : List ℕ) → fit nested (map (job_at launch t) js) ≡ true → (k : ℕ) → Any (λ i. i ≡ k) js → fit nested (map (job_at launch t) (from_on js k)) ≡ true
    unfolding from_on
    fit_on [] e k m = absurd m
    fit_on (i ∷ js) e k m =
        elim (ℕ_discrete i k) [
          | yes q ↦ rw (eq-eqb i k q) e
          | no q ↦ rw (ne_eqb i k q) (fit_on js (fit_tail nested (job_at launch t i) (map (job_at launch t) js) e) k (rest q m))
        ]
      where
        rest : i ≢ k → Any (λ x. x ≡ k) (i ∷ js) → Any (λ x. x ≡ k) js
        rest q (inl e) = absurd (q e)
        rest q (inr m) = m

    -- the jobs of positions below n
    positions-below : (n : ℕ) (js : List ℕ) → All (λ j. j < n) js → All (λ job. job.position < n) (map (job_at launch t) js)
    positions-below n [] b = tt
    positions-below n (j ∷ js) b = (rw (job_position launch t j) b.0, positions-below n js b.1)

    -- the task at a place is the first among some where the mandatory parts of it and those before it do not fit
    pub record UnmetIn (js : List ℕ) (place : ℕ) : Type 0 where
      pub among : Any (λ i. i ≡ place) js
      pub unfit : fit nested (map (job_at launch t) (from_on js place)) ≡ false
      pub first : All (λ k. kind_before t k place ≡ true → fit nested (map (job_at launch t) (from_on js k)) ≡ true) js

    -- where something is found, they do not fit
    found-unfit : (n : ℕ) (jobs : List Job) → All (λ job. job.position < n) jobs → (place : ℕ) → unmet_by nested n jobs ≡ place → place < n
        → fit nested jobs ≡ false
    found-unfit n jobs b place e l =
        turned (fit nested jobs) (sym (unmet_test nested n jobs b) ∙ lt-ltb (unmet_by nested n jobs) n (rw e l))
      where
        turned : (x : Bool) → not x ≡ true → x ≡ false
        turned true h = sym h
        turned false h = refl

    -- what is found is it
    unmet-in : (n : ℕ) (js : List ℕ) → Sorted (kind_before t) js → All (λ j. j < n) js → (place : ℕ)
        → unmet_by nested n (map (job_at launch t) js) ≡ place → place < n → UnmetIn js place
    unmet-in n [] s b place e l = both_absurd (fit nested []) (fit_empty nested) (found-unfit n [] tt place e l)
    unmet-in n (k ∷ js) s b place e l =
        let below = positions-below n (k ∷ js) b in
        cases (fit nested (map (job_at launch t) js))
        (λ f.
        let bad : fit nested (map (job_at launch t) (k ∷ js)) ≡ false = found-unfit n (map (job_at launch t) (k ∷ js)) below place e l in
        let is : k ≡ place = sym (unmet_here nested n (job_at launch t k) (map (job_at launch t) js) below f bad ∙ job_position launch t k) ∙ e in
        rw (← is)
        (record {
          among = inl refl;
          unfit = rw (on_here k js) bad;
          first = (
            λ q. both_absurd (kind_before t k k) q (kind_once t k k q),
            (all_members (λ i. kind_before t i k ≡ true → fit nested (map (job_at launch t) (from_on (k ∷ js) i)) ≡ true) js).1
                (λ i m q. rw (on_there k i js (sorted_other t k i js s m)) (fit_on js f i m)),
          );
        }))
        (λ f.
        let r = unmet-in n js s.1 b.1 place (sym (unmet_there nested n (job_at launch t k) (map (job_at launch t) js) below f) ∙ e) l in
        let apart = sorted_other t k place js s r.among in
        let l₂ : kind_before t place k ≡ true = (all_members (λ x. kind_before t x k ≡ true) js).0 s.0 place r.among in
        let short = (all_members (λ i. kind_before t i place ≡ true → fit nested (map (job_at launch t) (from_on js i)) ≡ true) js).0 r.first in
        record {
          among = inr r.among;
          unfit = rw (on_there k place js apart) r.unfit;
          first = (
            λ q. both_absurd (kind_before t k place) q (kind_once t place k l₂),
            (all_members (λ i. kind_before t i place ≡ true → fit nested (map (job_at launch t) (from_on (k ∷ js) i)) ≡ true) js).1
                (λ i m q. rw (on_there k i js (sorted_other t k i js s m)) (short i m q)),
          );
        })

    -- from each position on they are of the kind
    kind-on : (js : List ℕ) → JobsOfKind nested (map (job_at launch t) js) → (k : ℕ) → Any (λ i. i ≡ k) js → JobsOfKind nested (map (job_at launch t) (from_on js k))
    unfolding from_on
    kind-on [] c k m = absurd m
    kind-on (i ∷ js) c k m =
        elim (ℕ_discrete i k) [
          | yes q ↦ rw (eq-eqb i k q) c
          | no q ↦ rw (ne_eqb i k q) (kind-on js (kind_rest nested (job_at launch t i) (map (job_at launch t) js) c) k (later q m))
        ]
      where
        later : i ≢ k → Any (λ x. x ≡ k) (i ∷ js) → Any (λ x. x ≡ k) js
        later q (inl e) = absurd (q e)
        later q (inr m) = m

    module _ (n : ℕ) (js : List ℕ) (s : Sorted (kind_before t) js) (b : All (λ j. j < n) js) (all : (j : ℕ) → j < n → Any (λ i. i ≡ j) js)
        (c : JobsOfKind nested (map (job_at launch t) js)) where
      -- The place that is found: no running of the task there and all before it,
      pub found-unmet : (place : ℕ) → unmet_by nested n (map (job_at launch t) js) ≡ place → place < n → (owner : Owner)
          → Running (jobs_that launch t (λ j. up_to t j place) n) owner → ⊥
      found-unmet place e l owner r =
          let u = unmet-in n js s b place e l in
          both_absurd (fit nested (map (job_at launch t) (from_on js place)))
          ((exists_by nested (map (job_at launch t) (from_on js place)) (kind-on js c place u.among)).0 (owner, (running-on n js s b all place l owner).0 r))
          u.unfit

      -- and one for each task before it.
      pub found_first_lem : (place : ℕ) → unmet_by nested n (map (job_at launch t) js) ≡ place → place < n → (k : ℕ) → k < n → kind_before t k place ≡ true
          → (owner : Owner) × Running (jobs_that launch t (λ j. up_to t j k) n) owner
      found_first_lem place e l k m q =
          let u = unmet-in n js s b place e l in
          let f = (all_members (λ i. kind_before t i place ≡ true → fit nested (map (job_at launch t) (from_on js i)) ≡ true) js).0 u.first k (all k m) q in
          let r = (exists_by nested (map (job_at launch t) (from_on js k)) (kind-on js c k (all k m))).1 f in
          (r.0, (running-on n js s b all k m r.0).1 r.1)

-- The search in an accepted table finds a place exactly where it is that of the first unmet task.
module _ (launch : ℕ) (t : Table) (legal : Legal t) where
  unmet-found : unmet_place launch t < t.count → FirstUnmet launch t (unmet_place launch t)
  unfolding unmet_place jobs_up_to jobs_last_first
  unmet-found l =
      let order = order_last_first t in
      let below = (all_members (λ j. j < t.count) order).1 (order_among t) in
      let kind = kind_jobs launch t legal in
      record {
        known = l;
        unmet = found-unmet launch t (is_nested t) t.count order (kind_falls t) below (among_order t) kind (unmet_place launch t) refl l;
        first = found_first_lem launch t (is_nested t) t.count order (kind_falls t) below (among_order t) kind (unmet_place launch t) refl l;
      }

  -- there is one at most
  unmet-one : (a b : ℕ) → FirstUnmet launch t a → FirstUnmet launch t b → a ≡ b
  unmet-one a b p q =
      elim (ℕ_discrete a b) [
        | yes e ↦ e
        | no n ↦
            absurd
            (cases (kind_before t a b)
            (λ e. let r = q.first a p.known e in p.unmet r.0 r.1)
            (λ e. let r = p.first b q.known (kind_total t a b n e) in q.unmet r.0 r.1))
      ]

  -- where all mandatory parts fit, those up to each task do
  all-met : ltb (unmet_place launch t) t.count ≡ false → (place : ℕ) → place < t.count → (owner : Owner) × Running (jobs_up_to launch t place) owner
  unfolding jobs_up_to jobs_last_first mandatory_fit
  all-met e place l =
      let order = order_last_first t in
      let below = (all_members (λ j. j < t.count) order).1 (order_among t) in
      let fits = fit_on launch t (is_nested t) order (none_unmet launch t e) place (among_order t place l) in
      let r = (exists_by (is_nested t) (map (job_at launch t) (from_on order place)) (kind-on launch t (is_nested t) order (kind_jobs launch t legal) place (among_order t place l))).1 fits in
      (r.0, (running-on launch t t.count order (kind_falls t) below (among_order t) place l r.0).1 r.1)

  pub unmet_first : (place : ℕ) → ((unmet_place launch t ≡ place) × (place < t.count)) ↔ FirstUnmet launch t place
  unmet_first place = (
    λ h. rw h.0 at (unmet-found (rw h.0 h.1)),
    λ f.
        cases (ltb (unmet_place launch t) t.count)
        (λ e. (unmet-one (unmet_place launch t) place (unmet-found (ltb-true (unmet_place launch t) t.count e)) f, f.known))
        (λ e. let r = all-met e place f.known in absurd (f.unmet r.0 r.1)),
  )

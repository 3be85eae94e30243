-- The rules of choosing, on marks by position: the planner's list follows them, and no other list does.
use Prim.Native.Nat.{ℕ, ◌<◌}
use mathlib.Core.Path.{◌≡◌, refl, sym, ap, ◌∙◌}
use mathlib.Core.Logic.{◌⊎◌, ◌≢◌, inl, inr}
use mathlib.Core.Bool.{Bool, true, false}
use mathlib.Core.List.{List, [], ◌∷◌, ◌++◌, map}
use native.Mathlib.Omega.{arith}
use lib.Dec.{eqb}
use lib.ListN.{length, get_or}
use borrow.Author.Tests.{eqb-true, eq-eqb}
use Rattle.base.specs.Members.{All, Any}
use Rattle.base.proofs.TestLaws.{cases, both_absurd}
use Rattle.base.proofs.MemberLaws.{all_map, all_members}
use Rattle.table.specs.declared.Table.{Table}
use Rattle.table.specs.Tables.{task_at}
use Rattle.table.specs.Kinds.{is_nested}
use Rattle.schedule.specs.Jobs.{job_of, job_at}
use Rattle.schedule.specs.Judging.{marked_weight}
use Rattle.choice.specs.Choice.{kept_ticks, discarded_worth, weighed}
use Rattle.choice.specs.KeepLists.{KeepsFirst, ZeroKept}
use Rattle.choice.proofs.TieLaws.{first_cons}
use Rattle.orders.specs.KindOrder.{kind_before, order_last_first, jobs_last_first}
use Rattle.orders.proofs.SortLaws.{Sorted}
use Rattle.orders.proofs.OrderLaws.{jobs_length}
use Rattle.orders.proofs.BeforeLaws.{kind_once, kind_falls, all_order, order_all, among_order, order_among}
use Rattle.plans.specs.Planning.{chosen_by, marks_by, plan_marks}
use Rattle.plans.specs.PlanParts.{fits_by, chosen_marks, mandatory_fit}
use Rattle.plans.specs.Rules.{KeepList, Fitting, kept_ticks_of, ByRules}
use Rattle.plans.proofs.JobPlans.{length_by, none_by, zero_by, MeetsBy, chosen_meets_by, meets_chosen_by}
use Rattle.plans.proofs.FittingLaws.{keep_at, keeps_of, marks_of, same_mark, marks_one, marks_list, keeps_back}
use Rattle.plans.proofs.FittingLaws.{keeps-fitting, keeps-ticks, keeps-discarded, fitting_exactly}

-- The last rule, on two keep lists of positions that stand last first.
module _ (t : Table) (f g : ℕ → Bool) where
  -- the lists are equal, or the first keeps at the last task where they differ
  abbrev EqualOrFirst : List ℕ → Type 0
  EqualOrFirst js = (map g js ≡ map f js) ⊎ KeepsFirst (map f js) (map g js)

  -- the first keeps at each position where they differ and after which they agree
  abbrev KeepsThere : List ℕ → Type 0
  KeepsThere js = (k : ℕ) → Any (λ j. j ≡ k) js → f k ≢ g k → All (λ j. kind_before t k j ≡ true → f j ≡ g j) js → f k ≡ true

  -- lists that agree up to a task that the first keeps and the second discards
  first-there : (same rest_a rest_b : List Bool) (js : List ℕ) → Sorted (kind_before t) js → map f js ≡ same ++ true ∷ rest_a → map g js ≡ same ++ false ∷ rest_b
      → KeepsThere js
  first-there same rest_a rest_b [] s p q k m d a = absurd m
  first-there [] rest_a rest_b (j ∷ js) s p q k (inl e) d a =
      let kept : f j ≡ true = cc in
      rw e at kept
  first-there [] rest_a rest_b (j ∷ js) s p q k (inr m) d a =
      let agree : f j ≡ g j = a.0 ((all_members (λ i. kind_before t i j ≡ true) js).0 s.0 k m) in
      let kept : f j ≡ true = cc in
      let lost : g j ≡ false = cc in
      both_absurd (g j) (sym agree ∙ kept) lost
  first-there (x ∷ same) rest_a rest_b (j ∷ js) s p q k (inl e) d a =
      let agree : f j ≡ g j = cc in
      absurd (d (rw e at agree))
  first-there (x ∷ same) rest_a rest_b (j ∷ js) s p q k (inr m) d a = first-there same rest_a rest_b js s.1 (cc) (cc) k m d a.1

  -- equal lists differ nowhere
  equal-there : (js : List ℕ) → map g js ≡ map f js → KeepsThere js
  equal-there [] e k x4 d a = absurd x4
  equal-there (j ∷ js) e k (inl q) d a = let agree : f j ≡ g j = cc in absurd (d (rw q at agree))
  equal-there (j ∷ js) e k (inr m) d a = equal-there js (cc) k m d a.1

  -- From either statement the other.
  first-by-position : (js : List ℕ) → Sorted (kind_before t) js → EqualOrFirst js → KeepsThere js
  first-by-position js s (inl e) = equal-there js e
  first-by-position js s (inr h) = first-there h.same h.rest_a h.rest_b js s h.keeps h.discards

  there-first : (js : List ℕ) → Sorted (kind_before t) js → KeepsThere js → EqualOrFirst js
  there-first [] s h = inl refl
  there-first (j ∷ js) s h =
      let agreeing : f j ≡ g j → EqualOrFirst (j ∷ js) =
      λ e. rw (← e) (first_cons (f j) (map f js) (map g js) (there-first js s.1 (λ k m d a. h k (inr m) d (λ l. e, a)))) in
      let differing : f j ≢ g j → f j ≡ true =
      λ d. h j (inl refl) d (
        λ l. both_absurd (kind_before t j j) l (kind_once t j j l),
        all_map (λ i. kind_before t i j ≡ true) (λ i. kind_before t j i ≡ true → f i ≡ g i) js
            (λ i l m. both_absurd (kind_before t j i) m (kind_once t i j l)) s.0,
      ) in
      cases (f j)
      (λ p.
      cases (g j)
      (λ q. agreeing (p ∙ sym q))
      (λ q.
      inr
      (record {
        same = [];
        rest_a = map f js;
        rest_b = map g js;
        keeps = ap (λ (x : Bool). x ∷ map f js) p;
        discards = ap (λ (x : Bool). x ∷ map g js) q;
      })))
      (λ p.
      cases (g j)
      (λ q. both_absurd (f j) (differing (λ e. both_absurd (g j) q (sym e ∙ p))) p)
      (λ q. agreeing (p ∙ sym q)))

module _ (launch : ℕ) (weight : ℕ → ℕ) (t : Table) where
  -- a keep list that keeps each part of no length, by its marks
  zero-marks : (marks js : List ℕ) → ZeroKept (map (job_at launch t) js) (map (keep_at marks) js)
      → All (λ k. (job_at launch t k).optional ≡ 0 → get_or marks k 0 ≡ 1) js
  zero-marks marks [] z = tt
  zero-marks marks (j ∷ js) z = (λ e. eqb-true (get_or marks j 0) 1 (z.0 e), zero-marks marks js z.1)

  zero-by-position : (marks : List ℕ) → ZeroKept (jobs_last_first launch t) (keeps_of t marks)
      → (k : ℕ) → k < t.count → (task_at t k).optional ≡ 0 → get_or marks k 0 ≡ 1
  unfolding jobs_last_first job_at job_of
  zero-by-position marks z = order_all t (λ k. (task_at t k).optional ≡ 0 → get_or marks k 0 ≡ 1) (zero-marks marks (order_last_first t) z)

  -- A list whose keep list meets the rules follows them by position,
  meets-by-rules : (marks : List ℕ) → KeepList t marks → MeetsBy (is_nested t) weight (jobs_last_first launch t) (keeps_of t marks)
      → ZeroKept (jobs_last_first launch t) (keeps_of t marks) → ByRules launch weight t marks
  meets-by-rules marks p m z =
      let mine : discarded_worth (weighed weight) (jobs_last_first launch t) (keeps_of t marks) ≡ marked_weight 0 weight t marks = keeps-discarded launch t marks p weight in
      let ticks : kept_ticks (jobs_last_first launch t) (keeps_of t marks) ≡ kept_ticks_of t marks = keeps-ticks launch t marks p in
      record {
        fit = (keeps-fitting launch t marks p).0 m.fit;
        fewest = λ other f.
            omega (arith, keeps-discarded launch t other f.list weight, m.least_discarded (keeps_of t other) ((keeps-fitting launch t other f.list).1 f));
        least = λ n other f d.
            omega (
              arith,
              keeps-ticks launch t other f.list,
              m.least_ticks n (keeps_of t other) ((keeps-fitting launch t other f.list).1 f) (keeps-discarded launch t other f.list weight ∙ (d ∙ sym mine)),
            );
        last = λ other f d e k o.
            let first =
            m.last (keeps_of t other) ((keeps-fitting launch t other f.list).1 f) (keeps-discarded launch t other f.list weight ∙ (d ∙ sym mine))
            (λ n. keeps-ticks launch t other f.list ∙ (e n ∙ sym ticks)) in
            eqb-true (get_or marks k 0) 1
            (first-by-position t (keep_at marks) (keep_at other) (order_last_first t) (kind_falls t) first k (among_order t k o.known)
            (λ q. o.differ (same_mark (get_or marks k 0) (get_or other k 0) (p.low k o.known) (f.list.low k o.known) q))
            (all_order t (λ j. kind_before t k j ≡ true → keep_at marks j ≡ keep_at other j) (λ j l b. ap (λ (mark : ℕ). eqb mark 1) (o.later j l b))));
        no_length = zero-by-position marks z;
      }

  -- a keep list that fits, by its marks
  module _ (other : List Bool) (e : fits_by (is_nested t) (jobs_last_first launch t) other ≡ true) where
    other_length : length other ≡ t.count
    other_length = length_by (is_nested t) (jobs_last_first launch t) other e ∙ jobs_length launch t

    other-fitting : Fitting launch t (marks_of launch t other)
    other-fitting = (fitting_exactly launch t other other_length).0 e

    other-discarded : discarded_worth (weighed weight) (jobs_last_first launch t) other ≡ marked_weight 0 weight t (marks_of launch t other)
    other-discarded = rw (keeps_back launch t other other_length) at (keeps-discarded launch t (marks_of launch t other) (marks_list launch t other) weight)

    other-ticks : kept_ticks (jobs_last_first launch t) other ≡ kept_ticks_of t (marks_of launch t other)
    other-ticks = rw (keeps_back launch t other other_length) at (keeps-ticks launch t (marks_of launch t other) (marks_list launch t other))

  -- and one that follows them by position has a keep list that meets them.
  rules-meet : (marks : List ℕ) → ByRules launch weight t marks → MeetsBy (is_nested t) weight (jobs_last_first launch t) (keeps_of t marks)
  rules-meet marks r =
      let order = order_last_first t in
      let p : KeepList t marks = r.fit.list in
      let mine : discarded_worth (weighed weight) (jobs_last_first launch t) (keeps_of t marks) ≡ marked_weight 0 weight t marks = keeps-discarded launch t marks p weight in
      let ticks : kept_ticks (jobs_last_first launch t) (keeps_of t marks) ≡ kept_ticks_of t marks = keeps-ticks launch t marks p in
      record {
        fit = (keeps-fitting launch t marks p).1 r.fit;
        least_discarded = λ other e. omega (arith, other-discarded other e, r.fewest (marks_of launch t other) (other-fitting other e));
        least_ticks = λ n other e d.
            omega (arith, other-ticks other e, r.least n (marks_of launch t other) (other-fitting other e) (sym (other-discarded other e) ∙ (d ∙ mine)));
        last = λ other e d q.
            let f : Fitting launch t (marks_of launch t other) = other-fitting other e in
            let low : (k : ℕ) → k < t.count → keep_at marks k ≡ keep_at (marks_of launch t other) k → get_or marks k 0 ≡ get_or (marks_of launch t other) k 0 =
            λ k l z. same_mark (get_or marks k 0) (get_or (marks_of launch t other) k 0) (p.low k l) (f.list.low k l) z in
            rw (keeps_back launch t other (other_length other e)) at
            (there-first t (keep_at marks) (keep_at (marks_of launch t other)) order (kind_falls t)
            (λ k m n a.
            eq-eqb (get_or marks k 0) 1
            (r.last (marks_of launch t other) f (sym (other-discarded other e) ∙ (d ∙ mine)) (λ z. sym (other-ticks other e) ∙ (q z ∙ ticks)) k
            (record {
              known = order_among t k m;
              differ = λ z. n (ap (λ (mark : ℕ). eqb mark 1) z);
              later = λ j l b. low j l (order_all t (λ i. kind_before t k i ≡ true → keep_at marks i ≡ keep_at (marks_of launch t other) i) a j l b);
            }))));
      }

  -- The rules settle the list.
  pub rules_one : (a b : List ℕ) → ByRules launch weight t a → ByRules launch weight t b → a ≡ b
  rules_one a b p q =
      marks_one launch t a b p.fit.list q.fit.list
      (meets_chosen_by (is_nested t) weight (jobs_last_first launch t) (keeps_of t a) (rules-meet a p)
      ∙ sym (meets_chosen_by (is_nested t) weight (jobs_last_first launch t) (keeps_of t b) (rules-meet b q)))

  -- Where the mandatory parts alone fit, the planner's marks follow the rules.
  pub plan_by_rules : mandatory_fit launch t ≡ true → ByRules launch weight t (plan_marks launch weight t)
  unfolding plan_marks marks_by chosen_marks mandatory_fit
  plan_by_rules none =
      let jobs = jobs_last_first launch t in
      let keeps = chosen_by (is_nested t) weight jobs in
      let meets = chosen_meets_by (is_nested t) weight jobs none in
      let back : keeps_of t (marks_of launch t keeps) ≡ keeps = keeps_back launch t keeps (length_by (is_nested t) jobs keeps meets.fit ∙ jobs_length launch t) in
      meets-by-rules (marks_of launch t keeps) (marks_list launch t keeps) (rw back meets) (rw back (zero_by (is_nested t) weight jobs none))

  -- Where some list follows them, the mandatory parts alone fit,
  pub rules_fit : (marks : List ℕ) → ByRules launch weight t marks → mandatory_fit launch t ≡ true
  unfolding mandatory_fit
  rules_fit marks r = none_by (is_nested t) (jobs_last_first launch t) (keeps_of t marks) ((keeps-fitting launch t marks r.fit.list).1 r.fit)

  -- and the list is the planner's.
  pub rules_plan : (marks : List ℕ) → ByRules launch weight t marks → marks ≡ plan_marks launch weight t
  rules_plan marks r = rules_one marks (plan_marks launch weight t) r (plan_by_rules (rules_fit marks r))

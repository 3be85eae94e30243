-- Marks by position and keep lists last first: each is the other's in one way, and they fit, discard and keep the same.
use Prim.Native.Nat.{ℕ, ◌+◌, ◌≤◌, ◌<◌}
use mathlib.Core.Path.{◌≡◌, refl, sym, ap, ap₂, ◌∙◌}
use mathlib.Core.Logic.{◌↔◌}
use mathlib.Core.Bool.{Bool, true, false, not}
use mathlib.Core.List.{List, [], ◌∷◌, map}
use native.Mathlib.Omega.{arith}
use native.Mathlib.Decide.{dec_le}
use lib.Dec.{eqb}
use lib.ListN.{length, get_or, length-map}
use lib.Seq.{ext_get_or}
use borrow.Author.Tests.{eqb-true, eqb-false}
use Rattle.base.specs.Tests.{pick, and}
use Rattle.base.specs.Members.{All}
use Rattle.base.specs.Places.{places}
use Rattle.base.proofs.TestLaws.{cases}
use Rattle.base.proofs.PlaceLaws.{places_length, places_at}
use Rattle.table.specs.declared.Table.{Table}
use Rattle.table.specs.Kinds.{is_nested}
use Rattle.schedule.specs.Jobs.{job_of, job_at, work_of, counts}
use Rattle.schedule.specs.Ticks.{one_if}
use Rattle.schedule.specs.Judging.{marked_weight}
use Rattle.schedule.proofs.JudgeLaws.{job_position}
use Rattle.choice.specs.Choice.{works_of, kept_worth, kept_ticks, discarded_worth, weighed}
use Rattle.choice.proofs.FitLaws.{discarded_cons}
use Rattle.placement.proofs.PlanLaws.{SameMarks}
use Rattle.orders.specs.KindOrder.{kind_before, order_last_first, jobs_last_first}
use Rattle.orders.proofs.SortLaws.{order_length, sum_over, sum_order}
use Rattle.orders.proofs.OrderLaws.{jobs_length, jobs_distinct}
use Rattle.orders.proofs.BeforeLaws.{all_order, order_all}
use Rattle.plans.specs.Planning.{mark_at}
use Rattle.plans.specs.PlanParts.{fits_by}
use Rattle.plans.specs.Rules.{KeepList, WorksFitBy, Fitting, kept_ticks_of}
use Rattle.plans.proofs.MarkLaws.{mark_low, marks_same}
use Rattle.plans.proofs.PlanLaws.{jobs_below}
use Rattle.plans.proofs.UpToLaws.{works_within}
use Rattle.plans.proofs.InTimeLaws.{fits_in_time}

-- the task at a position is kept
abbrev pub keep_at : List ℕ → ℕ → Bool
keep_at marks k = eqb (get_or marks k 0) 1

-- the keep list of marks by position
abbrev pub keeps_of : Table → List ℕ → List Bool
keeps_of t marks = map (keep_at marks) (order_last_first t)

-- the marks by position of a keep list
abbrev pub marks_of : ℕ → Table → List Bool → List ℕ
marks_of launch t keeps = places (mark_at (jobs_last_first launch t) keeps) t.count

-- a mark of 0 or 1 is not 1 exactly where it is 0
low_mark : (mark : ℕ) → mark ≤ 1 → not (eqb mark 1) ≡ eqb mark 0
low_mark mark l =
    elim (dec_le 1 mark) [
      | yes h ↦ let e : mark ≡ 1 = omega arith in rw e
      | no h ↦ let e : mark ≡ 0 = omega arith in rw e
    ]

-- and is settled by whether it is 1
pub same_mark : (a b : ℕ) → a ≤ 1 → b ≤ 1 → eqb a 1 ≡ eqb b 1 → a ≡ b
same_mark a b l m e =
    cases (eqb a 1)
    (λ f. eqb-true a 1 f ∙ sym (eqb-true b 1 (sym e ∙ f)))
    (λ f. let x = eqb-false a 1 f in let y = eqb-false b 1 (sym e ∙ f) in omega arith)

-- equal keep lists have equal marks
map_all : (f g : ℕ → Bool) (js : List ℕ) → map f js ≡ map g js → All (λ j. f j ≡ g j) js
map_all f g [] e = tt
map_all f g (j ∷ js) e = ((cc), map_all f g js (cc))

module _ (launch : ℕ) (t : Table) where
  -- Marks by position are settled by their keep list.
  pub marks_one : (a b : List ℕ) → KeepList t a → KeepList t b → keeps_of t a ≡ keeps_of t b → a ≡ b
  marks_one a b p q e =
      let same = order_all t (λ k. keep_at a k ≡ keep_at b k) (map_all (keep_at a) (keep_at b) (order_last_first t) e) in
      ext_get_or 0 a b (p.size ∙ sym q.size)
      (λ k l. let m : k < t.count = omega (arith, p.size) in same_mark (get_or a k 0) (get_or b k 0) (p.low k m) (q.low k m) (same k m))

  -- The marks by position of a keep list are one of 0 or 1 a task,
  pub marks_list : (keeps : List Bool) → KeepList t (marks_of launch t keeps)
  marks_list keeps =
      record {
        size = places_length (mark_at (jobs_last_first launch t) keeps) t.count;
        low = λ k l. rw (places_at (mark_at (jobs_last_first launch t) keeps) t.count k 0 l) (omega (arith, mark_low (jobs_last_first launch t) keeps k));
      }

  -- marks that say what a keep list says have it for their keep list
  kept_same : (marks js : List ℕ) (keeps : List Bool) → SameMarks (map (job_at launch t) js) keeps marks → map (keep_at marks) js ≡ keeps
  kept_same marks [] [] s = refl
  kept_same marks [] (keep ∷ keeps) s = absurd s
  kept_same marks (j ∷ js) [] s = absurd s
  kept_same marks (j ∷ js) (keep ∷ keeps) s =
      let mark : get_or marks j 0 ≡ one_if keep = rw (job_position launch t j) at s.0 in
      ap₂ (λ (x : Bool) (xs : List Bool). x ∷ xs) (ap (λ (m : ℕ). eqb m 1) mark ∙ back keep) (kept_same marks js keeps s.1)
    where
      back : (keep : Bool) → eqb (one_if keep) 1 ≡ keep
      back true = refl
      back false = refl

  -- and their keep list is that list.
  pub keeps_back : (keeps : List Bool) → length keeps ≡ t.count → keeps_of t (marks_of launch t keeps) ≡ keeps
  unfolding jobs_last_first
  keeps_back keeps l =
      kept_same (marks_of launch t keeps) (order_last_first t) keeps
      (marks_same (jobs_last_first launch t) keeps t.count (l ∙ sym (jobs_length launch t)) (jobs_distinct launch t) (jobs_below launch t))

  -- there is one mark a task
  keeps-length : (marks : List ℕ) → length (keeps_of t marks) ≡ t.count
  unfolding order_last_first
  keeps-length marks = length-map (order_last_first t) (keep_at marks) ∙ order_length (kind_before t) t.count

  -- Every list of one mark of 0 or 1 a task is that of a keep list.
  pub marks_back_lem : (marks : List ℕ) → KeepList t marks → marks_of launch t (keeps_of t marks) ≡ marks
  marks_back_lem marks p =
      marks_one (marks_of launch t (keeps_of t marks)) marks (marks_list (keeps_of t marks)) p (keeps_back (keeps_of t marks) (keeps-length marks))

  -- The keep list of marks by position, over some positions: its works, the ticks that it keeps, and the parts that it discards.
  module _ (marks : List ℕ) where
    works-by : (js : List ℕ) → works_of (map (job_at launch t) js) (map (keep_at marks) js) ≡ map (λ j. work_of (job_at launch t j) (get_or marks j 0)) js
    unfolding works_of
    works-by [] = refl
    works-by (j ∷ js) = ap (λ (works : List ℕ). work_of (job_at launch t j) (get_or marks j 0) ∷ works) (works-by js)

    ticks-by : (js : List ℕ) → kept_ticks (map (job_at launch t) js) (map (keep_at marks) js)
        ≡ sum_over (λ k. pick (keep_at marks k) (job_at launch t k).optional 0) js
    unfolding kept_worth
    ticks-by [] = refl
    ticks-by (j ∷ js) = ap (λ (x : ℕ). pick (keep_at marks j) (job_at launch t j).optional 0 + x) (ticks-by js)

    abbrev discarded_at : (ℕ → ℕ) → ℕ → ℕ
    discarded_at weight k = pick (and (counts (job_at launch t k)) (eqb (get_or marks k 0) 0)) (weight (job_at launch t k).position) 0

    discarded-by : (weight : ℕ → ℕ) (js : List ℕ) → All (λ k. get_or marks k 0 ≤ 1) js
        → discarded_worth (weighed weight) (map (job_at launch t) js) (map (keep_at marks) js) ≡ sum_over (discarded_at weight) js
    unfolding discarded_worth
    discarded-by weight [] l = refl
    discarded-by weight (j ∷ js) l =
        discarded_cons weight (job_at launch t j) (map (job_at launch t) js) (keep_at marks j) (map (keep_at marks) js)
        ∙ rw (low_mark (get_or marks j 0) l.0, discarded-by weight js l.1)

    module _ (p : KeepList t marks) where
      -- The keep list fits exactly where the marks do,
      fitting-as : (nested : Bool)
          → (fits_by nested (jobs_last_first launch t) (keeps_of t marks) ≡ true) ↔ WorksFitBy launch nested t (λ j. work_of (job_at launch t j) (get_or marks j 0))
      unfolding fits_by jobs_last_first
      fitting-as true =
          let works = works-by (order_last_first t) in
          let law = works_within launch t (λ j. work_of (job_at launch t j) (get_or marks j 0)) in
          (λ e. law.0 (rw works at e), λ f. rw works (law.1 f))
      fitting-as false = fits_in_time launch t (keep_at marks)

      pub keeps-fitting : (fits_by (is_nested t) (jobs_last_first launch t) (keeps_of t marks) ≡ true) ↔ Fitting launch t marks
      keeps-fitting =
          let law = fitting-as (is_nested t) in
          (λ e. record { list = p; works = law.0 e }, λ f. law.1 f.works)

      -- keeps as many ticks,
      pub keeps-ticks : kept_ticks (jobs_last_first launch t) (keeps_of t marks) ≡ kept_ticks_of t marks
      unfolding jobs_last_first kept_ticks_of order_last_first job_at job_of
      keeps-ticks = ticks-by (order_last_first t) ∙ sum_order (kind_before t) (λ k. pick (keep_at marks k) (job_at launch t k).optional 0) t.count

      -- and discards as much weight.
      pub keeps-discarded : (weight : ℕ → ℕ) → discarded_worth (weighed weight) (jobs_last_first launch t) (keeps_of t marks) ≡ marked_weight 0 weight t marks
      unfolding jobs_last_first marked_weight order_last_first job_at job_of
      keeps-discarded weight =
          discarded-by weight (order_last_first t) (all_order t (λ k. get_or marks k 0 ≤ 1) p.low)
          ∙ sum_order (kind_before t) (discarded_at weight) t.count

  -- A keep list fits exactly where its marks by position do.
  pub fitting_exactly : (keeps : List Bool) → length keeps ≡ t.count
      → (fits_by (is_nested t) (jobs_last_first launch t) keeps ≡ true) ↔ Fitting launch t (places (mark_at (jobs_last_first launch t) keeps) t.count)
  fitting_exactly keeps l =
      let law = keeps-fitting (marks_of launch t keeps) (marks_list keeps) in
      let back = keeps_back keeps l in
      (λ e. law.0 (rw back e), λ f. rw back at (law.1 f))

  -- The marks by position of keep lists are all lists of one mark of 0 or 1 a task.
  pub marks_all : (marks : List ℕ) → KeepList t marks
      → (keeps : List Bool) × (length keeps ≡ t.count) × (marks ≡ places (mark_at (jobs_last_first launch t) keeps) t.count)
  marks_all marks p = (keeps_of t marks, keeps-length marks, sym (marks_back_lem marks p))

-- What the code finds along lists is what the definitions say of their positions.
use Prim.Native.Nat.{ℕ, zero, suc, ◌+◌, ◌≤◌, ◌<◌}
use mathlib.Core.Path.{◌≡◌, refl, sym, ap, subst, ◌∙◌}
use mathlib.Core.List.{List}
use mathlib.Core.Bool.{Bool, true, false}
use native.Mathlib.Omega.{arith}
use native.Mathlib.Numerals.{add-one}
use lib.Dec.{eqb, ltb}
use lib.ListN.{length, get_or, take}
use lib.Seq.{take_all}
use Rattle.std.specs.Prelude.{Some, None, position, count_by}
use borrow.Author.Tests.{ltb-true, ltb-false}
use Rattle.std.specs.List.{zip, list_all, position_or_len}
use Rattle.std.proofs.lemmas.List.Folds.{list_all_more}
use Rattle.std.proofs.lemmas.List.Sums.{count_by_more_yes, count_by_more_no, position_or_len_is}
use Rattle.std.proofs.lemmas.Slice.Zip.{get_or-zip, length-zip}
use Rattle.base.specs.Tests.{and}
use Rattle.base.specs.Lowest.{lowest, every_below}
use Rattle.base.proofs.TestLaws.{cases}
use Rattle.base.proofs.LowestLaws.{before, passes, lowest_bound, every_same}
use Rattle.schedule.specs.declared.Job.{Job}
use Rattle.schedule.specs.Jobs.{work_of, counts}
use Rattle.schedule.specs.JobArrays.{no_job}
use Rattle.schedule.specs.Ticks.{sum_below, count_below}
use Rattle.schedule.specs.Judging.{first_bad_mark}
use Rattle.schedule.proofs.TickLaws.{count_same, count_passed, count_failed}

-- std's position of the first mark above 1 is the lowest such position
bad_is : (marks : List ℕ) → position_or_len (λ mark. ltb 1 mark) marks ≡ first_bad_mark marks (length marks)
unfolding first_bad_mark
bad_is marks =
    let bad : ℕ → Bool = λ k. ltb 1 (get_or marks k 0) in
    position_or_len_is (λ mark. ltb 1 mark) marks (lowest bad (length marks)) 0 (lowest_bound bad (length marks)) (before bad (length marks)) (passes bad (length marks))

-- so the position that is found is it, and where none is found it is the number of marks
pub first_bad : (marks : List ℕ) (i : ℕ) → position (λ mark. ltb 1 mark) marks ≡ Some i → (i < length marks) × (i ≡ first_bad_mark marks (length marks))
first_bad marks i e =
    let at = position_or_len (λ mark. ltb 1 mark) marks in
    cases (ltb at (length marks))
    (λ t.
    let found : Some at ≡ Some i = rw t at e in
    let same : at ≡ i = cc in
    (omega (arith, ltb-true at (length marks) t), sym same ∙ bad_is marks))
    (λ t. let none : None ≡ Some i = rw t at e in let z : ◌≡◌ {A = ℕ} 0 1 = cc in absurd (omega arith))

pub none_bad : (marks : List ℕ) → position (λ mark. ltb 1 mark) marks ≡ None → length marks ≤ first_bad_mark marks (length marks)
none_bad marks e =
    let at = position_or_len (λ mark. ltb 1 mark) marks in
    cases (ltb at (length marks))
    (λ t. let found : Some at ≡ None = rw t at e in let z : ◌≡◌ {A = ℕ} 0 1 = cc in absurd (omega arith))
    (λ t. omega (arith, ltb-false at (length marks) t, bad_is marks))

-- Over the first n elements of a list: how many pass a test, and whether all do.
module _ {X : Type 0} (test : X → Bool) (xs : List X) (default : X) where
  -- one more element
  counted_more : (n : ℕ) → n < length xs → count_by test (take n xs) ≡ count_below (λ k. test (get_or xs k default)) n
      → count_by test (take (n + 1) xs) ≡ count_below (λ k. test (get_or xs k default)) (n + 1)
  counted_more n l h =
      cases (test (get_or xs n default))
      (λ e. count_by_more_yes test xs n default l e ∙ (ap (λ (m : ℕ). m + 1) h ∙ sym (count_passed (λ k. test (get_or xs k default)) n e)))
      (λ e. count_by_more_no test xs n default l e ∙ (h ∙ sym (count_failed (λ k. test (get_or xs k default)) n e)))

  all_more : (n : ℕ) → n < length xs → list_all test (take n xs) ≡ every_below (λ k. test (get_or xs k default)) n
      → list_all test (take (n + 1) xs) ≡ every_below (λ k. test (get_or xs k default)) (suc n)
  unfolding every_below
  all_more n l h =
      list_all_more test xs n default l
      ∙ (turned (list_all test (take n xs)) (test (get_or xs n default)) ∙ ap (and (test (get_or xs n default))) h)
    where
      turned : (a b : Bool) → and a b ≡ and b a
      turned true true = refl
      turned true false = refl
      turned false true = refl
      turned false false = refl

  counted_first : (n : ℕ) → n ≤ length xs → count_by test (take n xs) ≡ count_below (λ k. test (get_or xs k default)) n
  unfolding sum_below
  counted_first zero h = refl
  counted_first (suc n) h =
      subst (λ (m : ℕ). count_by test (take m xs) ≡ count_below (λ k. test (get_or xs k default)) m) (add-one n) (counted_more n (omega arith) (counted_first n (omega arith)))

  all_first : (n : ℕ) → n ≤ length xs → list_all test (take n xs) ≡ every_below (λ k. test (get_or xs k default)) n
  unfolding every_below
  all_first zero h = refl
  all_first (suc n) h =
      subst (λ (m : ℕ). list_all test (take m xs) ≡ every_below (λ k. test (get_or xs k default)) (suc n)) (add-one n) (all_more n (omega arith) (all_first n (omega arith)))

  -- the same of the whole list
  counted_all : (n : ℕ) → n ≡ length xs → count_by test xs ≡ count_below (λ k. test (get_or xs k default)) n
  counted_all n e = ap (count_by test) (sym (take_all n xs (omega arith))) ∙ counted_first n (omega arith)

  all_all : (n : ℕ) → n ≡ length xs → list_all test xs ≡ every_below (λ k. test (get_or xs k default)) n
  all_all n e = ap (list_all test) (sym (take_all n xs (omega arith))) ∙ all_first n (omega arith)

module _ (jobs : List Job) (marks : List ℕ) (long : length marks ≡ length jobs) where
  -- jobs beside their marks
  beside : (k : ℕ) → k < length jobs → get_or (zip jobs marks) k (no_job, 0) ≡ (get_or jobs k no_job, get_or marks k 0)
  beside k l = get_or-zip jobs marks k (no_job, 0) l (omega arith)

  pairs : length jobs ≡ length (zip jobs marks)
  pairs = omega (arith, length-zip jobs marks)

  -- how many of them pass is what the definitions count by position
  pub marked_is : (mark : ℕ) → count_by (λ x. and (counts x.0) (eqb x.1 mark)) (zip jobs marks)
      ≡ count_below (λ k. and (counts (get_or jobs k no_job)) (eqb (get_or marks k 0) mark)) (length jobs)
  marked_is mark =
      let test : Job × ℕ → Bool = λ x. and (counts x.0) (eqb x.1 mark) in
      counted_all test (zip jobs marks) (no_job, 0) (length jobs) pairs
      ∙ count_same (λ k. test (get_or (zip jobs marks) k (no_job, 0))) (λ k. test (get_or jobs k no_job, get_or marks k 0)) (length jobs) (λ k l. ap test (beside k l))

  -- and whether each has its work in its total is what they ask of each position
  pub exact_is : (totals : List ℕ) → length jobs ≤ length totals → list_all (λ x. eqb x.1 (work_of x.0.0 x.0.1)) (zip (zip jobs marks) totals)
      ≡ every_below (λ k. eqb (get_or totals k 0) (work_of (get_or jobs k no_job) (get_or marks k 0))) (length jobs)
  exact_is totals h =
      let test : (Job × ℕ) × ℕ → Bool = λ x. eqb x.1 (work_of x.0.0 x.0.1) in
      all_all test (zip (zip jobs marks) totals) ((no_job, 0), 0) (length jobs) (omega (arith, pairs, length-zip (zip jobs marks) totals))
      ∙ every_same (λ k. test (get_or (zip (zip jobs marks) totals) k ((no_job, 0), 0))) (λ k. test ((get_or jobs k no_job, get_or marks k 0), get_or totals k 0)) (length jobs)
      (λ k l. ap test (get_or-zip (zip jobs marks) totals k ((no_job, 0), 0) (omega (arith, pairs)) (omega arith) ∙ ap (λ (pair : Job × ℕ). (pair, get_or totals k 0)) (beside k l)))

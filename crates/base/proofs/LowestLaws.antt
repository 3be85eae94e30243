-- Laws of the lowest position that passes a test.
use Prim.Native.Nat.{ℕ, zero, suc, ◌+◌, ◌-◌, ◌≤◌, ◌<◌, max}
use mathlib.Core.Path.{◌≡◌, refl, sym, ap, ◌∙◌}
use mathlib.Core.Logic.{◌↔◌}
use mathlib.Core.Bool.{Bool, true, false}
use native.Mathlib.Omega.{arith}
use native.Mathlib.Numerals.{add-one}
use native.Mathlib.Decide.{dec_le, dec_lt}
use lib.Dec.{ltb, leb}
use borrow.Author.Tests.{ltb-true, ltb-false, leb-true, lt-ltb, le-ltb, le-leb, lt-leb}
use Rattle.base.specs.Tests.{and, or}
use Rattle.base.specs.Lowest.{lowest_from, lowest, some_below, every_below}
use Rattle.base.proofs.TestLaws.{cases, pick_true, pick_false, both_absurd, and_true, and_left, and_right}

-- the search at a position that passes, at one that does not, and at the end
found_in : (test : ℕ → Bool) (i c : ℕ) → 0 < c → test i ≡ true → lowest_from test i c ≡ i
unfolding lowest_from
found_in test i zero h e = absurd (omega arith)
found_in test i (suc c) h e = pick_true (test i) i (lowest_from test (suc i) c) e

pub from_found : (test : ℕ → Bool) (i n : ℕ) → i < n → test i ≡ true → lowest_from test i (n - i) ≡ i
from_found test i n l e = found_in test i (n - i) (omega arith) e

passed_in : (test : ℕ → Bool) (i b c : ℕ) → c ≡ suc b → test i ≡ false → lowest_from test (suc i) b ≡ lowest_from test i c
unfolding lowest_from
passed_in test i b c h e = rw h (sym (pick_false (test i) i (lowest_from test (suc i) b) e))

pub from_passed : (test : ℕ → Bool) (i n : ℕ) → i < n → test i ≡ false → lowest_from test (i + 1) (n - (i + 1)) ≡ lowest_from test i (n - i)
from_passed test i n l e = rw add-one (passed_in test i (n - suc i) (n - i) (omega arith) e)

none_in : (test : ℕ → Bool) (n c : ℕ) → c ≡ 0 → lowest_from test n c ≡ n
unfolding lowest_from
none_in test n c h = rw h

pub from_end : (test : ℕ → Bool) (n : ℕ) → lowest_from test n (n - n) ≡ n
from_end test n = none_in test n (n - n) (omega arith)

pub from_start : (test : ℕ → Bool) (n : ℕ) → lowest_from test 0 (n - 0) ≡ lowest test n
unfolding lowest
from_start test n = let e : n - 0 ≡ n = omega arith in rw e

-- what lowest_from finds is in its range
from_within : (test : ℕ → Bool) (i c : ℕ) → lowest_from test i c ≤ i + c
unfolding lowest_from
from_within test i zero = omega arith
from_within test i (suc c) =
    cases (test i) (λ e. rw e (omega arith)) (λ e. rw e (omega (arith, from_within test (suc i) c)))

pub lowest_bound : (test : ℕ → Bool) (n : ℕ) → lowest test n ≤ n
unfolding lowest
lowest_bound test n = omega (arith, from_within test 0 n)

-- nothing before what is found passes
from_before : (test : ℕ → Bool) (i c k : ℕ) → i ≤ k → k < lowest_from test i c → test k ≡ false
unfolding lowest_from
from_before test i zero k l h = absurd (omega arith)
from_before test i (suc c) k l h =
    cases (test i)
    (λ e. let h₂ : k < i = rw e at h in absurd (omega arith))
    (λ e.
    let h₂ : k < lowest_from test (suc i) c = rw e at h in
    elim (dec_le (suc i) k) [ yes q ↦ from_before test (suc i) c k q h₂ | no q ↦ let s : i ≡ k = omega arith in rw (← s) e ])

pub before : (test : ℕ → Bool) (n k : ℕ) → k < lowest test n → test k ≡ false
unfolding lowest
before test n k h = from_before test 0 n k (omega arith) h

-- what is found below the end passes
from_passes : (test : ℕ → Bool) (i c : ℕ) → lowest_from test i c < i + c → test (lowest_from test i c) ≡ true
unfolding lowest_from
from_passes test i zero h = absurd (omega arith)
from_passes test i (suc c) h =
    cases (test i)
    (λ e. rw e e)
    (λ e.
    let h₂ : lowest_from test (suc i) c < i + suc c = rw e at h in
    rw e (from_passes test (suc i) c (omega arith)))

pub passes : (test : ℕ → Bool) (n : ℕ) → lowest test n < n → test (lowest test n) ≡ true
unfolding lowest
passes test n h = from_passes test 0 n (omega arith)

-- where none passes, the end is found
pub none_passes : (test : ℕ → Bool) (n : ℕ) → ((k : ℕ) → k < n → test k ≡ false) → lowest test n ≡ n
none_passes test n h =
    elim (dec_lt (lowest test n) n) [
      | yes l ↦ both_absurd (test (lowest test n)) (passes test n l) (h (lowest test n) l)
      | no l ↦ let w : lowest test n ≤ n = lowest_bound test n in omega arith
    ]

-- what is found is no higher than any position that passes
pub lowest_least : (test : ℕ → Bool) (n k : ℕ) → test k ≡ true → lowest test n ≤ k
lowest_least test n k e =
    elim (dec_le (lowest test n) k) [ yes l ↦ l | no l ↦ both_absurd (test k) e (before test n k (omega arith)) ]

-- tests that agree below n have the same lowest position
from_same : (f g : ℕ → Bool) (i c : ℕ) → ((k : ℕ) → i ≤ k → k < i + c → f k ≡ g k) → lowest_from f i c ≡ lowest_from g i c
unfolding lowest_from
from_same f g i zero h = refl
from_same f g i (suc c) h =
    rw (h i (omega arith) (omega arith), from_same f g (suc i) c (λ k l m. h k (omega arith) (omega arith)))

pub same : (f g : ℕ → Bool) (n : ℕ) → ((k : ℕ) → k < n → f k ≡ g k) → lowest f n ≡ lowest g n
unfolding lowest
same f g n h = from_same f g 0 n (λ k l m. h k (omega arith))

-- some position passes, or none
pub some_passes : (test : ℕ → Bool) (n k : ℕ) → k < n → test k ≡ true → some_below test n ≡ true
unfolding some_below
some_passes test n k l e =
    elim (dec_lt (lowest test n) n) [
      | yes h ↦ lt-ltb (lowest test n) n h
      | no h ↦ both_absurd (test k) e (before test n k (omega arith))
    ]

pub no_some : (test : ℕ → Bool) (n : ℕ) → some_below test n ≡ false → (k : ℕ) → k < n → test k ≡ false
unfolding some_below
no_some test n e k l = before test n k (omega (arith, ltb-false (lowest test n) n e))

pub none_some : (test : ℕ → Bool) (n : ℕ) → ((k : ℕ) → k < n → test k ≡ false) → some_below test n ≡ false
unfolding some_below
none_some test n h = le-ltb (lowest test n) n (omega (arith, none_passes test n h))

-- tests that agree below n pass somewhere alike
pub some_same : (f g : ℕ → Bool) (n : ℕ) → ((k : ℕ) → k < n → f k ≡ g k) → some_below f n ≡ some_below g n
unfolding some_below
some_same f g n h = ap (λ i. ltb i n) (same f g n h)

-- some position up to k passes exactly where the lowest below n, with k below n, is no higher than k
pub some_upto : (test : ℕ → Bool) (n k : ℕ) → k < n → some_below test (suc k) ≡ leb (lowest test n) k
some_upto test n k l =
    elim (dec_le (lowest test n) k) [
      | yes h ↦ some_passes test (suc k) (lowest test n) (omega arith) (passes test n (omega arith)) ∙ sym (le-leb (lowest test n) k h)
      | no h ↦ none_some test (suc k) (λ j m. before test n j (omega arith)) ∙ sym (lt-leb (lowest test n) k (omega arith))
    ]

-- the lowest position up to which each of two tests passes somewhere is the higher of their lowest positions
pub lowest_both : (f g test : ℕ → Bool) (n : ℕ) → ((k : ℕ) → k < n → test k ≡ and (some_below f (suc k)) (some_below g (suc k)))
    → lowest test n ≡ max (lowest f n) (lowest g n)
lowest_both f g test n h =
    let bound : lowest test n ≤ n = lowest_bound test n in
    let bound-f : lowest f n ≤ n = lowest_bound f n in
    let bound-g : lowest g n ≤ n = lowest_bound g n in
    let by : (k : ℕ) → k < n → test k ≡ and (leb (lowest f n) k) (leb (lowest g n) k) = λ k l. rw (← some_upto f n k l, ← some_upto g n k l) (h k l) in
    let above : max (lowest f n) (lowest g n) ≤ lowest test n =
    elim (dec_lt (lowest test n) n) [
      | yes l ↦
          let e = sym (by (lowest test n) l) ∙ passes test n l in
          omega (
            arith,
            leb-true (lowest f n) (lowest test n) (and_left (leb (lowest f n) (lowest test n)) (leb (lowest g n) (lowest test n)) e),
            leb-true (lowest g n) (lowest test n) (and_right (leb (lowest f n) (lowest test n)) (leb (lowest g n) (lowest test n)) e),
          )
      | no l ↦ omega arith
    ] in
    let below : lowest test n ≤ max (lowest f n) (lowest g n) =
    elim (dec_lt (max (lowest f n) (lowest g n)) n) [
      | yes l ↦
          lowest_least test n (max (lowest f n) (lowest g n))
          (by (max (lowest f n) (lowest g n)) l
          ∙ and_true (leb (lowest f n) (max (lowest f n) (lowest g n))) (leb (lowest g n) (max (lowest f n) (lowest g n)))
          (le-leb (lowest f n) (max (lowest f n) (lowest g n)) (omega arith))
          (le-leb (lowest g n) (max (lowest f n) (lowest g n)) (omega arith)))
      | no l ↦ omega arith
    ] in
    omega arith

-- below the first position none passes
pub some_none : (test : ℕ → Bool) → some_below test 0 ≡ false
some_none test = none_some test 0 (λ k l. absurd (omega arith))

-- one position more
pub some_more : (test : ℕ → Bool) (n : ℕ) → some_below test (n + 1) ≡ or (some_below test n) (test n)
unfolding some_below
some_more test n =
    cases (some_below test n)
    (λ e. let l : lowest test n < n = ltb-true (lowest test n) n e in rw e (some_passes test (n + 1) (lowest test n) (omega arith) (passes test n l)))
    (λ e.
    rw e
    (cases (test n)
    (λ p. rw p (some_passes test (n + 1) n (omega arith) p))
    (λ p.
    rw p
    (none_some test (n + 1) (λ k l.
    elim (dec_lt k n) [ yes m ↦ no_some test n e k m | no m ↦ let s : k ≡ n = omega arith in rw s p ])))))

-- every position below n passes, said of each
pub every_below_lem : (test : ℕ → Bool) (n : ℕ) → (every_below test n ≡ true) ↔ ((k : ℕ) → k < n → test k ≡ true)
unfolding every_below
every_below_lem test zero = (λ e k l. absurd (omega arith), λ h. refl)
every_below_lem test (suc n) = (
  λ e k l.
      elim (dec_lt k n) [
        | yes m ↦ (every_below_lem test n).0 (and_right (test n) (every_below test n) e) k m
        | no m ↦ let s : k ≡ n = omega arith in rw s (and_left (test n) (every_below test n) e)
      ],
  λ h. and_true (test n) (every_below test n) (h n (omega arith)) ((every_below_lem test n).1 (λ k l. h k (omega arith))),
)

-- one position more, and a position that fails
pub every_more : (test : ℕ → Bool) (n : ℕ) → every_below test n ≡ true → test n ≡ true → every_below test (n + 1) ≡ true
unfolding every_below
every_more test n all here = rw (add-one n) (and_true (test n) (every_below test n) here all)

pub every_fails : (test : ℕ → Bool) (n k : ℕ) → k < n → test k ≡ false → every_below test n ≡ false
every_fails test n k l e =
    cases (every_below test n) (λ all. both_absurd (test k) ((every_below_lem test n).0 all k l) e) (λ none. none)

-- tests that agree below n pass everywhere alike
pub every_same : (f g : ℕ → Bool) (n : ℕ) → ((k : ℕ) → k < n → f k ≡ g k) → every_below f n ≡ every_below g n
unfolding every_below
every_same f g zero h = refl
every_same f g (suc n) h = rw (h n (omega arith), every_same f g n (λ k l. h k (omega arith)))

-- A search from the first position upwards: no position below k passes the test, so the lowest is still to be found from k on.
pub record Searched (test : ℕ → Bool) (n k : ℕ) : Type 0 where
  pub within_is : k ≤ n
  pub left : lowest_from test k (n - k) ≡ lowest test n

-- the search begins
pub search_start : (test : ℕ → Bool) (n : ℕ) → Searched test n 0
search_start test n = record { within_is = omega arith; left = from_start test n }

-- position k passes: it is the lowest
pub search_found : (test : ℕ → Bool) (n k : ℕ) → Searched test n k → k < n → test k ≡ true → k ≡ lowest test n
search_found test n k s l e = sym (from_found test k n l e) ∙ s.left

-- position k does not pass: the search goes on
pub search_passed : (test : ℕ → Bool) (n k : ℕ) → Searched test n k → k < n → test k ≡ false → Searched test n (k + 1)
search_passed test n k s l e =
    record { within_is = omega arith; left = from_passed test k n l e ∙ s.left }

-- no position is left: none passes
pub search_end : (test : ℕ → Bool) (n k : ℕ) → Searched test n k → n ≤ k → k ≡ lowest test n
search_end test n k s l =
    let e : n ≡ k = omega (arith, s.within_is) in
    rw (← e) (sym (from_end test n) ∙ rw e (rw e at s.left))

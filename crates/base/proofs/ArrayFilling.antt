-- An array that is filled place by place, and the list of places that it comes to hold.
use Prim.Native.Nat.{ℕ, ◌+◌, ◌≤◌, ◌<◌}
use mathlib.Core.Path.{◌≡◌}
use mathlib.Core.List.{List}
use native.Mathlib.Omega.{arith}
use native.Mathlib.Decide.{dec_lt, ℕ_discrete}
use lib.Dec.{ltb}
use lib.ListN.{length, get_or, set, replicate, length-set, length-replicate, get_or-replicate}
use lib.Seq.{get_or-set_same, get_or-set_other}
use borrow.Author.Tests.{lt-ltb, le-ltb}
use Rattle.base.specs.Tests.{pick}
use Rattle.base.specs.Places.{places}
use Rattle.base.proofs.PlaceLaws.{places_is}

-- of an array of `size` places, those below `done` and below the count hold their items, and every other is blank
pub record Filled {A : Type 0} (blank : A) (item : ℕ → A) (size count done : ℕ) (kept : List A) : Type 0 where
  pub length_is : length kept ≡ size
  pub before : (k : ℕ) → k < done → k < count → k < size → get_or kept k blank ≡ item k
  pub after : (k : ℕ) → done ≤ k → k < size → get_or kept k blank ≡ blank
  pub beyond : (k : ℕ) → count ≤ k → k < size → get_or kept k blank ≡ blank

-- before the first place all are blank
pub filled_start : {A : Type 0} (blank : A) (item : ℕ → A) (size count : ℕ) → Filled blank item size count 0 (replicate size blank)
filled_start blank item size count =
    record {
      length_is = length-replicate size blank;
      before = λ k a b m. absurd (omega arith);
      after = λ k a m. get_or-replicate size k blank blank m;
      beyond = λ k a m. get_or-replicate size k blank blank m;
    }

-- a place below the count is filled
pub filled_set : {A : Type 0} (blank : A) (item : ℕ → A) (size count i : ℕ) (kept : List A) (x : A) → i < size → i < count → x ≡ item i
    → Filled blank item size count i kept → Filled blank item size count (i + 1) (set kept i x)
filled_set blank item size count i kept x m l e f =
    record {
      length_is = rw (length-set kept i x) f.length_is;
      before = λ k a b n.
          elim (ℕ_discrete k i) [
            | yes s ↦ rw (s, get_or-set_same kept i x blank (omega (arith, f.length_is))) e
            | no s ↦ rw (get_or-set_other kept i k x blank s) (f.before k (omega arith) b n)
          ];
      after = λ k a n. rw (get_or-set_other kept i k x blank (omega arith)) (f.after k (omega arith) n);
      beyond = λ k a n. rw (get_or-set_other kept i k x blank (omega arith)) (f.beyond k a n);
    }

-- a place that is not to be filled
pub filled_skip : {A : Type 0} (blank : A) (item : ℕ → A) (size count i : ℕ) (kept : List A) → (i < count → i < size → ⊥) → Filled blank item size count i kept
    → Filled blank item size count (i + 1) kept
filled_skip blank item size count i kept n f =
    record {
      length_is = f.length_is;
      before = λ k a b m. elim (dec_lt k i) [
        | yes l ↦ f.before k l b m
        | no l ↦ let e : k ≡ i = omega arith in absurd (n (rw e at b) (rw e at m))
      ];
      after = λ k a m. f.after k (omega arith) m;
      beyond = f.beyond;
    }

-- once every place below the count is filled, the array is the list of places
pub filled_whole : {A : Type 0} (blank : A) (item : ℕ → A) (size count i : ℕ) (kept : List A) → ((k : ℕ) → k < count → k < size → k < i) → Filled blank item size count i kept
    → kept ≡ places (λ k. pick (ltb k count) (item k) blank) size
filled_whole blank item size count i kept e f =
    places_is (λ k. pick (ltb k count) (item k) blank) size blank kept f.length_is
    (λ k m.
    elim (dec_lt k count) [
      | yes l ↦ rw (lt-ltb k count l) (f.before k (e k l m) l m)
      | no l ↦ rw (le-ltb k count (omega arith)) (f.beyond k (omega arith) m)
    ])

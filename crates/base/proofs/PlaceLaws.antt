-- Laws of lists that are given place by place.
use Prim.Native.Nat.{ℕ, zero, suc, ◌+◌, ◌-◌, ◌≤◌, ◌<◌}
use mathlib.Core.Path.{◌≡◌, refl, ap, ◌∙◌}
use mathlib.Core.List.{List, [], ◌∷◌, ◌++◌, reverse, reverse-append}
use native.Mathlib.Nat.{add-zero}
use native.Mathlib.Omega.{arith}
use native.Mathlib.Numerals.{add-one}
use lib.ListN.{length, get_or}
use lib.Seq.{ext_get_or}
use Rattle.base.specs.Places.{places_from, places}

-- there are as many places as asked for, from any place on
pub from_length : {A : Type 0} (at : ℕ → A) (i n : ℕ) → length (places_from at i n) ≡ n
unfolding places_from
from_length at i zero = refl
from_length at i (suc n) = ap suc (from_length at (suc i) n)

-- and from the first
pub places_length : {A : Type 0} (at : ℕ → A) (n : ℕ) → length (places at n) ≡ n
unfolding places
places_length at n = from_length at 0 n

from_at : {A : Type 0} (at : ℕ → A) (i n k : ℕ) (d : A) → k < n → get_or (places_from at i n) k d ≡ at (i + k)
unfolding places_from
from_at at i zero k d h = absurd (omega arith)
from_at at i (suc n) zero d h = ap at (omega arith)
from_at at i (suc n) (suc k) d h = let e : suc i + k ≡ i + suc k = omega arith in rw (← e) (from_at at (suc i) n k d (omega arith))

-- place k holds what was asked for there
pub places_at : {A : Type 0} (at : ℕ → A) (n k : ℕ) (d : A) → k < n → get_or (places at n) k d ≡ at k
unfolding places
places_at at n k d h = let e : 0 + k ≡ k = omega arith in rw (from_at at 0 n k d h) (ap at e)

from_last : {A : Type 0} (at : ℕ → A) (i n : ℕ) → places_from at i (suc n) ≡ places_from at i n ++ (at (i + n) ∷ [])
unfolding places_from
from_last at i zero = rw (add-zero i)
from_last at i (suc n) =
    let e : i + suc n ≡ suc i + n = omega arith in
    rw (e, ← from_last at (suc i) n)

-- one place more is the last
pub places_last : {A : Type 0} (at : ℕ → A) (n : ℕ) → places at (suc n) ≡ places at n ++ (at n ∷ [])
unfolding places
places_last at n = let e : 0 + n ≡ n = omega arith in rw e at (from_last at 0 n)

-- and comes first where they are turned round
pub reverse_places : {A : Type 0} (at : ℕ → A) (n : ℕ) → reverse (places at (suc n)) ≡ at n ∷ reverse (places at n)
reverse_places at n = rw (places_last at n, reverse-append (places at n) (at n ∷ []))

-- a list of n elements is the list of its places
pub places_is : {A : Type 0} (at : ℕ → A) (n : ℕ) (d : A) (l : List A) → length l ≡ n → ((k : ℕ) → k < n → get_or l k d ≡ at k) → l ≡ places at n
places_is at n d l e h =
    ext_get_or d l (places at n) (rw (e, places_length at n))
    (λ k m. rw (places_at at n k d (omega arith)) (h k (omega arith)))

-- so many places, and so many after them
from_append : {A : Type 0} (at : ℕ → A) (i a b : ℕ) → places_from at i (a + b) ≡ places_from at i a ++ places_from at (i + a) b
unfolding places_from
from_append at i zero b = let e : zero + b ≡ b = omega arith in rw (e, add-zero i)
from_append at i (suc a) b =
    let more : suc a + b ≡ suc (a + b) = omega arith in
    let next : i + suc a ≡ suc i + a = omega arith in
    rw (more, next, from_append at (suc i) a b)

-- A walk over the places from the first upwards: what is left at the beginning, at a place and at the end.
pub left_start : {A : Type 0} (at : ℕ → A) (n : ℕ) → places_from at 0 (n - 0) ≡ places at n
unfolding places
left_start at n = let e : n - 0 ≡ n = omega arith in rw e

left_in : {A : Type 0} (at : ℕ → A) (i b c : ℕ) → c ≡ suc b → places_from at i c ≡ at i ∷ places_from at (suc i) b
unfolding places_from
left_in at i b c e = rw e

pub left_step : {A : Type 0} (at : ℕ → A) (n i : ℕ) → i < n → places_from at i (n - i) ≡ at i ∷ places_from at (i + 1) (n - (i + 1))
left_step at n i l = rw add-one (left_in at i (n - suc i) (n - i) (omega arith))

left_none : {A : Type 0} (at : ℕ → A) (i c : ℕ) → c ≡ 0 → places_from at i c ≡ []
unfolding places_from
left_none at i c e = rw e

pub left_end : {A : Type 0} (at : ℕ → A) (n i : ℕ) → n ≤ i → places_from at i (n - i) ≡ []
left_end at n i l = left_none at i (n - i) (omega arith)

-- The places are those before a place, it, and those after it.
pub places_around : {A : Type 0} (at : ℕ → A) (n k : ℕ) → k < n → places at n ≡ places at k ++ at k ∷ places_from at (k + 1) (n - (k + 1))
unfolding places
places_around at n k l =
    let parts : n ≡ k + (n - k) = omega arith in
    let first : 0 + k ≡ k = omega arith in
    ap (places_from at 0) parts ∙ (from_append at 0 k (n - k) ∙ rw first (ap (λ rest. places_from at 0 k ++ rest) (left_step at n k l)))

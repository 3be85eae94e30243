-- Laws of the members of lists.
use Prim.Native.Nat.{ℕ, zero, suc, ◌+◌, ◌≤◌, ◌<◌}
use mathlib.Core.Path.{◌≡◌, refl}
use mathlib.Core.Logic.{◌⊎◌, inl, inr, ◌↔◌}
use mathlib.Core.List.{List, [], ◌∷◌, ◌++◌, reverse, reverse-cons}
use native.Mathlib.Omega.{arith}
use native.Mathlib.Decide.{dec_le}
use lib.ListN.{length, get_or}
use Rattle.base.specs.Places.{places_from, places}
use Rattle.base.specs.Members.{All, Any}

-- where P gives Q, it does so for all members
pub all_map : {A : Type 0} (P Q : A → Type 0) (xs : List A) → ((x : A) → P x → Q x) → All P xs → All Q xs
all_map P Q [] f h = tt
all_map P Q (x ∷ xs) f h = (f x h.0, all_map P Q xs f h.1)

-- and for some member
pub any_map : {A : Type 0} (P Q : A → Type 0) (xs : List A) → ((x : A) → P x → Q x) → Any P xs → Any Q xs
any_map P Q [] f h = absurd h
any_map P Q (x ∷ xs) f (inl h) = inl (f x h)
any_map P Q (x ∷ xs) f (inr h) = inr (any_map P Q xs f h)

-- all members are P exactly where whatever is a member is P
pub all_members : {A : Type 0} (P : A → Type 0) (xs : List A) → All P xs ↔ ((x : A) → Any (λ y. y ≡ x) xs → P x)
all_members P xs = (to xs, fro xs)
  where
    to : (xs : List _) → All P xs → (x : _) → Any (λ y. y ≡ x) xs → P x
    to [] h x m = absurd m
    to (y ∷ ys) h x (inl e) = rw e at h.0
    to (y ∷ ys) h x (inr m) = to ys h.1 x m

    fro : (xs : List _) → ((x : _) → Any (λ y. y ≡ x) xs → P x) → All P xs
    fro [] h = tt
    fro (x ∷ xs) h = (h x (inl refl), fro xs (λ y m. h y (inr m)))

-- where some member is P, there is one
pub any_member : {A : Type 0} (P : A → Type 0) (xs : List A) → Any P xs → (x : A) × Any (λ y. y ≡ x) xs × P x
any_member P [] h = absurd h
any_member P (x ∷ xs) (inl h) = (x, inl refl, h)
any_member P (x ∷ xs) (inr h) = let m = any_member P xs h in (m.0, inr m.1, m.2)

-- Members of a list that is given place by place. All are P exactly where what stands at each place is: from a place on,
pub all_from : {A : Type 0} (P : A → Type 0) (at : ℕ → A) (i n : ℕ) → All P (places_from at i n) ↔ ((k : ℕ) → i ≤ k → k < i + n → P (at k))
unfolding places_from
all_from P at i n = (to i n, fro i n)
  where
    to : (i n : ℕ) → All P (places_from at i n) → (k : ℕ) → i ≤ k → k < i + n → P (at k)
    to i zero h k l m = absurd (omega arith)
    to i (suc n) h k l m =
        elim (dec_le (suc i) k) [
          | yes q ↦ to (suc i) n h.1 k q (omega arith)
          | no q ↦ let e : i ≡ k = omega arith in rw (← e) h.0
        ]

    fro : (i n : ℕ) → ((k : ℕ) → i ≤ k → k < i + n → P (at k)) → All P (places_from at i n)
    fro i zero h = tt
    fro i (suc n) h = (h i (omega arith) (omega arith), fro (suc i) n (λ k l m. h k (omega arith) (omega arith)))

-- and from the first
pub all_places : {A : Type 0} (P : A → Type 0) (at : ℕ → A) (n : ℕ) → All P (places at n) ↔ ((k : ℕ) → k < n → P (at k))
unfolding places
all_places P at n = (
  λ h k l. (all_from P at 0 n).0 h k (omega arith) (omega arith),
  λ h. (all_from P at 0 n).1 (λ k l m. h k (omega arith)),
)

any_from : {A : Type 0} (P : A → Type 0) (at : ℕ → A) (i n : ℕ) → Any P (places_from at i n) → (k : ℕ) × (i ≤ k) × (k < i + n) × P (at k)
unfolding places_from
any_from P at i zero h = absurd h
any_from P at i (suc n) (inl h) = (i, omega arith, omega arith, h)
any_from P at i (suc n) (inr h) =
    let m = any_from P at (suc i) n h in
    let l = m.1 in
    let r = m.2 in
    (m.0, omega arith, omega arith, m.3)

from_any : {A : Type 0} (P : A → Type 0) (at : ℕ → A) (i n k : ℕ) → i ≤ k → k < i + n → P (at k) → Any P (places_from at i n)
unfolding places_from
from_any P at i zero k l m h = absurd (omega arith)
from_any P at i (suc n) k l m h =
    elim (dec_le (suc i) k) [
      | yes q ↦ inr (from_any P at (suc i) n k q (omega arith) h)
      | no q ↦ let e : i ≡ k = omega arith in inl (rw e h)
    ]

-- some member is P exactly where what stands at some place is
pub any_places : {A : Type 0} (P : A → Type 0) (at : ℕ → A) (n : ℕ) → Any P (places at n) ↔ ((k : ℕ) × (k < n) × P (at k))
unfolding places
any_places P at n = (
  λ h. let m = any_from P at 0 n h in let l = m.2 in (m.0, omega arith, m.3),
  λ m. from_any P at 0 n m.0 (omega arith) (omega (arith, m.1)) m.2,
)

-- what holds of all members of a list holds at each of its places
pub all_at : {A : Type 0} (P : A → Type 0) (blank : A) (xs : List A) (i : ℕ) → i < length xs → All P xs → P (get_or xs i blank)
all_at P blank [] i l a = absurd (omega arith)
all_at P blank (x ∷ xs) zero l a = a.0
all_at P blank (x ∷ xs) (suc i) l a = all_at P blank xs i (omega arith) a.1

-- Members of two lists together, and of a list that is turned round.
pub all_append : {A : Type 0} (P : A → Type 0) (xs ys : List A) → All P xs → All P ys → All P (xs ++ ys)
all_append P [] ys f g = g
all_append P (x ∷ xs) ys f g = (f.0, all_append P xs ys f.1 g)

pub all_reverse : {A : Type 0} (P : A → Type 0) (xs : List A) → All P xs → All P (reverse xs)
all_reverse P [] f = tt
all_reverse P (x ∷ xs) f = rw (reverse-cons x xs) (all_append P (reverse xs) (x ∷ []) (all_reverse P xs f.1) (f.0, tt))

-- Members of a list that has one more in the middle: all are P where that one is and all others are,
pub all_around : {A : Type 0} (P : A → Type 0) (xs ys : List A) (x : A) → All P (xs ++ x ∷ ys) ↔ (P x × All P (xs ++ ys))
all_around P [] ys x = (λ f. f, λ f. f)
all_around P (y ∷ xs) ys x =
    let rest = all_around P xs ys x in
    (λ f. let g = rest.0 f.1 in (g.0, (f.0, g.1)), λ f. (f.1.0, rest.1 (f.0, f.1.1)))

-- and some member is where that one is or some other is.
any_out : {A : Type 0} (P : A → Type 0) (xs ys : List A) (x : A) → Any P (xs ++ x ∷ ys) → P x ⊎ Any P (xs ++ ys)
any_out P [] ys x f = f
any_out P (y ∷ xs) ys x (inl h) = inr (inl h)
any_out P (y ∷ xs) ys x (inr h) = past (any_out P xs ys x h)
  where
    past : P x ⊎ Any P (xs ++ ys) → P x ⊎ (P y ⊎ Any P (xs ++ ys))
    past (inl k) = inl k
    past (inr k) = inr (inr k)

any_in : {A : Type 0} (P : A → Type 0) (xs ys : List A) (x : A) → P x ⊎ Any P (xs ++ ys) → Any P (xs ++ x ∷ ys)
any_in P [] ys x f = f
any_in P (y ∷ xs) ys x (inl h) = inr (any_in P xs ys x (inl h))
any_in P (y ∷ xs) ys x (inr (inl h)) = inl h
any_in P (y ∷ xs) ys x (inr (inr h)) = inr (any_in P xs ys x (inr h))

pub any_around : {A : Type 0} (P : A → Type 0) (xs ys : List A) (x : A) → Any P (xs ++ x ∷ ys) ↔ (P x ⊎ Any P (xs ++ ys))
any_around P xs ys x = (any_out P xs ys x, any_in P xs ys x)

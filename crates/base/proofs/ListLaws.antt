-- Laws of lists: what is made of each member, and what stands at the front.
use Prim.Native.Nat.{ℕ, zero, suc}
use mathlib.Core.Path.{◌≡◌, refl}
use mathlib.Core.List.{List, [], ◌∷◌, ◌++◌, map, reverse, reverse-cons}
use lib.ListN.{length, take}
use Rattle.base.specs.Places.{places_from}

-- turning a list round and then looking at each member, or the other way
pub map_append : {A B : Type 0} (f : A → B) (xs ys : List A) → map f (xs ++ ys) ≡ map f xs ++ map f ys
map_append f [] ys = refl
map_append f (x ∷ xs) ys = rw (map_append f xs ys)

pub map_reverse : {A B : Type 0} (f : A → B) (xs : List A) → map f (reverse xs) ≡ reverse (map f xs)
map_reverse f [] = refl
map_reverse f (x ∷ xs) = rw (reverse-cons x xs, map_append f (reverse xs) (x ∷ []), map_reverse f xs, reverse-cons (f x) (map f xs))

-- a list given place by place, and what is made of each member
pub map_places : {A B : Type 0} (part : A → B) (at : ℕ → A) (first n : ℕ) → map part (places_from at first n) ≡ places_from (λ k. part (at k)) first n
unfolding places_from
map_places part at first zero = refl
map_places part at first (suc n) = rw (map_places part at (suc first) n)

-- the front of a list is what was written there
pub front_taken : {A : Type 0} (written rest : List A) → take (length written) (written ++ rest) ≡ written
front_taken [] rest = refl
front_taken (x ∷ written) rest = rw (front_taken written rest)

-- Laws of the lowest position that passes a test, where some position does: what a search returns.
use Prim.Native.Nat.{ℕ, ◌≤◌, ◌<◌}
use mathlib.Core.Path.{◌≡◌, ap}
use mathlib.Core.Bool.{Bool, true, false}
use mathlib.Core.List.{List}
use native.Mathlib.Omega.{arith}
use native.Mathlib.Decide.{dec_lt}
use lib.ListN.{length, get_or}
use lib.Dec.{ltb}
use borrow.Author.Tests.{lt-ltb, le-ltb}
use Rattle.std.specs.Prelude.{Some, None, position}
use Rattle.std.specs.List.{position_or_len}
use Rattle.std.proofs.lemmas.List.Sums.{position_or_len_is}
use Rattle.base.specs.Tests.{pick}
use Rattle.base.specs.Lowest.{lowest, some_below, found}
use Rattle.base.proofs.TestLaws.{both_absurd}
use Rattle.base.proofs.LowestLaws.{before, same, lowest_least, lowest_bound, none_some, some_passes, passes}

-- the first position that passes is found
pub found_first : (test : ℕ → Bool) (n k : ℕ) → k < n → ((j : ℕ) → j < k → test j ≡ false) → test k ≡ true → Some k ≡ found test n
unfolding found
found_first test n k l none e =
    let least : lowest test n ≤ k = lowest_least test n k e in
    let is : lowest test n ≡ k =
    elim (dec_lt (lowest test n) k) [
      | yes m ↦ both_absurd (test (lowest test n)) (passes test n (omega arith)) (none (lowest test n) m)
      | no m ↦ omega arith
    ] in
    rw (some_passes test n k l e, is)

-- where none passes, nothing is found
pub found_none : (test : ℕ → Bool) (n : ℕ) → ((j : ℕ) → j < n → test j ≡ false) → None ≡ found test n
unfolding found
found_none test n h = rw (none_some test n h)

-- what is found is the lowest
pub found_lowest : (test : ℕ → Bool) (n k : ℕ) → Some k ≡ found test n → (k ≡ lowest test n) × (k < n)
unfolding found some_below
found_lowest test n k e =
    elim (dec_lt (lowest test n) n) [
      | yes l ↦ let f : Some k ≡ Some (lowest test n) = rw (lt-ltb (lowest test n) n l) at e in let same : k ≡ lowest test n = cc in (same, omega arith)
      | no l ↦ let f : Some k ≡ None = rw (le-ltb (lowest test n) n (omega arith)) at e in cc
    ]

-- where nothing is found, none passes
pub nothing_found : (test : ℕ → Bool) (n : ℕ) → None ≡ found test n → n ≤ lowest test n
unfolding found some_below
nothing_found test n e =
    elim (dec_lt (lowest test n) n) [
      | yes l ↦ let f : None ≡ Some (lowest test n) = rw (lt-ltb (lowest test n) n l) at e in cc
      | no l ↦ omega arith
    ]

-- tests that agree find the same
pub found_same : (f g : ℕ → Bool) (n : ℕ) → ((k : ℕ) → k < n → f k ≡ g k) → found f n ≡ found g n
unfolding found some_below
found_same f g n h = rw (same f g n h)

-- what the library's `position` finds in a list
pub position_found : {A : Type 0} (p : A → Bool) (d : A) (xs : List A) → position p xs ≡ found (λ k. p (get_or xs k d)) (length xs)
unfolding found some_below
position_found p d xs =
    let test : ℕ → Bool = λ k. p (get_or xs k d) in
    let n : ℕ = length xs in
    let least : position_or_len p xs ≡ lowest test n =
    position_or_len_is p xs (lowest test n) d (lowest_bound test n) (λ k l. before test n k l) (λ l. passes test n l) in
    ap (λ k. pick (ltb k n) (Some k) None) least

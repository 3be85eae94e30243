-- For the proofs of code alone: columns of numbers, place by place.
use Rattle.std.specs.Prelude.{ℕ, ◌-◌, ◌≡◌, List, ltb, leb, eqb, length, get_or}
use Rattle.base.specs.Tests.{pick}

-- what stands at place j once a number is put in at place `at` of an old column: what stood from `at` to `end`, excluded, stands one place higher
unfoldable pub inserted_at : ℕ → ℕ → ℕ → (ℕ → ℕ) → ℕ → ℕ
inserted_at at end number old j = pick (ltb j at) (old j) (pick (eqb j at) number (pick (leb j end) (old (j - 1)) (old j)))

-- a number was put in so: the column has as many places as before
abbrev pub Inserted : ℕ → ℕ → ℕ → List ℕ → List ℕ → Type 0
Inserted at end number before after =
    (length after ≡ length before) × ((j : ℕ) → get_or after j 0 ≡ inserted_at at end number (λ k. get_or before k 0) j)

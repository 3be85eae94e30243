-- For proofs alone: the first places of an array, an array of which some places are written, and lists in which no number stands twice.
use Rattle.std.specs.Prelude.{ℕ, ◌+◌, ◌≤◌, ◌<◌, ◌≡◌, ◌≢◌, List, [], ◌∷◌, length, get_or}
use Rattle.base.specs.Places.{places}
use Rattle.base.specs.Members.{All}

-- the first n elements of an array; `blank` stands for one that it lacks
abbrev pub first_places : {A : Type 0} → A → List A → ℕ → List A
first_places blank array n = places (λ k. get_or array k blank) n

-- of the places counted from `first` on, those from `low` up to but not at `high` hold their items, and every other place what it held before
pub record Rewritten {A : Type 0} (blank : A) (item : ℕ → A) (first low high : ℕ) (before after : List A) : Type 0 where
  pub same_length : length after ≡ length before
  pub below : (k : ℕ) → k < first + low → get_or after k blank ≡ get_or before k blank
  pub written : (v : ℕ) → low ≤ v → v < high → get_or after (first + v) blank ≡ item v
  pub beyond : (k : ℕ) → first + high ≤ k → get_or after k blank ≡ get_or before k blank

-- no number stands twice
abbrev pub Distinct : List ℕ → Type 0
Distinct [] = Unit {0}
Distinct (i ∷ is) = All (λ k. i ≢ k) is × Distinct is

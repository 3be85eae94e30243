-- Lists given place by place.
use Rattle.std.specs.Prelude.{ℕ, zero, suc, List, [], ◌∷◌}

-- what stands at the `count` places from `first` on
unfoldable pub places_from : {A : Type 0} → (ℕ → A) → ℕ → ℕ → List A
places_from at first zero = []
places_from at first (suc count) = at first ∷ places_from at (suc first) count

-- the list of n places with `at k` at place k
unfoldable pub places : {A : Type 0} → (ℕ → A) → ℕ → List A
places at n = places_from at 0 n

-- Sums of lists.
use Rattle.std.specs.Prelude.{ℕ, ◌+◌, List, [], ◌∷◌}

-- the sum of some numbers
abbrev pub total : List ℕ → ℕ
total [] = 0
total (number ∷ numbers) = number + total numbers

-- What is left of a number of places that a search halves: the theorem `twelve_steps` says that of 4,096 places at most one is left after 12 steps.
use Rattle.std.specs.Prelude.{ℕ, zero, suc, ◌-◌, ◌/◌}

-- what is left after one step: all but the lower half, rounded down
abbrev pub halved : ℕ → ℕ
halved n = n - n / 2

-- what is left after so many steps
unfoldable pub halved_times : ℕ → ℕ → ℕ
halved_times zero n = n
halved_times (suc times) n = halved_times times (halved n)

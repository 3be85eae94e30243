-- The lowest position such that: refusals name the place of a fault so. And whether some position passes a test, or every one.
use Rattle.std.specs.Prelude.{ℕ, zero, suc, Bool, true, ltb, Option, Some, None}
use Rattle.base.specs.Tests.{pick, and}

-- the lowest of the `count` positions from `first` on that passes the test, and the position after them where none does
unfoldable pub lowest_from : (ℕ → Bool) → ℕ → ℕ → ℕ
lowest_from test first zero = first
lowest_from test first (suc count) = pick (test first) first (lowest_from test (suc first) count)

-- the lowest position below n that passes the test, and n where none does
unfoldable pub lowest : (ℕ → Bool) → ℕ → ℕ
lowest test n = lowest_from test 0 n

-- some position below n passes the test
unfoldable pub some_below : (ℕ → Bool) → ℕ → Bool
some_below test n = ltb (lowest test n) n

-- the lowest position below n that passes the test, if some position does
unfoldable pub found : (ℕ → Bool) → ℕ → Option ℕ
found test n = pick (some_below test n) (Some (lowest test n)) None

-- every position below n passes the test
unfoldable pub every_below : (ℕ → Bool) → ℕ → Bool
every_below test zero = true
every_below test (suc n) = and (test n) (every_below test n)

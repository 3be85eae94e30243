-- The frame clock of documents 01 and 02. A period is two whole numbers p and q: one frame lasts p/q ticks, and frame 0 begins at the launch tick.
use Rattle.std.specs.Prelude.{ℕ, ◌+◌, ◌-◌, ◌*◌, ◌/◌, ◌≤◌, ◌≡◌, Bool, ltb}
use Rattle.base.specs.Limits.{max_launch}

-- 14: 'the launch tick is above 86,399,999'
abbrev pub bad_launch : ℕ → Bool
bad_launch launch = ltb max_launch launch

-- Ticks counted from the launch, as if frame 0 began at tick 0.

-- a release in frame f, whose data are complete only when the frame ends: the least tick not before (f + 1) × p / q
unfoldable pub release_offset : ℕ → ℕ → ℕ → ℕ
release_offset p q f = ((f + 1) * p + (q - 1)) / q

-- a deadline in frame f: the greatest tick not after f × p / q
unfoldable pub deadline_offset : ℕ → ℕ → ℕ → ℕ
deadline_offset p q f = f * p / q

-- Ticks of the station clock: 'The frame clock takes a launch tick, added to every tick it gives'.

-- the tick of a release in frame f
unfoldable pub release_tick : ℕ → ℕ → ℕ → ℕ → ℕ
release_tick launch p q f = release_offset p q f + launch

-- the tick of a deadline in frame f
unfoldable pub deadline_tick : ℕ → ℕ → ℕ → ℕ → ℕ
deadline_tick launch p q f = deadline_offset p q f + launch

-- The two sentences once more, with no division. The formulas above meet them, and nothing else does: the clauses `least` and `greatest` of the clock's
-- functions, and the theorems `release_only` and `deadline_only`.

-- counted from the launch, a tick is 'the least tick not before' (f + 1) × p / q, where frame f ends
pub record LeastNotBefore (launch p q f tick : ℕ) : Type 0 where
  pub offset : ℕ
  pub counted : tick ≡ offset + launch
  pub not_before : (f + 1) * p ≤ offset * q
  pub least : (other : ℕ) → (f + 1) * p ≤ other * q → offset ≤ other

-- counted from the launch, a tick is 'the greatest tick not after' f × p / q, where frame f begins
pub record GreatestNotAfter (launch p q f tick : ℕ) : Type 0 where
  pub offset : ℕ
  pub counted : tick ≡ offset + launch
  pub not_after : offset * q ≤ f * p
  pub greatest : (other : ℕ) → other * q ≤ f * p → other ≤ offset

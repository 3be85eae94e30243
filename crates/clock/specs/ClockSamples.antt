-- The samples of the frame clock: P1 to P3 as documents 01 and 02 give them, P1's frame at a launch tick, and a frame that ends on a tick.
use Rattle.std.specs.Prelude.{ℕ, ◌≡◌, List, [], ◌∷◌}
use Rattle.clock.specs.Clock.{release_tick, deadline_tick}

-- a frame under the period p/q and a launch tick, with the ticks expected of a release and of a deadline in it
pub record ClockSample : Type 0 where
  pub launch : ℕ
  pub p : ℕ
  pub q : ℕ
  pub frame : ℕ
  pub release : ℕ
  pub deadline : ℕ

-- P1, P2 and P3; P1 at noon; and the frame before P2's, which ends on tick 7,207,200
abbrev pub clock_samples : List ClockSample
clock_samples =
    record { launch = 0; p = 1001; q = 10; frame = 1; release = 201; deadline = 100 }
    ∷ record { launch = 0; p = 1001; q = 10; frame = 72_000; release = 7_207_301; deadline = 7_207_200 }
    ∷ record { launch = 0; p = 1001; q = 10; frame = 0; release = 101; deadline = 0 }
    ∷ record { launch = 43_200_000; p = 1001; q = 10; frame = 1; release = 43_200_201; deadline = 43_200_100 }
    ∷ record { launch = 0; p = 1001; q = 10; frame = 71_999; release = 7_207_200; deadline = 7_207_099 }
    ∷ []

-- the clock gives both ticks of a sample
abbrev pub ClockSays : ClockSample → Type 0
ClockSays s =
    (release_tick s.launch s.p s.q s.frame ≡ s.release) × (deadline_tick s.launch s.p s.q s.frame ≡ s.deadline)

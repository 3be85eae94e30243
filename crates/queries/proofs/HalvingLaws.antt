-- A search by halving looks at few places: so many steps leave at most one of as many runs as a list may have.
use Prim.Native.Nat.{ℕ, zero, suc, ◌+◌, ◌/◌, ◌≤◌}
use native.Mathlib.Omega.{arith}
use native.Mathlib.Nat.{div-add-mod, mod-lt}
use Rattle.base.specs.Limits.{max_runs}
use Rattle.queries.specs.Halving.{halved, halved_times}

-- twice the half is the number or one less
pub half_is : (n : ℕ) → (n / 2 + n / 2 ≤ n) × (n ≤ n / 2 + n / 2 + 1)
half_is n = let m = mod-lt n {m = 2} (omega arith) in omega (arith, div-add-mod n 2)

-- of more places no fewer are left, after one step and after any number of steps
halved_grows : (m n : ℕ) → m ≤ n → halved m ≤ halved n
halved_grows m n h = let p = half_is m in let q = half_is n in omega arith

times_grow : (times m n : ℕ) → m ≤ n → halved_times times m ≤ halved_times times n
unfolding halved_times
times_grow zero m n h = h
times_grow (suc times) m n h = times_grow times (halved m) (halved n) (halved_grows m n h)

-- after 12 steps at most one is left of as many places as a run list may have
pub twelve_steps : (n : ℕ) → n ≤ max_runs → halved_times 12 n ≤ 1
unfolding halved_times
twelve_steps n h = times_grow 12 n max_runs h

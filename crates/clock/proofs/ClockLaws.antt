-- The samples and the laws of the frame clock.
use Prim.Native.Nat.{ℕ, zero, suc, ◌+◌, ◌-◌, ◌*◌, ◌/◌, ◌%◌, ◌^◌, ◌≤◌, ◌<◌}
use mathlib.Core.Path.{◌≡◌, refl}
use mathlib.Core.Bool.{false}
use native.Mathlib.Nat.{le_refl, mul-le-mul, mul-le-mul_right, add-mul, add-mul-div_right, div-zero, div-add-mod', div-le_self, div-mul-le_self, div-lt_iff_lt-mul, le-div_iff_mul-le, lt-div-mul-add}
use native.Mathlib.Omega.{arith}
use Rattle.base.specs.Members.{All}
use Rattle.base.specs.Limits.{last_frame, max_period, bad_period, max_launch, last_tick}
use Rattle.base.proofs.PeriodLaws.{period_known}
use Rattle.clock.specs.Clock.{release_offset, deadline_offset, release_tick, deadline_tick, LeastNotBefore, GreatestNotAfter}
use Rattle.clock.specs.ClockSamples.{clock_samples, ClockSays}

-- The clock gives both ticks of every sample.
pub clock_samples_lem : All ClockSays clock_samples
unfolding release_offset deadline_offset release_tick deadline_tick
clock_samples_lem = ((refl, refl), ((refl, refl), ((refl, refl), ((refl, refl), ((refl, refl), tt)))))

-- With launch tick 0 the ticks are those counted from the launch, and a launch tick makes every tick later by it.
pub release_launch_0 : (p q f : ℕ) → release_tick 0 p q f ≡ release_offset p q f
unfolding release_tick
release_launch_0 p q f = omega arith

pub deadline_launch_0 : (p q f : ℕ) → deadline_tick 0 p q f ≡ deadline_offset p q f
unfolding deadline_tick
deadline_launch_0 p q f = omega arith

pub release_later : (launch p q f : ℕ) → release_tick launch p q f ≡ release_tick 0 p q f + launch
unfolding release_tick
release_later launch p q f = omega arith

pub deadline_later : (launch p q f : ℕ) → deadline_tick launch p q f ≡ deadline_tick 0 p q f + launch
unfolding deadline_tick
deadline_later launch p q f = omega arith

-- Counted from the launch, the release tick is the least tick not before (f + 1) × p / q,
pub release_not_before : (p q f : ℕ) → 1 ≤ q → (f + 1) * p ≤ release_offset p q f * q
unfolding release_offset
release_not_before p q f positive = omega (arith, lt-div-mul-add {a = (f + 1) * p + (q - 1)} positive)

pub release_least : (p q f t : ℕ) → 1 ≤ q → (f + 1) * p ≤ t * q → release_offset p q f ≤ t
unfolding release_offset
release_least p q f t positive reaches =
    let below : (f + 1) * p + (q - 1) < (t + 1) * q = omega (arith, add-mul t 1 q) in
    omega (arith, (div-lt_iff_lt-mul positive).1 below)

pub release_meets : (launch p q f : ℕ) → 1 ≤ q → LeastNotBefore launch p q f (release_tick launch p q f)
unfolding release_tick
release_meets launch p q f positive =
    record {
      offset = release_offset p q f;
      counted = refl;
      not_before = release_not_before p q f positive;
      least = λ other h. release_least p q f other positive h;
    }

-- and no other tick is.
pub release_only : (launch p q f tick : ℕ) → 1 ≤ q → LeastNotBefore launch p q f tick → tick ≡ release_tick launch p q f
unfolding release_tick
release_only launch p q f tick positive m =
    let counted = m.counted in
    omega
    (arith, m.least (release_offset p q f) (release_not_before p q f positive), release_least p q f m.offset positive m.not_before)

-- Counted from the launch, the deadline tick is the greatest tick not after f × p / q,
pub deadline_not_after : (p q f : ℕ) → deadline_offset p q f * q ≤ f * p
unfolding deadline_offset
deadline_not_after p q f = div-mul-le_self (f * p) q

pub deadline_greatest : (p q f t : ℕ) → 1 ≤ q → t * q ≤ f * p → t ≤ deadline_offset p q f
unfolding deadline_offset
deadline_greatest p q f t positive within = (le-div_iff_mul-le positive).1 within

pub deadline_meets : (launch p q f : ℕ) → 1 ≤ q → GreatestNotAfter launch p q f (deadline_tick launch p q f)
unfolding deadline_tick
deadline_meets launch p q f positive =
    record {
      offset = deadline_offset p q f;
      counted = refl;
      not_after = deadline_not_after p q f;
      greatest = λ other h. deadline_greatest p q f other positive h;
    }

-- and no other tick is.
pub deadline_only : (launch p q f tick : ℕ) → 1 ≤ q → GreatestNotAfter launch p q f tick → tick ≡ deadline_tick launch p q f
unfolding deadline_tick
deadline_only launch p q f tick positive m =
    let counted = m.counted in
    omega
    (arith, m.greatest (deadline_offset p q f) (deadline_not_after p q f), deadline_greatest p q f m.offset positive m.not_after)

-- Division keeps the order, by 0 too.
div_monotone : (q m n : ℕ) → m ≤ n → m / q ≤ n / q
div_monotone zero m n h = omega (arith, div-zero m)
div_monotone (suc k) m n h =
    let positive : 1 ≤ suc k = omega arith in
    let within : m / suc k * suc k ≤ n = omega (arith, div-mul-le_self m (suc k)) in
    (le-div_iff_mul-le positive).1 within

-- A later frame has no earlier release tick.
pub release_monotone : (launch p q f g : ℕ) → f ≤ g → release_tick launch p q f ≤ release_tick launch p q g
unfolding release_tick release_offset
release_monotone launch p q f g h =
    let ends : f + 1 ≤ g + 1 = omega arith in
    omega (arith, div_monotone q ((f + 1) * p + (q - 1)) ((g + 1) * p + (q - 1)) (omega (arith, mul-le-mul_right p ends)))

-- A later frame has no earlier deadline tick.
pub deadline_monotone : (launch p q f g : ℕ) → f ≤ g → deadline_tick launch p q f ≤ deadline_tick launch p q g
unfolding deadline_tick deadline_offset
deadline_monotone launch p q f g h = omega (arith, div_monotone q (f * p) (g * p) (mul-le-mul_right p h))

-- A multiple of the divisor can be split off before the division.
div_add_multiple : (q m n : ℕ) → 1 ≤ q → n % q ≡ 0 → (m + n) / q ≡ m / q + n / q
div_add_multiple q m n positive multiple =
    let whole : n ≡ n / q * q = omega (arith, div-add-mod' n q) in
    let split : m + n ≡ m + n / q * q = omega arith in
    rw split (add-mul-div_right m (n / q) positive)

-- The release tick of a window lies at most one tick after its deadline tick.
pub release_one_after : (launch p q f g : ℕ) → 1 ≤ q → f < g → release_tick launch p q f ≤ deadline_tick launch p q g + 1
unfolding release_tick deadline_tick deadline_offset
release_one_after launch p q f g positive h =
    let end : f + 1 ≤ g = omega arith in
    let later : (f + 1) * p ≤ g * p = mul-le-mul_right p end in
    let least = release_least p q f (g * p / q + 1) positive (omega (arith, lt-div-mul-add {a = g * p} positive, add-mul (g * p / q) 1 q)) in
    omega arith

-- A window of one frame, from a release in a frame to a deadline in the next, is empty.
pub one_frame_empty : (launch p q f : ℕ) → deadline_tick launch p q (f + 1) ≤ release_tick launch p q f
unfolding release_tick deadline_tick release_offset deadline_offset
one_frame_empty launch p q f = omega (arith, div_monotone q ((f + 1) * p) ((f + 1) * p + (q - 1)) (omega arith))

-- A shift by s frames, where s × p is a multiple of q, shifts the release tick by s × p / q.
pub release_shift : (launch p q f s : ℕ) → 1 ≤ q → (s * p) % q ≡ 0 → release_tick launch p q (f + s) ≡ release_tick launch p q f + s * p / q
unfolding release_tick release_offset
release_shift launch p q f s positive multiple =
    let split : (f + s + 1) * p + (q - 1) ≡ (f + 1) * p + (q - 1) + s * p = omega (arith, add-mul (f + 1) s p) in
    rw split (omega (arith, div_add_multiple q ((f + 1) * p + (q - 1)) (s * p) positive multiple))

-- The same shift of the frame shifts the deadline tick by s × p / q.
pub deadline_shift : (launch p q f s : ℕ) → 1 ≤ q → (s * p) % q ≡ 0 → deadline_tick launch p q (f + s) ≡ deadline_tick launch p q f + s * p / q
unfolding deadline_tick deadline_offset
deadline_shift launch p q f s positive multiple = rw add-mul (omega (arith, div_add_multiple q (f * p) (s * p) positive multiple))

-- the greatest number that the clock divides: the end of the last frame at the longest period, times q, and a number up to 4,095
abbrev greatest : ℕ
greatest = (last_frame + 1) * max_period + max_period

-- A frame times p is at most that, and so is it with a number up to 4,095 added.
pub product_few : {f p : ℕ} → f ≤ last_frame + 1 → p ≤ max_period → f * p ≤ greatest
product_few h small = omega (arith, mul-le-mul h small)

pub sum_few : {f p r : ℕ} → f ≤ last_frame + 1 → p ≤ max_period → r ≤ max_period → f * p + r ≤ greatest
sum_few h small rest = omega (arith, mul-le-mul h small)

-- Such a number fits 32 bits, and so does it divided and with an accepted launch tick added.
pub number_fits : {x : ℕ} → x ≤ greatest → x < 2 ^ 32
number_fits few = omega arith

pub tick_fits : {x launch : ℕ} (q : ℕ) → x ≤ greatest → launch ≤ max_launch → x / q + launch < 2 ^ 32
tick_fits {x} q few low = omega (arith, div-le_self x q)

-- The deadline tick of a frame that a table can name is at most where the last frame begins at the longest period, after the greatest launch tick.
pub deadline_bounded : (launch p q f : ℕ) → launch ≤ max_launch → bad_period p q ≡ false → f ≤ last_frame
    → deadline_tick launch p q f ≤ last_frame * max_period + max_launch
unfolding deadline_tick deadline_offset
deadline_bounded launch p q f low legal h =
    let product : f * p ≤ last_frame * max_period = mul-le-mul h (period_known p q legal).2 in
    omega (arith, div-le_self (f * p) q)

-- Both ticks of such a frame are at most the greatest tick, which fits 32 bits.
pub ticks_bounded : (launch p q f : ℕ) → launch ≤ max_launch → bad_period p q ≡ false → f ≤ last_frame
    → (release_tick launch p q f ≤ last_tick) × (deadline_tick launch p q f ≤ last_tick)
unfolding release_tick
ticks_bounded launch p q f low legal h =
    let period = period_known p q legal in
    let end : f + 1 ≤ last_frame + 1 = omega arith in
    let product : (f + 1) * p ≤ (last_frame + 1) * max_period = mul-le-mul end period.2 in
    let more : (f + 1) * p * 1 ≤ (f + 1) * p * q = mul-le-mul (le_refl ((f + 1) * p)) period.0 in
    let least = release_least p q f ((f + 1) * p) period.0 (omega (arith, more)) in
    (omega arith, omega (arith, deadline_bounded launch p q f low legal h))

pub last_tick_fits : last_tick < 2 ^ 32
last_tick_fits = omega arith

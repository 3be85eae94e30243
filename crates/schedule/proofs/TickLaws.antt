-- Laws of counts, and the pigeonhole: tasks share no tick.
use Prim.Native.Nat.{ℕ, zero, suc, ◌+◌, ◌-◌, ◌≤◌, ◌<◌}
use mathlib.Core.Path.{◌≡◌, refl}
use mathlib.Core.Logic.{◌≢◌}
use mathlib.Core.List.{List, [], ◌∷◌}
use mathlib.Core.Bool.{Bool, true, false}
use mathlib.Core.Option.{Option, none, some}
use native.Mathlib.Omega.{arith}
use native.Mathlib.Numerals.{add-one}
use native.Mathlib.Decide.{le_ind, dec_le}
use lib.Dec.{eqb}
use borrow.Author.Tests.{eqb-true, ne_eqb}
use Rattle.base.proofs.TestLaws.{cases}
use Rattle.schedule.specs.Ticks.{Owner, is_task, one_if, count_below, count_between, ticks_of, sum_below}
use Rattle.base.specs.Members.{All}
use Rattle.base.specs.Arrays.{Distinct}

-- the ticks that some tasks have between a and b, summed
unfoldable pub shares : Owner → List ℕ → ℕ → ℕ → ℕ
shares owner [] a b = 0
shares owner (i ∷ is) a b = ticks_of owner i a b + shares owner is a b

-- a count grows with its end
pub count_grows : (test : ℕ → Bool) (a b : ℕ) → a ≤ b → count_below test a ≤ count_below test b
unfolding sum_below
count_grows test a b h = le_ind (λ n. count_below test a ≤ count_below test n) (omega arith) (λ m k g. omega arith) b h

-- a test counts 1 at most
pub one_most : (test : Bool) → one_if test ≤ 1
one_most true = omega arith
one_most false = omega arith

-- so no more ticks pass than the interval has, and of an empty one none
pub count_fits : (test : ℕ → Bool) (a b : ℕ) → count_between test a b ≤ b - a
unfolding sum_below
count_fits test a b =
    elim (dec_le a b) [
      | yes h ↦ le_ind (λ n. count_between test a n ≤ n - a) (omega arith) (λ m k g. omega (arith, one_most (test m), k, g)) b h
      | no h ↦ omega (arith, count_grows test b a (omega arith))
    ]

-- tests that agree below n have equal counts
pub count_same : (p q : ℕ → Bool) (n : ℕ) → ((t : ℕ) → t < n → p t ≡ q t) → count_below p n ≡ count_below q n
unfolding sum_below
count_same p q zero e = refl
count_same p q (suc n) e = rw (e n (omega arith), count_same p q n (λ t l. e t (omega arith)))

-- where nothing below n passes, the count is 0
pub count_none : (test : ℕ → Bool) (n : ℕ) → ((t : ℕ) → t < n → test t ≡ false) → count_below test n ≡ 0
unfolding sum_below
count_none test zero e = refl
count_none test (suc n) e = rw (e n (omega arith), count_none test n (λ t l. e t (omega arith)))

-- a test that is the sum of two has the sum of their counts
pub count_split : (p q r : ℕ → Bool) → ((t : ℕ) → one_if (p t) ≡ one_if (q t) + one_if (r t)) → (n : ℕ) → count_below p n ≡ count_below q n + count_below r n
unfolding sum_below
count_split p q r e zero = refl
count_split p q r e (suc n) = omega (arith, e n, count_split p q r e n)

-- how many of some tasks have one tick
among : List ℕ → Option ℕ → ℕ
among [] o = 0
among (i ∷ is) o = one_if (is_task i o) + among is o

among_none : (is : List ℕ) → among is none ≡ 0
unfolding among
among_none [] = refl
among_none (i ∷ is) = omega (arith, among_none is)

among_other : (k : ℕ) (is : List ℕ) → All (λ i. k ≢ i) is → among is (some k) ≡ 0
unfolding among
among_other k [] d = refl
among_other k (i ∷ is) d = rw (ne_eqb k i d.0) (omega (arith, among_other k is d.1))

-- different tasks do not share a tick
among_le : (is : List ℕ) → Distinct is → (o : Option ℕ) → among is o ≤ 1
unfolding among
among_le [] d o = omega arith
among_le (i ∷ is) d none = omega (arith, among_none is)
among_le (i ∷ is) d (some k) =
    cases (eqb k i)
    (λ e. rw (e, eqb-true k i e) (omega (arith, among_other i is d.0)))
    (λ e. rw e (omega (arith, among_le is d.1 (some k))))

shares_step : (owner : Owner) (is : List ℕ) (a b : ℕ) → shares owner is a (suc b) ≤ shares owner is a b + among is (owner b)
unfolding shares among sum_below
shares_step owner [] a b = omega arith
shares_step owner (i ∷ is) a b = omega (arith, shares_step owner is a b)

-- an empty interval has no ticks
pub shares_empty : (owner : Owner) (is : List ℕ) (a b : ℕ) → b ≤ a → shares owner is a b ≡ 0
unfolding shares
shares_empty owner [] a b h = refl
shares_empty owner (i ∷ is) a b h =
    omega (arith, shares_empty owner is a b h, count_grows (λ t. is_task i (owner t)) b a h)

-- the pigeonhole: different tasks have no more ticks between a and b than there are
pub shares_fit : (owner : Owner) (is : List ℕ) → Distinct is → (a b : ℕ) → shares owner is a b ≤ b - a
shares_fit owner is d a b =
    elim (dec_le a b) [
      | yes h ↦
          le_ind (λ n. shares owner is a n ≤ n - a)
          (omega (arith, shares_empty owner is a a (omega arith)))
          (λ m k l. omega (arith, shares_step owner is a m, among_le is d (owner m)))
          b h
      | no h ↦ omega (arith, shares_empty owner is a b (omega arith))
    ]

-- one number more: it passes the test, or not
pub count_passed : (test : ℕ → Bool) (n : ℕ) → test n ≡ true → count_below test (n + 1) ≡ count_below test n + 1
unfolding sum_below
count_passed test n e = rw (add-one n, e) (omega arith)

pub count_failed : (test : ℕ → Bool) (n : ℕ) → test n ≡ false → count_below test (n + 1) ≡ count_below test n
unfolding sum_below
count_failed test n e = rw (add-one n, e) (omega arith)

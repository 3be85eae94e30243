-- Ticks, who has them, and how many of them pass a test.
use Rattle.std.specs.Prelude.{ℕ, zero, suc, ◌+◌, ◌-◌, Bool, true, false, eqb}
use Rattle.std.proofs.Math.Option.{Option, none, some}
use Rattle.base.specs.Tests.{pick}

-- each tick has one task, by its position, or none
abbrev pub Owner : Type 0
Owner = ℕ → Option ℕ

-- the owner of a tick is task i
abbrev pub is_task : ℕ → Option ℕ → Bool
is_task i none = false
is_task i (some k) = eqb k i

-- there is an owner
abbrev pub is_owned : Option ℕ → Bool
is_owned none = false
is_owned (some k) = true

-- 1 if a test is passed, and else 0
abbrev pub one_if : Bool → ℕ
one_if test = pick test 1 0

-- the sum of `number k` over all k below n
unfoldable pub sum_below : (ℕ → ℕ) → ℕ → ℕ
sum_below number zero = 0
sum_below number (suc n) = number n + sum_below number n

-- how many of the numbers below n pass a test
abbrev pub count_below : (ℕ → Bool) → ℕ → ℕ
count_below test n = sum_below (λ k. one_if (test k)) n

-- how many of the ticks from a, included, to b, excluded, pass a test: those below b that are not below a, and none where b is not above a
abbrev pub count_between : (ℕ → Bool) → ℕ → ℕ → ℕ
count_between test a b = count_below test b - count_below test a

-- how many of the ticks from a to b task i has
abbrev pub ticks_of : Owner → ℕ → ℕ → ℕ → ℕ
ticks_of owner i a b = count_between (λ tick. is_task i (owner tick)) a b

-- how many of the ticks from a to b have an owner
abbrev pub ticks_owned : Owner → ℕ → ℕ → ℕ
ticks_owned owner a b = count_between (λ tick. is_owned (owner tick)) a b

-- Laws of a word of decisions, into which bits are put from the highest downwards: the bits up to the next one are not set yet.
use Prim.Native.Nat.{ℕ, ◌+◌, ◌-◌, ◌*◌, ◌/◌, ◌%◌, ◌^◌, ◌<◌}
use mathlib.Core.Path.{◌≡◌, sym, ap, ◌∙◌}
use mathlib.Core.Bool.{Bool, true, false}
use native.Mathlib.Nat.{mul_assoc, mul_comm, add-mul, mul-mod_left, mod-eq_of_lt}
use native.Mathlib.Omega.{arith}
use lib.Arith.{digits_lt}
use lib.Dec.{eqb}
use lib.Pow.{split, high, pow-add, pow_pos, pow-lt, shr_lt, shl-shr, shr-shr}
use borrow.Author.Tests.{eq-eqb, ne_eqb}
use Rattle.weighted_choosing.specs.WeightedRows.{bit_set, bit_where}

-- a bit as it is computed
pub bit_is : (i : ℕ) → i < 64 → (1 * 2 ^ i) % 18446744073709551616 ≡ 2 ^ i
bit_is i h = let one : 1 * 2 ^ i ≡ 2 ^ i = omega arith in rw one (mod-eq_of_lt (pow-lt {i = i} {j = 64} h))

-- a power of two is twice the one before it
twice : (i : ℕ) → 2 ^ (i + 1) ≡ 2 * 2 ^ i
twice i = pow-add 2 i 1 ∙ mul_comm (2 ^ i) 2

-- the lowest bit is set exactly where a test holds that put it there
lowest : (above : ℕ) (test : Bool) → eqb ((above * 2 + bit_where test 1) % 2) 1 ≡ test
lowest above true = eq-eqb ((above * 2 + 1) % 2) 1 (omega arith)
lowest above false = ne_eqb ((above * 2 + 0) % 2) 1 (λ e. absurd (omega arith))

-- the word with bit i put where a test holds, in terms of the bits above i as a number
put_is : (above i : ℕ) (test : Bool) → above * 2 ^ (i + 1) + bit_where test (2 ^ i) ≡ (above * 2 + bit_where test 1) * 2 ^ i
put_is above i true = rw (twice i, add-mul (above * 2) 1 (2 ^ i), mul_assoc above 2 (2 ^ i)) (omega arith)
put_is above i false = rw (twice i, add-mul (above * 2) 0 (2 ^ i), mul_assoc above 2 (2 ^ i)) (omega arith)

-- bit i is below the next power
put_less : (i : ℕ) (test : Bool) → bit_where test (2 ^ i) < 2 ^ (i + 1)
put_less i true = rw (twice i) (omega (arith, pow_pos i))
put_less i false = pow_pos (i + 1)

module _ (word i : ℕ) (unset : word % 2 ^ (i + 1) ≡ 0) where
  -- the word is a multiple of the power above bit i
  word-is : word ≡ word / 2 ^ (i + 1) * 2 ^ (i + 1)
  word-is = omega (arith, split word (i + 1))

  -- there is room for bit i
  pub bit_fits : i < 64 → word < 18446744073709551616 → (test : Bool) → word + bit_where test (2 ^ i) < 18446744073709551616
  bit_fits l h test =
      let whole : 63 - i + (i + 1) ≡ 64 = omega arith in
      let top : 2 ^ (63 - i) * 2 ^ (i + 1) ≡ 18446744073709551616 = sym (pow-add 2 (63 - i) (i + 1)) ∙ ap (λ n. 2 ^ n) whole in
      let small : word < 2 ^ (63 - i + (i + 1)) = rw whole h in
      omega (arith, digits_lt (shr_lt {n = word} (63 - i) (i + 1) small) (put_less i test), word-is)

  -- the word with bit i put where a test holds
  sum_is : (test : Bool) → word + bit_where test (2 ^ i) ≡ (word / 2 ^ (i + 1) * 2 + bit_where test 1) * 2 ^ i
  sum_is test = ap (λ n. n + bit_where test (2 ^ i)) word-is ∙ put_is (word / 2 ^ (i + 1)) i test

  -- it is set exactly where the test holds
  pub bit_here : (test : Bool) → bit_set (word + bit_where test (2 ^ i)) i ≡ test
  bit_here test =
      let shifted : (word + bit_where test (2 ^ i)) / 2 ^ i ≡ word / 2 ^ (i + 1) * 2 + bit_where test 1 =
      ap (λ n. n / 2 ^ i) (sum_is test) ∙ shl-shr (word / 2 ^ (i + 1) * 2 + bit_where test 1) i in
      rw shifted (lowest (word / 2 ^ (i + 1)) test)

  -- the bits above it stay
  pub bit_above : (test : Bool) (k : ℕ) → i < k → bit_set (word + bit_where test (2 ^ i)) k ≡ bit_set word k
  bit_above test k l =
      let far : i + 1 + (k - (i + 1)) ≡ k = omega arith in
      let same : (word + bit_where test (2 ^ i)) / 2 ^ (i + 1) ≡ word / 2 ^ (i + 1) =
      ap (λ n. (n + bit_where test (2 ^ i)) / 2 ^ (i + 1)) word-is ∙ high (word / 2 ^ (i + 1)) (i + 1) (put_less i test) in
      let shifted : (word + bit_where test (2 ^ i)) / 2 ^ k ≡ word / 2 ^ k =
      rw far at (sym (shr-shr (word + bit_where test (2 ^ i)) (i + 1) (k - (i + 1))) ∙ (ap (λ n. n / 2 ^ (k - (i + 1))) same ∙ shr-shr word (i + 1) (k - (i + 1)))) in
      rw shifted

  -- and those below it are not set
  pub bit_below : (test : Bool) → (word + bit_where test (2 ^ i)) % 2 ^ i ≡ 0
  bit_below test = ap (λ n. n % 2 ^ i) (sum_is test) ∙ mul-mod_left (word / 2 ^ (i + 1) * 2 + bit_where test 1) (2 ^ i)

  -- where nothing is put, too
  pub none_below : word % 2 ^ i ≡ 0
  none_below = let none : word + 0 ≡ word = omega arith in rw none at (bit_below false)

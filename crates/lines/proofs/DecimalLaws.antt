-- Laws of decimal digits.
use Prim.Native.Nat.{ℕ, zero, suc, ◌+◌, ◌-◌, ◌*◌, ◌/◌, ◌%◌, ◌^◌, ◌≤◌, ◌<◌}
use mathlib.Core.Path.{◌≡◌, refl, sym, ap, ◌∙◌}
use mathlib.Core.List.{List, [], ◌∷◌, ◌++◌}
use native.Mathlib.Nat.{mod-eq_of_lt}
use native.Mathlib.Decide.{dec_lt}
use native.Mathlib.Omega.{arith}
use lib.ListN.{length, get_or, length-append, get_or-append}
use borrow.Author.Tests.{lt-ltb, le-ltb}
use Rattle.base.specs.Members.{All}
use Rattle.lines.specs.Text.{digit, decimal_within, decimal}
use Rattle.lines.specs.Splitting.{value_after}
use Rattle.base.proofs.MemberLaws.{all_append}

-- a number below 10 is its digit
within_low : (more n : ℕ) → n < 10 → decimal_within more n ≡ digit n ∷ []
unfolding decimal_within
within_low zero n h = rw (mod-eq_of_lt h)
within_low (suc more) n h = rw (lt-ltb n 10 h)

-- another has the digits of its tenth and then its last
within_high : (more n : ℕ) → 10 ≤ n → decimal_within (suc more) n ≡ decimal_within more (n / 10) ++ digit (n % 10) ∷ []
unfolding decimal_within
within_high more n h = rw (le-ltb n 10 h)

-- room for more digits than a number has changes nothing
within_more : (more n : ℕ) → n < 10 ^ suc more → decimal_within (suc more) n ≡ decimal_within more n
within_more zero n h = within_low 1 n (omega arith) ∙ sym (within_low 0 n (omega arith))
within_more (suc more) n h =
    elim (dec_lt n 10) [
      | yes l ↦ within_low (suc (suc more)) n l ∙ sym (within_low (suc more) n l)
      | no l ↦
          within_high (suc more) n (omega arith)
          ∙ (ap (λ (digits : List ℕ). digits ++ digit (n % 10) ∷ []) (within_more more (n / 10) (omega arith)) ∙ sym (within_high more n (omega arith)))
    ]

-- so of all the digits: the last one, and those of the tenth where it is not 0
pub decimal_low : (n : ℕ) → n < 10 → decimal n ≡ digit (n % 10) ∷ []
unfolding decimal
decimal_low n h = within_low 19 n h ∙ rw (mod-eq_of_lt h)

pub decimal_high : (n : ℕ) → 10 ≤ n → n < 10 ^ 20 → decimal n ≡ decimal (n / 10) ++ digit (n % 10) ∷ []
unfolding decimal
decimal_high n h l =
    within_high 18 n h ∙ ap (λ (digits : List ℕ). digits ++ digit (n % 10) ∷ []) (sym (within_more 18 (n / 10) (omega arith)))

pub longer_by_one : (n : ℕ) → 10 ≤ n → n < 10 ^ 20 → length (decimal n) ≡ length (decimal (n / 10)) + 1
longer_by_one n h l = ap length (decimal_high n h l) ∙ length-append (decimal (n / 10)) (digit (n % 10) ∷ [])

-- there are at most 20 digits
within_length : (more n : ℕ) → length (decimal_within more n) ≤ suc more
unfolding decimal_within
within_length zero n = omega arith
within_length (suc more) n =
    elim (dec_lt n 10) [
      | yes l ↦ rw (within_low (suc more) n l) (omega arith)
      | no l ↦ rw (within_high more n (omega arith)) (omega (arith, length-append (decimal_within more (n / 10)) (digit (n % 10) ∷ []), within_length more (n / 10)))
    ]

pub decimal_length : (n : ℕ) → length (decimal n) ≤ 20
unfolding decimal
decimal_length n = within_length 19 n

-- the value of digits that stand behind others
pub value_append : (high : ℕ) (a b : List ℕ) → value_after high (a ++ b) ≡ value_after (value_after high a) b
unfolding value_after
value_append high [] b = refl
value_append high (byte ∷ a) b = value_append (10 * high + (byte - 48)) a b

-- digits behind others make no number smaller
pub value_grows : (high : ℕ) (bytes : List ℕ) → high ≤ value_after high bytes
unfolding value_after
value_grows high [] = omega arith
value_grows high (byte ∷ bytes) = omega (arith, value_grows (10 * high + (byte - 48)) bytes)

-- a number's digits mean the number, each is a digit, and the first is 0 only where the number is
pub record Digits (n : ℕ) (bytes : List ℕ) : Type 0 where
  pub value : value_after 0 bytes ≡ n
  pub each : All (λ byte. (48 ≤ byte) × (byte ≤ 57)) bytes
  pub some : 0 < length bytes
  pub first : 0 < n → 48 < get_or bytes 0 0

digits_low : (n : ℕ) → n < 10 → Digits n (digit n ∷ [])
unfolding value_after
digits_low n h = record { value = omega arith; each = (omega arith, tt); some = omega arith; first = λ z. omega arith }

digits_high : (n : ℕ) (bytes : List ℕ) → 10 ≤ n → Digits (n / 10) bytes → Digits n (bytes ++ digit (n % 10) ∷ [])
unfolding value_after
digits_high n bytes h d =
    record {
      value = value_append 0 bytes (digit (n % 10) ∷ []) ∙ rw d.value (omega arith);
      each = all_append (λ byte. (48 ≤ byte) × (byte ≤ 57)) bytes (digit (n % 10) ∷ []) d.each ((omega arith, omega arith), tt);
      some = omega (arith, length-append bytes (digit (n % 10) ∷ []));
      first = λ z. rw (get_or-append bytes (digit (n % 10) ∷ []) 0 0 d.some) (d.first (omega arith));
    }

within_digits : (more n : ℕ) → n < 10 ^ suc more → Digits n (decimal_within more n)
within_digits zero n h = rw (within_low 0 n (omega arith)) (digits_low n (omega arith))
within_digits (suc more) n h =
    elim (dec_lt n 10) [
      | yes l ↦ rw (within_low (suc more) n l) (digits_low n l)
      | no l ↦ rw (within_high more n (omega arith)) (digits_high n (decimal_within more (n / 10)) (omega arith) (within_digits more (n / 10) (omega arith)))
    ]

-- The decimal digits of every number of 64 bits.
pub decimal_digits : (n : ℕ) → n < 10 ^ 20 → Digits n (decimal n)
unfolding decimal
decimal_digits n h = within_digits 19 n h

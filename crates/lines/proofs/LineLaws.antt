-- Laws of lines: their length, and what is left of the fields at a place of the list that they are printed from.
use Prim.Native.Nat.{ℕ, ◌+◌, ◌*◌, ◌≤◌, ◌<◌}
use mathlib.Core.Path.{◌≡◌, refl}
use mathlib.Core.List.{List, [], ◌∷◌, ◌++◌}
use native.Mathlib.Numerals.{add-one}
use native.Mathlib.Omega.{arith}
use lib.ListN.{length, get_or, drop, length-append, drop_of_length-le}
use lib.Seq.{drop-cons}
use Rattle.lines.specs.Text.{space, newline, decimal, fields, line}
use Rattle.lines.proofs.DecimalLaws.{decimal_length}

-- the parts of a line
pub line_length : (word numbers : List ℕ) → length (line word numbers) ≡ length word + length (fields numbers) + 1
unfolding line
line_length word numbers = omega (arith, length-append (word ++ fields numbers) (newline ∷ []), length-append word (fields numbers))

-- a number takes at most 21 bytes with its space
pub fields_length : (numbers : List ℕ) → length (fields numbers) ≤ 21 * length numbers
unfolding fields
fields_length [] = omega arith
fields_length (n ∷ numbers) = omega (arith, length-append (decimal n) (fields numbers), decimal_length n, fields_length numbers)

-- a line of a word and its numbers
pub line_few : (word numbers : List ℕ) → length (line word numbers) ≤ length word + 21 * length numbers + 1
line_few word numbers = omega (arith, line_length word numbers, fields_length numbers)

-- the fields of the numbers from place i on
unfoldable pub fields_left : List ℕ → ℕ → List ℕ
fields_left numbers i = fields (drop i numbers)

pub fields_start : (numbers : List ℕ) → fields numbers ≡ fields_left numbers 0
unfolding fields_left
fields_start numbers = refl

pub fields_step : (numbers : List ℕ) (i : ℕ) → i < length numbers → fields_left numbers i ≡ (space ∷ decimal (get_or numbers i 0)) ++ fields_left numbers (i + 1)
unfolding fields_left fields
fields_step numbers i h = rw (drop-cons numbers i 0 h, add-one i)

pub fields_end : (numbers : List ℕ) (i : ℕ) → length numbers ≤ i → fields_left numbers i ≡ []
unfolding fields_left fields
fields_end numbers i h = rw (drop_of_length-le numbers {i = i} h)

-- Taking a text apart: into its lines, a line into its words, and a word into the number that it means.
use Rattle.std.specs.Prelude.{ℕ, ◌+◌, ◌-◌, ◌*◌, Bool, List, [], ◌∷◌, map, leb, eqb}
use Rattle.base.specs.Tests.{pick, and, or}
use Rattle.base.specs.Members.{every_member}
use Rattle.lines.specs.Text.{space, newline, digit}

-- the blanks: space, tab and carriage return
unfoldable pub is_blank : ℕ → Bool
is_blank byte = or (eqb byte space) (or (eqb byte 9) (eqb byte 13))

-- the digits 0 to 9
unfoldable pub is_digit : ℕ → Bool
is_digit byte = and (leb (digit 0) byte) (leb byte (digit 9))

-- pieces of which the first begins with one byte more
unfoldable pub with_first : ℕ → List (List ℕ) → List (List ℕ)
with_first byte [] = (byte ∷ []) ∷ []
with_first byte (piece ∷ pieces) = (byte ∷ piece) ∷ pieces

-- a text cut at each byte that passes a test: what stands before the first such byte, between two of them, and behind the last
unfoldable pub cut_at : (ℕ → Bool) → List ℕ → List (List ℕ)
cut_at test [] = [] ∷ []
cut_at test (byte ∷ text) = pick (test byte) ([] ∷ cut_at test text) (with_first byte (cut_at test text))

-- the pieces that are not empty
unfoldable pub nonempty : List (List ℕ) → List (List ℕ)
nonempty [] = []
nonempty ([] ∷ pieces) = nonempty pieces
nonempty ((byte ∷ piece) ∷ pieces) = (byte ∷ piece) ∷ nonempty pieces

-- the lines of a text: a newline ends one and begins the next
unfoldable pub lines_of : List ℕ → List (List ℕ)
lines_of text = cut_at (λ byte. eqb byte newline) text

-- the words of a line: what stands between blanks
unfoldable pub words_of : List ℕ → List (List ℕ)
words_of line = nonempty (cut_at is_blank line)

-- the number that decimal digits mean, behind digits that mean `high`
unfoldable pub value_after : ℕ → List ℕ → ℕ
value_after high [] = high
value_after high (byte ∷ bytes) = value_after (10 * high + (byte - digit 0)) bytes

-- the number that a word of digits means
unfoldable pub value_of : List ℕ → ℕ
value_of word = value_after 0 word

-- every byte of a word is a digit
abbrev pub all_digits : List ℕ → Bool
all_digits = every_member is_digit

-- the greatest number that a word may mean
abbrev pub max_number : ℕ
max_number = 999_999_999

-- a word is a number: digits alone, which mean at most 999,999,999
unfoldable pub is_number : List ℕ → Bool
is_number word = and (all_digits word) (leb (value_of word) max_number)

-- every word of a list is a number
abbrev pub all_numbers : List (List ℕ) → Bool
all_numbers = every_member is_number

-- the numbers of a line's words
unfoldable pub numbers_of : List ℕ → List ℕ
numbers_of line = map value_of (words_of line)

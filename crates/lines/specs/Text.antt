-- Lines of text, as bytes: decimal numbers with one space between them, and a newline at the end. What is printed is made of them, and what is parsed
-- is taken apart into them.
use Rattle.std.specs.Prelude.{ℕ, zero, suc, ◌+◌, ◌/◌, ◌%◌, List, [], ◌∷◌, ◌++◌, ltb}
use Rattle.base.specs.Tests.{pick}

-- the bytes in ASCII: a space, a newline, a digit
abbrev pub space : ℕ
space = 32

abbrev pub newline : ℕ
newline = 10

abbrev pub digit : ℕ → ℕ
digit d = 48 + d

-- a number's decimal digits, most significant first and with no zero in front; at most one more than `more`, the last ones of a longer number
unfoldable pub decimal_within : ℕ → ℕ → List ℕ
decimal_within zero n = digit (n % 10) ∷ []
decimal_within (suc more) n = pick (ltb n 10) (digit n ∷ []) (decimal_within more (n / 10) ++ digit (n % 10) ∷ [])

-- the decimal digits of a number below 10 ^ 20, and so of every number of 64 bits
unfoldable pub decimal : ℕ → List ℕ
decimal n = decimal_within 19 n

-- the most bytes of a number in a line: 20 digits, and the byte beside them
abbrev pub max_field : ℕ
max_field = 20 + 1

-- the fields of a line: before each number a space
unfoldable pub fields : List ℕ → List ℕ
fields [] = []
fields (n ∷ numbers) = space ∷ decimal n ++ fields numbers

-- a line: a word, its numbers, a newline
unfoldable pub line : List ℕ → List ℕ → List ℕ
line word numbers = word ++ fields numbers ++ newline ∷ []

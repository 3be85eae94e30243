-- Bit-packed fields of a byte string, most significant bit first.
use Rattle.std.specs.Prelude.{ℕ, zero, suc, ◌+◌, ◌-◌, ◌*◌, ◌/◌, ◌%◌, ◌^◌, ◌<◌, List, [], ◌∷◌, length, get_or}

-- every number of the list is a byte
abbrev pub Bytes : List ℕ → Type 0
Bytes s = (k : ℕ) → get_or s k 0 < 256

-- bit k of a byte string: the most significant bit of each byte comes first, and beyond the end every bit is 0
unfoldable pub bit_at : List ℕ → ℕ → ℕ
bit_at s k = get_or s (k / 8) 0 / 2 ^ (7 - k % 8) % 2

-- the number whose `width` binary digits, most significant first, are the bits from `start` on
unfoldable pub number : (ℕ → ℕ) → ℕ → ℕ → ℕ
number bit start zero = 0
number bit start (suc width) = 2 * number bit start width + bit (start + width)

-- the field of `width` bits that begins at bit `start` of a byte string
unfoldable pub field : List ℕ → ℕ → ℕ → ℕ
field s start width = number (bit_at s) start width

-- the `width` bits of a value, most significant first
unfoldable pub bits_of : ℕ → ℕ → List ℕ
bits_of zero value = []
bits_of (suc width) value = value / 2 ^ width % 2 ∷ bits_of width value

-- the bit at index k of a list of bits, and 0 beyond its end
unfoldable pub bit_in : List ℕ → ℕ → ℕ
bit_in bits k = get_or bits k 0

-- `count` bytes, from byte `first` on, of a string of bits
unfoldable pub bytes_from : (ℕ → ℕ) → ℕ → ℕ → List ℕ
bytes_from bit first zero = []
bytes_from bit first (suc count) = number bit (8 * first) 8 ∷ bytes_from bit (suc first) count

-- how many bytes hold a number of bits
unfoldable pub bytes_for : ℕ → ℕ
bytes_for bits = (bits + 7) / 8

-- bits packed into bytes; the rest of the last byte is zero
unfoldable pub pack : List ℕ → List ℕ
pack bits = bytes_from (bit_in bits) 0 (bytes_for (length bits))

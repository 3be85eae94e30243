-- The laws of bit-packed fields.
use Prim.Native.Nat.{ℕ, zero, suc, ◌+◌, ◌-◌, ◌*◌, ◌/◌, ◌%◌, ◌^◌, ◌≤◌, ◌<◌}
use mathlib.Core.Path.{◌≡◌, refl, sym, ap, ◌∙◌}
use mathlib.Core.List.{List, [], ◌∷◌, ◌++◌}
use mathlib.Core.Logic.{inl, inr}
use native.Mathlib.Nat.{add-zero, add-suc, add_assoc, add-sub_of_le, suc-add, suc_inj, zero-add, sub-zero, sub_self, div-one, div-eq_of_lt, pow-suc, eq-or-lt_of_le, le_of_suc-le-suc, not-suc-le-zero}
use native.Mathlib.Decide.{dec_le}
use native.Mathlib.Omega.{arith}
use lib.ListN.{length, get_or, get_or-append, get_or-eq_default}
use lib.Pow.{high, shr-shr}
use lib.Seq.{ext_get_or, get_or-append-add}
use Rattle.bits.specs.Bits.{Bytes, bit_at, number, field, bits_of, bit_in, bytes_from, bytes_for, pack}

-- Every bit of a string of bits is 0 or 1.
abbrev pub Binary : (ℕ → ℕ) → Type 0
Binary bit = (k : ℕ) → bit k ≤ 1

-- Numbers with equal digits are equal.
pub number_ext : (f g : ℕ → ℕ) (a b w : ℕ) → ((k : ℕ) → k < w → f (a + k) ≡ g (b + k)) → number f a w ≡ number g b w
unfolding number
number_ext f g a b zero same = refl
number_ext f g a b (suc w) same = omega (arith, number_ext f g a b w (λ k h. same k (omega arith)), same w (omega arith))

-- A number of v + w digits is its first v digits, then its last w.
pub number_add : (f : ℕ → ℕ) (a v w : ℕ) → number f a (v + w) ≡ number f a v * 2 ^ w + number f (a + v) w
unfolding number
number_add f a v zero = rw (add-zero v) (omega arith)
number_add f a v (suc w) = rw (add-suc v w, pow-suc 2 w, ← add_assoc a v w) (omega (arith, number_add f a v w))

-- A number of w binary digits is below 2 ^ w.
pub number_lt : (f : ℕ → ℕ) → Binary f → (a w : ℕ) → number f a w < 2 ^ w
unfolding number
number_lt f bit a zero = omega arith
number_lt f bit a (suc w) = omega (arith, number_lt f bit a w, bit (a + w))

-- A number whose digits are 0 is 0.
pub number_zero : (f : ℕ → ℕ) (a w : ℕ) → ((k : ℕ) → k < w → f (a + k) ≡ 0) → number f a w ≡ 0
unfolding number
number_zero f a zero none = refl
number_zero f a (suc w) none = omega (arith, number_zero f a w (λ k h. none k (omega arith)), none w (omega arith))

-- The digits of 0 are 0.
pub zero_number : (f : ℕ → ℕ) (a w : ℕ) → number f a w ≡ 0 → (k : ℕ) → k < w → f (a + k) ≡ 0
unfolding number
zero_number f a zero none k h = absurd (not-suc-le-zero h)
zero_number f a (suc w) none k h =
    elim (eq-or-lt_of_le h) [ inl e ↦ rw (suc_inj e) (omega arith) | inr l ↦ zero_number f a w (omega arith) k (le_of_suc-le-suc l) ]

-- A digit of a number, from the v digits after it.
number_digit : (f : ℕ → ℕ) → Binary f → (a j v : ℕ) → number f a (suc j + v) / 2 ^ v % 2 ≡ f (a + j)
unfolding number
number_digit f bit a j v =
    rw (number_add f a (suc j) v, high (number f a (suc j)) v (number_lt f bit (a + suc j) v)) (omega (arith, bit (a + j)))

-- A digit of a number, by its place from the front.
pub number_at : (f : ℕ → ℕ) → Binary f → (a w j : ℕ) → j < w → number f a w / 2 ^ (w - 1 - j) % 2 ≡ f (a + j)
number_at f bit a w j h =
    let e : w ≡ suc j + (w - 1 - j) = omega arith in
    ap (λ x. number f a x / 2 ^ (w - 1 - j) % 2) e ∙ number_digit f bit a j (w - 1 - j)

-- The first j digits of a number x of w digits.
pub number_prefix : (f : ℕ → ℕ) (a w x : ℕ) → x < 2 ^ w → ((k : ℕ) → k < w → f (a + k) ≡ x / 2 ^ (w - 1 - k) % 2)
    → (j : ℕ) → j ≤ w → number f a j ≡ x / 2 ^ (w - j)
unfolding number
number_prefix f a w x fits digits zero h = rw sub-zero (sym (div-eq_of_lt fits))
number_prefix f a w x fits digits (suc j) h =
    let below : w - 1 - j ≡ w - suc j = omega arith in
    let above : w - j ≡ w - suc j + 1 = omega arith in
    let first : number f a j ≡ x / 2 ^ (w - suc j) / 2 = number_prefix f a w x fits digits j (omega arith) ∙ rw (above, ← shr-shr x (w - suc j) 1) in
    let last : f (a + j) ≡ x / 2 ^ (w - suc j) % 2 = digits j h ∙ rw below in
    omega arith

-- Each bit of a byte string is 0 or 1.
pub bit_at-le : (s : List ℕ) → Binary (bit_at s)
unfolding bit_at
bit_at-le s k = omega arith

-- A field of w bits is below 2 ^ w.
pub field_lt : (s : List ℕ) (a w : ℕ) → field s a w < 2 ^ w
unfolding field
field_lt s a w = number_lt (bit_at s) (bit_at-le s) a w

-- Bit j of byte i.
pub bit_at-byte : (s : List ℕ) (i j : ℕ) → j < 8 → bit_at s (8 * i + j) ≡ get_or s i 0 / 2 ^ (7 - j) % 2
unfolding bit_at
bit_at-byte s i j h =
    let e : (8 * i + j) / 8 ≡ i = omega arith in
    let m : (8 * i + j) % 8 ≡ j = omega arith in
    rw (e, m)

-- The first j bits of byte i are its high digits.
pub byte_prefix : (s : List ℕ) (i j : ℕ) → get_or s i 0 < 256 → j ≤ 8 → field s (8 * i) j ≡ get_or s i 0 / 2 ^ (8 - j)
unfolding field
byte_prefix s i j byte h = number_prefix (bit_at s) (8 * i) 8 (get_or s i 0) byte (bit_at-byte s i) j h

-- The eight bits of byte i are the byte.
pub byte_whole : (s : List ℕ) (i : ℕ) → get_or s i 0 < 256 → field s (8 * i) 8 ≡ get_or s i 0
byte_whole s i byte = byte_prefix s i 8 byte (omega arith) ∙ omega arith

-- As many bytes as asked.
pub bytes_from-length : (f : ℕ → ℕ) (i n : ℕ) → length (bytes_from f i n) ≡ n
unfolding bytes_from
bytes_from-length f i zero = refl
bytes_from-length f i (suc n) = ap suc (bytes_from-length f (suc i) n)

-- Byte k is the number of its eight bits.
pub bytes_from-at : (f : ℕ → ℕ) (i n k : ℕ) → k < n → get_or (bytes_from f i n) k 0 ≡ number f (8 * (i + k)) 8
unfolding bytes_from
bytes_from-at f i zero k h = absurd (not-suc-le-zero h)
bytes_from-at f i (suc n) zero h = rw add-zero
bytes_from-at f i (suc n) (suc k) h = rw (add-suc, ← suc-add) (bytes_from-at f (suc i) n k (le_of_suc-le-suc h))

-- The same of bytes from the first on.
bytes_at : (f : ℕ → ℕ) (n k : ℕ) → k < n → get_or (bytes_from f 0 n) k 0 ≡ number f (8 * k) 8
bytes_at f n k h = bytes_from-at f 0 n k h ∙ rw zero-add

-- The bits of the bytes are the bits that were packed.
pub bytes_from-bit : (f : ℕ → ℕ) → Binary f → (n k : ℕ) → k < 8 * n → bit_at (bytes_from f 0 n) k ≡ f k
unfolding bit_at
bytes_from-bit f bit n k h =
    rw (bytes_at f n (k / 8) (omega arith)) (number_at f bit (8 * (k / 8)) 8 (k % 8) (omega arith) ∙ ap f (omega arith))

-- The bits of a byte string, packed, are the byte string.
pub bytes_from-same : (s : List ℕ) → Bytes s → bytes_from (bit_at s) 0 (length s) ≡ s
unfolding field
bytes_from-same s bytes =
    ext_get_or 0 (bytes_from (bit_at s) 0 (length s)) s (bytes_from-length (bit_at s) 0 (length s)) (λ k h.
    bytes_at (bit_at s) (length s) k (rw bytes_from-length at h) ∙ byte_whole s k (bytes k))

-- Equal bits give equal bytes.
pub bytes_from-ext : (f g : ℕ → ℕ) (n : ℕ) → ((k : ℕ) → k < 8 * n → f k ≡ g k) → bytes_from f 0 n ≡ bytes_from g 0 n
bytes_from-ext f g n same =
    ext_get_or 0 (bytes_from f 0 n) (bytes_from g 0 n) (rw (bytes_from-length f 0 n, bytes_from-length g 0 n)) (λ k h.
    let l : k < n = rw bytes_from-length at h in
    rw (bytes_at f n k l, bytes_at g n k l) (number_ext f g (8 * k) (8 * k) 8 (λ j m. same (8 * k + j) (omega arith))))

-- A value has as many bits as asked.
pub bits_of-length : (w v : ℕ) → length (bits_of w v) ≡ w
unfolding bits_of
bits_of-length zero v = refl
bits_of-length (suc w) v = ap suc (bits_of-length w v)

-- Each bit of a value is 0 or 1.
pub bits_of-le : (w v : ℕ) → Binary (bit_in (bits_of w v))
unfolding bit_in bits_of
bits_of-le zero v k = omega arith
bits_of-le (suc w) v zero = omega arith
bits_of-le (suc w) v (suc k) = bits_of-le w v k

-- Bit j of the w bits of a value.
pub bits_of-at : (w v j : ℕ) → j < w → bit_in (bits_of w v) j ≡ v / 2 ^ (w - 1 - j) % 2
unfolding bit_in bits_of
bits_of-at zero v j h = absurd (not-suc-le-zero h)
bits_of-at (suc w) v zero h =
    let e : suc w - 1 - 0 ≡ w = omega arith in
    rw e
bits_of-at (suc w) v (suc j) h =
    let e : suc w - 1 - suc j ≡ w - 1 - j = omega arith in
    rw e (bits_of-at w v j (le_of_suc-le-suc h))

-- The bits of a value, read as a number, are the value.
pub bits_of-number : (w v : ℕ) → v < 2 ^ w → number (bit_in (bits_of w v)) 0 w ≡ v
bits_of-number w v fits =
    number_prefix (bit_in (bits_of w v)) 0 w v fits (λ k h. rw zero-add (bits_of-at w v k h)) w (omega arith) ∙ rw (sub_self, div-one)

-- The bits of a number are the bits that it was read from.
pub number_bits : (f : ℕ → ℕ) → Binary f → (a w j : ℕ) → j < w → bit_in (bits_of w (number f a w)) j ≡ f (a + j)
number_bits f bit a w j h = bits_of-at w (number f a w) j h ∙ number_at f bit a w j h

-- A bit of the first of two lists of bits.
pub bit_in-left : (a b : List ℕ) (k : ℕ) → k < length a → bit_in (a ++ b) k ≡ bit_in a k
unfolding bit_in
bit_in-left a b k h = get_or-append a b 0 k h

-- A bit of the second.
pub bit_in-right : (a b : List ℕ) (k : ℕ) → bit_in (a ++ b) (length a + k) ≡ bit_in b k
unfolding bit_in
bit_in-right a b k = get_or-append-add a b k 0

-- Beyond the end every bit is 0.
pub bit_in-end : (a : List ℕ) (k : ℕ) → length a ≤ k → bit_in a k ≡ 0
unfolding bit_in
bit_in-end a k h = get_or-eq_default a 0 h

-- One bit is a list of bits.
pub bit_in-one : (b : ℕ) → b ≤ 1 → Binary (bit_in (b ∷ []))
unfolding bit_in
bit_in-one b h zero = h
bit_in-one b h (suc k) = omega arith

-- Two lists of bits, joined, are a list of bits.
pub bit_in-append-le : (a b : List ℕ) → Binary (bit_in a) → Binary (bit_in b) → Binary (bit_in (a ++ b))
bit_in-append-le a b bits more k =
    elim (dec_le (length a) k) [
      | yes h ↦ omega (arith, more (k - length a), bit_in-right a b (k - length a), ap (bit_in (a ++ b)) (add-sub_of_le h))
      | no h ↦ rw (bit_in-left a b k (omega arith)) (bits k)
    ]

-- How many bytes packed bits take.
pub pack_length : (bits : List ℕ) → length (pack bits) ≡ bytes_for (length bits)
unfolding pack
pack_length bits = bytes_from-length (bit_in bits) 0 (bytes_for (length bits))

-- A byte of packed bits is the number of its eight bits.
pub pack_at : (bits : List ℕ) (k : ℕ) → k < bytes_for (length bits) → get_or (pack bits) k 0 ≡ number (bit_in bits) (8 * k) 8
unfolding pack
pack_at bits k h = bytes_at (bit_in bits) (bytes_for (length bits)) k h

-- A bit of packed bits is the bit that was packed.
pub pack_bit : (bits : List ℕ) → Binary (bit_in bits) → (k : ℕ) → k < 8 * bytes_for (length bits) → bit_at (pack bits) k ≡ bit_in bits k
unfolding pack
pack_bit bits bit k h = bytes_from-bit (bit_in bits) bit (bytes_for (length bits)) k h

-- A byte string that has the bits of a list is the list, packed.
pub pack_same : (s bits : List ℕ) → Bytes s → length s ≡ bytes_for (length bits) → ((k : ℕ) → k < 8 * length s → bit_in bits k ≡ bit_at s k) → pack bits ≡ s
unfolding pack
pack_same s bits bytes size same = rw (← size) (bytes_from-ext (bit_in bits) (bit_at s) (length s) same ∙ bytes_from-same s bytes)

-- The bits of a field that is 0 are 0.
pub field_zero : (s : List ℕ) (a w : ℕ) → field s a w ≡ 0 → (k : ℕ) → k < w → bit_at s (a + k) ≡ 0
unfolding field
field_zero s a w none k h = zero_number (bit_at s) a w none k h

-- A field whose bits are 0 is 0.
pub zero_field : (s : List ℕ) (a w : ℕ) → ((k : ℕ) → k < w → bit_at s (a + k) ≡ 0) → field s a w ≡ 0
unfolding field
zero_field s a w none = number_zero (bit_at s) a w none

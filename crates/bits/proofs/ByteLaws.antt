-- The laws of a field read or put byte by byte: each piece lies within one byte.
use Prim.Native.Nat.{ℕ, zero, suc, ◌+◌, ◌-◌, ◌*◌, ◌/◌, ◌%◌, ◌^◌, ◌≤◌, ◌<◌}
use mathlib.Core.Path.{◌≡◌, refl, sym, ap, ◌∙◌}
use mathlib.Core.List.{List, ◌++◌}
use native.Mathlib.Nat.{zero-add, suc-add, add_comm, pow-zero, pow-suc, div-one, one-mul, mod-lt, mod-eq_of_lt}
use native.Mathlib.Omega.{arith}
use lib.Arith.{digits_lt}
use lib.ListN.{length, get_or, set}
use lib.Pow.{low, high, shl_exact, pow_mono, pow-lt, pow_pos, shl_lt, shl-shr, shr-shr, pow-add, mod-pow-add, mod-mod-pow}
use lib.Pow as pow
use lib.Seq.{get_or-set_same, set-set}
use Rattle.bits.specs.Bits.{bit_at, field, bits_of}
use Rattle.bits.specs.PutBits.{put_bit, put_bits}
use Rattle.bits.proofs.BitsLaws.{number_add, field_lt, byte_prefix, byte_whole, bits_of-length}
use Rattle.bits.proofs.PackLaws.{put_bit-length, put_bits-append}

-- A field of v + w bits is its first v bits, then its last w.
pub field_add : (s : List ℕ) (a v w : ℕ) → field s a (v + w) ≡ field s a v * 2 ^ w + field s (a + v) w
unfolding field
field_add s a v w = number_add (bit_at s) a v w

-- A field within one byte.
pub field_piece : (s : List ℕ) (a w : ℕ) → get_or s (a / 8) 0 < 256 → a % 8 + w ≤ 8
    → field s a w ≡ get_or s (a / 8) 0 / 2 ^ (8 - a % 8 - w) % 2 ^ w
field_piece s a w byte h =
    let i : ℕ = a / 8 in
    let j : ℕ = a % 8 in
    let split : a ≡ 8 * i + j = omega arith in
    let behind : 8 - j - w ≡ 8 - (j + w) = omega arith in
    let whole : get_or s i 0 / 2 ^ (8 - j - w) ≡ field s (8 * i) j * 2 ^ w + field s (8 * i + j) w =
    rw (behind, ← byte_prefix s i (j + w) byte h) (field_add s (8 * i) j w) in
    rw whole (ap (λ x. field s x w) split ∙ sym (low (field s (8 * i) j) w (field_lt s (8 * i + j) w)))

-- A field that lies within a wider one, v bits behind its start and x bits before its end.
pub field_within : (s : List ℕ) (a v w x : ℕ) → field s (a + v) w ≡ field s a (v + w + x) / 2 ^ x % 2 ^ w
field_within s a v w x =
    let front : field s a (v + w + x) / 2 ^ x ≡ field s a v * 2 ^ w + field s (a + v) w =
    rw (field_add s a (v + w) x, high (field s a (v + w)) x (field_lt s (a + (v + w)) x)) (field_add s a v w) in
    rw front (sym (low (field s a v) w (field_lt s (a + v) w)))

-- Bytes from byte k on as one number: one byte more.
byte_more : (s : List ℕ) (k n : ℕ) → get_or s (k + n) 0 < 256 → field s (8 * k) (8 * n + 8) ≡ field s (8 * k) (8 * n) * 256 + get_or s (k + n) 0
byte_more s k n small =
    let at : 8 * k + 8 * n ≡ 8 * (k + n) = omega arith in
    rw (← byte_whole s (k + n) small, ← at) (field_add s (8 * k) (8 * n) 8)

-- Four bytes as one number, and eight.
pub four_field : (s : List ℕ) (k : ℕ) → ((i : ℕ) → get_or s i 0 < 256)
    → get_or s k 0 * 16777216 + get_or s (k + 1) 0 * 65536 + get_or s (k + 2) 0 * 256 + get_or s (k + 3) 0 ≡ field s (8 * k) 32
four_field s k small =
    omega (arith, byte_whole s k (small k), byte_more s k 1 (small (k + 1)), byte_more s k 2 (small (k + 2)), byte_more s k 3 (small (k + 3)))

pub eight_field : (s : List ℕ) (k : ℕ) → ((i : ℕ) → get_or s i 0 < 256)
    → get_or s k 0 * 72057594037927936 + get_or s (k + 1) 0 * 281474976710656 + get_or s (k + 2) 0 * 1099511627776 + get_or s (k + 3) 0 * 4294967296
    + get_or s (k + 4) 0 * 16777216 + get_or s (k + 5) 0 * 65536 + get_or s (k + 6) 0 * 256 + get_or s (k + 7) 0 ≡ field s (8 * k) 64
eight_field s k small =
    omega (
      arith,
      four_field s k small,
      byte_more s k 4 (small (k + 4)),
      byte_more s k 5 (small (k + 5)),
      byte_more s k 6 (small (k + 6)),
      byte_more s k 7 (small (k + 7)),
    )

-- A number of 64 bits, A then B, shifted up by as many bits as A has: A is lost.
shifted_up : (A B v r : ℕ) → B < 2 ^ r → v + r ≡ 64 → ((A * 2 ^ r + B) * 2 ^ v) % 18446744073709551616 ≡ B * 2 ^ v
shifted_up A B v r fits whole =
    let power : 2 ^ r * 2 ^ v ≡ 2 ^ 64 = sym (pow-add 2 r v) ∙ ap (λ x. 2 ^ x) (add_comm r v ∙ whole) in
    let split : (A * 2 ^ r + B) * 2 ^ v ≡ A * 2 ^ 64 + B * 2 ^ v = omega (arith, ap (λ x. A * x) power) in
    let small : B * 2 ^ v < 2 ^ 64 = rw (add_comm r v ∙ whole) at (shl_lt r v fits) in
    rw split (low A 64 small)

-- The 64 bits from bit a on, shifted up by v bits: those from bit a + v on are left.
bits_up : (s : List ℕ) (a v r : ℕ) → v + r ≡ 64 → (field s a 64 * 2 ^ v) % 18446744073709551616 ≡ field s (a + v) r * 2 ^ v
bits_up s a v r whole =
    ap (λ x. (x * 2 ^ v) % 18446744073709551616) (ap (field s a) (sym whole) ∙ field_add s a v r)
    ∙ shifted_up (field s a v) (field s (a + v) r) v r (field_lt s (a + v) r) whole

-- A field within the 64 bits from bit a on: they are shifted up to its first bit and down to its last.
pub field_shifted : (s : List ℕ) (a v w : ℕ) → v + w ≤ 64 → (field s a 64 * 2 ^ v) % 18446744073709551616 / 2 ^ (64 - w) ≡ field s (a + v) w
field_shifted s a v w h =
    let x : ℕ = 64 - v - w in
    let rest : field s (a + v) (w + x) * 2 ^ v ≡ field s (a + v) w * 2 ^ (x + v) + field s (a + v + w) x * 2 ^ v =
    rw (field_add s (a + v) w x, pow-add 2 x v) (omega arith) in
    let down : 64 - w ≡ x + v = omega arith in
    rw (bits_up s a v (w + x) (omega arith), rest, down) (high (field s (a + v) w) (x + v) (shl_lt x v (field_lt s (a + v + w) x)))

-- The front of a field that ends y bits behind them, with as many zeros behind it.
pub field_front : (s : List ℕ) (a v w y : ℕ) → v + w ≡ 64 + y → v ≤ 64 → w ≤ 64
    → (field s a 64 * 2 ^ v) % 18446744073709551616 / 2 ^ (64 - w) ≡ field s (a + v) (64 - v) * 2 ^ y
field_front s a v w y e h few =
    let up : v ≡ y + (64 - w) = omega arith in
    let power : field s (a + v) (64 - v) * 2 ^ v ≡ field s (a + v) (64 - v) * 2 ^ y * 2 ^ (64 - w) =
    ap (λ x. field s (a + v) (64 - v) * x) (ap (λ x. 2 ^ x) up ∙ pow-add 2 y (64 - w)) ∙ omega arith in
    rw (bits_up s a v (64 - v) (omega arith), power) (shl-shr (field s (a + v) (64 - v) * 2 ^ y) (64 - w))

-- A field within the eight bytes from its first on, as it is computed from them.
pub eight_hold : (s : List ℕ) (at w : ℕ) → at % 8 + w ≤ 64 → (field s (8 * (at / 8)) 64 * 2 ^ (at % 8)) % 18446744073709551616 / 2 ^ (64 - w) ≡ field s at w
eight_hold s at w h =
    let here : 8 * (at / 8) + at % 8 ≡ at = omega arith in
    field_shifted s (8 * (at / 8)) (at % 8) w h ∙ ap (λ x. field s x w) here

-- A field that reaches into the ninth, as it is computed from all nine.
pub nine_hold : (s : List ℕ) (at w : ℕ) → get_or s (at / 8 + 8) 0 < 256 → w ≤ 64 → 64 < at % 8 + w
    → (field s (8 * (at / 8)) 64 * 2 ^ (at % 8)) % 18446744073709551616 / 2 ^ (64 - w) + get_or s (at / 8 + 8) 0 / 2 ^ (72 - (at % 8 + w)) ≡ field s at w
nine_hold s at w byte few over =
    let v : ℕ = at % 8 in
    let y : ℕ = at % 8 + w - 64 in
    let here : 8 * (at / 8) + v ≡ at = omega arith in
    let behind : 72 - (v + w) ≡ 8 - y = omega arith in
    let ninth : 8 * (at / 8 + 8) ≡ at + (64 - v) = omega arith in
    let whole : 64 - v + y ≡ w = omega arith in
    rw (field_front s (8 * (at / 8)) v w y (omega arith) (omega arith) few, here, behind, ← byte_prefix s (at / 8 + 8) y byte (omega arith), ninth)
    (sym (field_add s at (64 - v) y) ∙ ap (field s at) whole)

-- A field of at most 64 bits fits 64 bits.
pub field_small : (s : List ℕ) (a w : ℕ) → w ≤ 64 → field s a w < 18446744073709551616
field_small s a w h = omega (arith, field_lt s a w, pow_mono {i = w} {j = 64} h)

-- The bits of a value: those of its high part, then those of its low part.
pub bits_of-add : (a b v : ℕ) → bits_of (a + b) v ≡ bits_of a (v / 2 ^ b) ++ bits_of b v
unfolding bits_of
bits_of-add zero b v = rw zero-add
bits_of-add (suc a) b v = rw (suc-add, shr-shr v b a, add_comm b a, bits_of-add a b v)

-- Values with the same low part have the same low bits.
bits_of-low : (b v w : ℕ) → v % 2 ^ b ≡ w % 2 ^ b → bits_of b v ≡ bits_of b w
unfolding bits_of
bits_of-low zero v w e = refl
bits_of-low (suc b) v w e =
    let up : suc b ≡ 1 + b = omega arith in
    let same : v % 2 ^ (1 + b) ≡ w % 2 ^ (1 + b) = rw up at e in
    let digit : v / 2 ^ b % 2 ≡ w / 2 ^ b % 2 = sym (pow.field v 1 b) ∙ ap (λ x. x / 2 ^ b) same ∙ pow.field w 1 b in
    let rest : v % 2 ^ b ≡ w % 2 ^ b = sym (mod-mod-pow v 1 b) ∙ ap (λ x. x % 2 ^ b) same ∙ mod-mod-pow w 1 b in
    rw (digit, bits_of-low b v w rest)

-- The bits of two values that are joined in one: those of the one, then those of the other.
bits_of-join : (a b x y : ℕ) → bits_of (a + b) (x * 2 ^ b + y % 2 ^ b) ≡ bits_of a x ++ bits_of b y
bits_of-join a b x y =
    let fits : y % 2 ^ b < 2 ^ b = mod-lt y (pow_pos b) in
    let same : (x * 2 ^ b + y % 2 ^ b) % 2 ^ b ≡ y % 2 ^ b = low x b fits in
    rw (bits_of-add a b (x * 2 ^ b + y % 2 ^ b), high x b fits, bits_of-low b (x * 2 ^ b + y % 2 ^ b) y same)

-- So with the bits of more values, joined already.
pub bits_of-behind : (a b x y : ℕ) (front : List ℕ) → bits_of a x ≡ front → bits_of (a + b) (x * 2 ^ b + y % 2 ^ b) ≡ front ++ bits_of b y
bits_of-behind a b x y front e = bits_of-join a b x y ∙ ap (λ l. l ++ bits_of b y) e

-- Bits of a value that are put, and the rest of them put behind.
pub put_more : (out next : List ℕ) (at left count value : ℕ) → count ≤ left → next ≡ put_bits out at (bits_of count (value / 2 ^ (left - count)))
    → put_bits next (at + count) (bits_of (left - count) value) ≡ put_bits out at (bits_of left value)
put_more out next at left count value h put =
    let first : List ℕ = bits_of count (value / 2 ^ (left - count)) in
    let rest : List ℕ = bits_of (left - count) value in
    let size : length first ≡ count = bits_of-length count (value / 2 ^ (left - count)) in
    let all : left ≡ count + (left - count) = omega arith in
    rw put (sym (ap (λ n. put_bits out at (bits_of n value)) all ∙ ap (put_bits out at) (bits_of-add count (left - count) value)
    ∙ put_bits-append out at first rest ∙ ap (λ n. put_bits (put_bits out at first) (at + n) rest) size))

-- Where no bits are left to put, it is all one where they would go.
put_where : (s : List ℕ) (a b w v : ℕ) → (0 < w → a ≡ b) → put_bits s a (bits_of w v) ≡ put_bits s b (bits_of w v)
unfolding put_bits bits_of
put_where s a b zero v h = refl
put_where s a b (suc w) v h = rw (h (omega arith))

-- The same where the rest, if there is any, begins with a byte.
pub put_on : (out next : List ℕ) (at left count value : ℕ) → count ≤ left → (0 < left - count → 8 * ((at + count) / 8) ≡ at + count)
    → next ≡ put_bits out at (bits_of count (value / 2 ^ (left - count)))
    → put_bits next (8 * ((at + count) / 8)) (bits_of (left - count) value) ≡ put_bits out at (bits_of left value)
put_on out next at left count value h whole put =
    put_where next (8 * ((at + count) / 8)) (at + count) (left - count) value whole ∙ put_more out next at left count value h put

-- The byte with `w` low bits of v behind the first bits of byte a / 8.
abbrev pub piece_byte : List ℕ → ℕ → ℕ → ℕ → ℕ
piece_byte s a w v = field s (8 * (a / 8)) (a % 8) * 2 ^ (8 - a % 8) + v % 2 ^ w * 2 ^ (8 - a % 8 - w)

-- A bit b before the bits m, in a byte: they are put behind the kept bits one after the other or at once.
step : (kept b m w v : ℕ) → (2 * kept + b) * 2 ^ (w + v) + m * 2 ^ v ≡ kept * 2 ^ suc (w + v) + (b * 2 ^ w + m) * 2 ^ v
step kept b m w v = rw (pow-suc 2 (w + v), pow-add 2 w v) (omega arith)

module _ (s : List ℕ) (a b : ℕ) (inside : a / 8 < length s) (one : b ≤ 1) where
  -- The byte that `put_bit` stores.
  putBit-byte : get_or (put_bit s a b) (a / 8) 0 ≡ (2 * field s (8 * (a / 8)) (a % 8) + b) * 2 ^ (7 - a % 8)
  unfolding put_bit
  putBit-byte =
      let up : 8 - a % 8 ≡ suc (7 - a % 8) = omega arith in
      get_or-set_same s (a / 8) _ 0 inside ∙ rw (up, pow-suc 2 (7 - a % 8)) (omega arith)

  -- The kept bits with the new one behind them.
  putBit-kept : field (put_bit s a b) (8 * (a / 8)) (suc (a % 8)) ≡ 2 * field s (8 * (a / 8)) (a % 8) + b
  putBit-kept =
      let kept : ℕ = field s (8 * (a / 8)) (a % 8) in
      let fits : 2 * kept + b < 2 ^ suc (a % 8) = omega (arith, field_lt s (8 * (a / 8)) (a % 8)) in
      let whole : suc (a % 8) + (7 - a % 8) ≡ 8 = omega arith in
      let small : (2 * kept + b) * 2 ^ (7 - a % 8) < 2 ^ 8 = rw whole at (shl_lt (suc (a % 8)) (7 - a % 8) fits) in
      let behind : 8 - suc (a % 8) ≡ 7 - a % 8 = omega arith in
      byte_prefix (put_bit s a b) (a / 8) (suc (a % 8)) (rw putBit-byte small) (omega arith)
      ∙ rw (putBit-byte, behind) (shl-shr (2 * kept + b) (7 - a % 8))

-- Bits put within one byte change only that byte.
pub put_bits-piece : (w : ℕ) (s : List ℕ) (a v : ℕ) → a / 8 < length s → a % 8 + suc w ≤ 8
    → put_bits s a (bits_of (suc w) v) ≡ set s (a / 8) (piece_byte s a (suc w) v)
unfolding put_bits bits_of put_bit
put_bits-piece zero s a v inside h =
    let e : 8 - a % 8 - 1 ≡ 7 - a % 8 = omega arith in
    ap (set s (a / 8)) (rw (e, pow-zero, div-one) (omega arith))
put_bits-piece (suc w) s a v inside h =
    let b : ℕ = v / 2 ^ suc w % 2 in
    let t : List ℕ = put_bit s a b in
    let kept : ℕ = field s (8 * (a / 8)) (a % 8) in
    let rest : ℕ = v % 2 ^ suc w in
    let after : ℕ = 8 - a % 8 - suc (suc w) in
    let same : suc a / 8 ≡ a / 8 = omega arith in
    let next : suc a % 8 ≡ suc (a % 8) = omega arith in
    let last : 8 - suc (a % 8) - suc w ≡ after = omega arith in
    let behind : 8 - suc (a % 8) ≡ suc w + after = omega arith in
    let up : suc (suc w + after) ≡ 8 - a % 8 = omega arith in
    let more : v % 2 ^ suc (suc w) ≡ b * 2 ^ suc w + rest = ap (λ x. v % 2 ^ x) (omega arith) ∙ mod-pow-add v 1 (suc w) in
    let byte : piece_byte t (suc a) (suc w) v ≡ piece_byte s a (suc (suc w)) v =
    rw (same, next, putBit-kept s a b inside (omega arith), last, behind, more)
    (step kept b rest (suc w) after ∙ ap (λ x. kept * 2 ^ x + (b * 2 ^ suc w + rest) * 2 ^ after) up) in
    put_bits-piece w t (suc a) v (omega (arith, put_bit-length s a b)) (omega arith)
    ∙ ap (λ i. set t i (piece_byte t (suc a) (suc w) v)) same ∙ ap (set t (a / 8)) byte ∙ set-set s (a / 8) _ _

-- A power of two that fits m bits.
pub one_shl : (w m : ℕ) → w < m → (1 * 2 ^ w) % 2 ^ m ≡ 2 ^ w
one_shl w m h = rw one-mul (mod-eq_of_lt (pow-lt h))

-- It is not 0.
pub one_shl_pos : (w m : ℕ) → w < m → 0 < (1 * 2 ^ w) % 2 ^ m
one_shl_pos w m h = rw (one_shl w m h) (pow_pos w)

-- A value joined with the low bits of another, as it is computed, where both fit 64 bits.
pub join_is : (x y w : ℕ) → w ≤ 32 → x < 2 ^ (64 - w) → (x * 2 ^ w) % 18446744073709551616 + y % (1 * 2 ^ w % 18446744073709551616) ≡ x * 2 ^ w + y % 2 ^ w
join_is x y w h fits = rw (one_shl w 64 (omega arith), shl_exact (64 - w) w 64 fits (omega arith))

-- So does what they come to.
pub join_lt : (x y w : ℕ) → w ≤ 32 → x < 2 ^ (64 - w) → x * 2 ^ w + y % 2 ^ w < 18446744073709551616
join_lt x y w h fits =
    let whole : 64 - w + w ≡ 64 = omega arith in
    rw (← pow-add 2 (64 - w) w, whole) at (digits_lt fits (mod-lt y (pow_pos w)))

module _ (s : List ℕ) (a w v byte : ℕ) (here : byte ≡ get_or s (a / 8) 0) (small : byte < 256) (h : a % 8 + w ≤ 8) where
  -- The bits of the byte before bit a.
  abbrev before : ℕ
  before = field s (8 * (a / 8)) (a % 8)

  -- The byte's bits before a, and the new ones behind them, as they are computed.
  abbrev pub joined : ℕ
  joined = (byte / 2 ^ (8 - a % 8 - w) / 2 ^ w * 2 ^ w) % 18446744073709551616 + v % (1 * 2 ^ w % 18446744073709551616)

  -- What is kept of the byte is the field of its earlier bits.
  kept_field : byte / 2 ^ (8 - a % 8 - w) / 2 ^ w ≡ before
  kept_field =
      let up : 8 - a % 8 - w + w ≡ 8 - a % 8 = omega arith in
      shr-shr byte (8 - a % 8 - w) w ∙ rw (up, here) (sym (byte_prefix s (a / 8) (a % 8) (omega arith) (omega arith)))

  -- Nothing is lost where they are joined.
  joined_is : joined ≡ before * 2 ^ w + v % 2 ^ w
  joined_is = rw (kept_field, one_shl w 64 (omega arith), shl_exact (a % 8) w 64 (field_lt s (8 * (a / 8)) (a % 8)) (omega arith))

  -- They take no more bits than they have.
  joined-lt : joined < 2 ^ (a % 8 + w)
  joined-lt = rw (joined_is, pow-add 2 (a % 8) w) (digits_lt (field_lt s (8 * (a / 8)) (a % 8)) (mod-lt v (pow_pos w)))

  -- So they fit a byte,
  pub joined_small : joined < 256
  joined_small = omega (arith, joined-lt, pow_mono {i = a % 8 + w} {j = 8} h)

  -- shifted up too,
  pub stored_small : joined * 2 ^ (8 - a % 8 - w) < 256
  stored_small =
      let whole : a % 8 + w + (8 - a % 8 - w) ≡ 8 = omega arith in
      rw whole at (shl_lt (a % 8 + w) (8 - a % 8 - w) joined-lt)

  -- and the byte that is stored is the one that holds the piece.
  pub stored : (joined * 2 ^ (8 - a % 8 - w)) % 18446744073709551616 ≡ piece_byte s a w v
  stored =
      let up : 8 - a % 8 ≡ w + (8 - a % 8 - w) = omega arith in
      let power : 2 ^ (8 - a % 8) ≡ 2 ^ w * 2 ^ (8 - a % 8 - w) = ap (λ x. 2 ^ x) up ∙ pow-add 2 w (8 - a % 8 - w) in
      mod-eq_of_lt (omega (arith, stored_small)) ∙ rw (joined_is, power) (omega arith)

-- The laws of packing bits one after another.
use Prim.Native.Nat.{ℕ, suc, ◌+◌, ◌-◌, ◌*◌, ◌/◌, ◌%◌, ◌^◌, ◌≤◌, ◌<◌}
use mathlib.Core.Path.{◌≡◌, refl, sym, ap, ◌∙◌}
use mathlib.Core.List.{List, [], ◌∷◌, ◌++◌, append-nil}
use mathlib.Core.Logic.{◌≢◌}
use native.Mathlib.Nat.{add-zero, add-suc, suc-add, add-sub_of_le, pow-suc}
use native.Mathlib.Decide.{dec_le, ℕ_discrete}
use native.Mathlib.Omega.{arith}
use lib.ListN.{length, get_or, drop, length-append, length-drop, length-set, get_or-append}
use lib.Seq.{append_snoc, ext_get_or, get_or-append-add, get_or-drop, get_or-set_other, get_or-set_same}
use Rattle.bits.specs.Bits.{bit_at, number, field, bit_in, bytes_from, bytes_for, pack}
use Rattle.bits.specs.PutBits.{put_bit, put_bits}
use Rattle.bits.proofs.BitsLaws.{Binary, number_ext, number_add, number_zero, bit_in-left, bit_in-right, bit_in-end, bit_in-one, bit_in-append-le, pack_length, pack_at, pack_bit}

-- A bit put into a byte string keeps the string's length.
pub put_bit-length : (s : List ℕ) (k b : ℕ) → length (put_bit s k b) ≡ length s
unfolding put_bit
put_bit-length s k b = simp length-set

-- Two lists of bits are put one after the other.
pub put_bits-append : (s : List ℕ) (start : ℕ) (a b : List ℕ) → put_bits s start (a ++ b) ≡ put_bits (put_bits s start a) (start + length a) b
unfolding put_bits
put_bits-append s start [] b = rw add-zero
put_bits-append s start (x ∷ a) b = rw (add-suc, ← suc-add) (put_bits-append (put_bit s start x) (suc start) a b)

-- A byte string whose head is the packed bits, and whose other bytes are those of s.
abbrev pub onto : List ℕ → List ℕ → List ℕ
onto bits s = pack bits ++ drop (bytes_for (length bits)) s

-- No bits change nothing.
pub onto_none : (s : List ℕ) → onto [] s ≡ s
unfolding pack bytes_from bytes_for
onto_none s = refl

-- Where the bits fit the length stays.
pub onto_length : (bits s : List ℕ) → bytes_for (length bits) ≤ length s → length (onto bits s) ≡ length s
onto_length bits s h = simp (length-append, length-drop, pack_length) (omega arith)

-- A byte of the head.
pub onto_head : (bits s : List ℕ) (k : ℕ) → k < bytes_for (length bits) → get_or (onto bits s) k 0 ≡ number (bit_in bits) (8 * k) 8
onto_head bits s k h = get_or-append (pack bits) (drop (bytes_for (length bits)) s) 0 k (rw pack_length h) ∙ pack_at bits k h

-- A byte behind it.
pub onto_tail : (bits s : List ℕ) (k : ℕ) → bytes_for (length bits) ≤ k → get_or (onto bits s) k 0 ≡ get_or s k 0
onto_tail bits s k h =
    let n : ℕ = bytes_for (length bits) in
    let e : k ≡ length (pack bits) + (k - n) = rw pack_length (omega arith) in
    ap (λ i. get_or (onto bits s) i 0) e ∙ get_or-append-add (pack bits) (drop n s) (k - n) 0 ∙ get_or-drop n s (k - n) 0 ∙ ap (λ i. get_or s i 0) (add-sub_of_le h)

-- A bit of the head.
pub onto_at : (bits s : List ℕ) → Binary (bit_in bits) → (k : ℕ) → k < 8 * bytes_for (length bits) → bit_at (onto bits s) k ≡ bit_in bits k
unfolding bit_at
onto_at bits s bit k h =
    rw (get_or-append (pack bits) (drop (bytes_for (length bits)) s) 0 (k / 8) (rw pack_length (omega arith))) (pack_bit bits bit k h)

-- A number whose last digits are b and then v times 0.
number_cut : (f : ℕ → ℕ) (a j v b : ℕ) → f (a + j) ≡ b → ((k : ℕ) → k < v → f (a + suc j + k) ≡ 0)
    → number f a (suc j + v) ≡ number f a j * 2 ^ suc v + b * 2 ^ v
unfolding number
number_cut f a j v b here none =
    rw (number_add f a (suc j) v, number_zero f (a + suc j) v none, here, pow-suc 2 v) (omega arith)

module _ (bits s : List ℕ) (b : ℕ) where
  -- The bits with b behind them.
  abbrev longer : ℕ → ℕ
  longer = bit_in (bits ++ (b ∷ []))

  -- The bits before b.
  longer-before : (k : ℕ) → k < length bits → longer k ≡ bit_in bits k
  longer-before k h = bit_in-left bits (b ∷ []) k h

  -- The bit b.
  longer-here : longer (length bits) ≡ b
  unfolding bit_in
  longer-here = ap longer (sym (add-zero (length bits))) ∙ bit_in-right bits (b ∷ []) 0

  -- The bits after b.
  longer-after : (k : ℕ) → length bits < k → longer k ≡ 0
  longer-after k h = bit_in-end (bits ++ (b ∷ [])) k (simp length-append (omega arith))

  -- Byte `length bits / 8` is the last.
  longer-bytes : bytes_for (length (bits ++ (b ∷ []))) ≡ length bits / 8 + 1
  unfolding bytes_for
  longer-bytes = simp length-append (omega arith)

  -- The byte that b goes into is the one that `put_bit` stores.
  last_byte : Binary (bit_in bits) → (n : ℕ) → n ≡ length bits
      → number longer (8 * (n / 8)) 8 ≡ field (onto bits s) (8 * (n / 8)) (n % 8) * 2 ^ (8 - n % 8) + b * 2 ^ (7 - n % 8)
  unfolding field bytes_for
  last_byte bit n size =
      let a : ℕ = 8 * (n / 8) in
      let j : ℕ = n % 8 in
      let whole : 8 ≡ suc j + (7 - j) = omega arith in
      let up : 8 - j ≡ suc (7 - j) = omega arith in
      let first : number (bit_at (onto bits s)) a j ≡ number longer a j =
      number_ext (bit_at (onto bits s)) longer a a j (λ k h. onto_at bits s bit (a + k) (omega arith) ∙ sym (longer-before (a + k) (omega arith))) in
      let here : longer (a + j) ≡ b = ap longer (omega arith) ∙ longer-here in
      rw (first, up) (ap (number longer a) whole ∙ number_cut longer a j (7 - j) b here (λ k h. longer-after (a + suc j + k) (omega arith)))

  -- Every other byte is as it was.
  other_byte : (k : ℕ) → k ≢ length bits / 8 → get_or (onto bits s) k 0 ≡ get_or (onto (bits ++ (b ∷ [])) s) k 0
  unfolding bytes_for
  other_byte k other =
      elim (dec_le k (length bits / 8)) [
        | yes h ↦
            onto_head bits s k (omega arith)
            ∙ number_ext (bit_in bits) longer (8 * k) (8 * k) 8 (λ i l. sym (longer-before (8 * k + i) (omega arith)))
            ∙ sym (onto_head (bits ++ (b ∷ [])) s k (omega (arith, longer-bytes)))
        | no h ↦ onto_tail bits s k (omega arith) ∙ sym (onto_tail (bits ++ (b ∷ [])) s k (omega (arith, longer-bytes)))
      ]

  -- A bit put behind packed bits is packed with them.
  pub onto_bit : Binary (bit_in bits) → b ≤ 1 → length bits < 8 * length s → put_bit (onto bits s) (length bits) b ≡ onto (bits ++ (b ∷ [])) s
  unfolding put_bit bytes_for
  onto_bit bit one h =
      let n : ℕ = length bits in
      let size : length (onto bits s) ≡ length s = onto_length bits s (omega arith) in
      ext_get_or 0 (put_bit (onto bits s) n b) (onto (bits ++ (b ∷ [])) s)
      (put_bit-length (onto bits s) n b ∙ size ∙ sym (onto_length (bits ++ (b ∷ [])) s (omega (arith, longer-bytes))))
      (λ k l. elim (ℕ_discrete k (n / 8)) [
        | yes e ↦ rw e (get_or-set_same (onto bits s) (n / 8) _ 0 (omega arith) ∙ sym (onto_head (bits ++ (b ∷ [])) s (n / 8) (omega (arith, longer-bytes)) ∙ last_byte bit n refl))
        | no other ↦ get_or-set_other (onto bits s) (n / 8) k _ 0 other ∙ other_byte k other
      ])

-- Bits put behind packed bits are packed with them.
pub onto_bits : (bits more s : List ℕ) → Binary (bit_in bits) → Binary (bit_in more) → length bits + length more ≤ 8 * length s
    → put_bits (onto bits s) (length bits) more ≡ onto (bits ++ more) s
unfolding put_bits bit_in
onto_bits bits [] s bit after h = rw append-nil
onto_bits bits (b ∷ more) s bit after h =
    let size : length (bits ++ (b ∷ [])) ≡ suc (length bits) = simp length-append (omega arith) in
    let longer : Binary (bit_in (bits ++ (b ∷ []))) = bit_in-append-le bits (b ∷ []) bit (bit_in-one b (after 0)) in
    rw (onto_bit bits s b bit (after 0) (omega arith), ← size, ← append_snoc bits b more)
    (onto_bits (bits ++ (b ∷ [])) more s longer (λ k. after (suc k)) (omega arith))

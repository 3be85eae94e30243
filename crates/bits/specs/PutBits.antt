-- For the proofs of code alone: bits put into a byte string one after another.
use Rattle.std.specs.Prelude.{ℕ, suc, ◌+◌, ◌-◌, ◌*◌, ◌/◌, ◌%◌, ◌^◌, List, [], ◌∷◌, set}
use Rattle.bits.specs.Bits.{field}

-- a byte string with bit k set to `bit`: the earlier bits of its byte stay, and the later ones are zero
unfoldable pub put_bit : List ℕ → ℕ → ℕ → List ℕ
put_bit s k bit = set s (k / 8) (field s (8 * (k / 8)) (k % 8) * 2 ^ (8 - k % 8) + bit * 2 ^ (7 - k % 8))

-- a byte string with bits put one after another, the first at bit `start`
unfoldable pub put_bits : List ℕ → ℕ → List ℕ → List ℕ
put_bits s start [] = s
put_bits s start (bit ∷ bits) = put_bits (put_bit s start bit) (suc start) bits

-- `bits::put_bytes` meets its contract. The loop's invariant: the bits that are left, put from byte `first + k` on, come to the whole.
use Prim.Native.Nat.{◌+◌, ◌-◌, ◌*◌}
use mathlib.Core.Path.{◌≡◌}
use lib.ListN.{length}
use Rattle.bits.specs.Bits.{bits_of}
use Rattle.bits.specs.PutBits.{put_bits}
use Rattle.bits.proofs.put_bytes.Given as goal

abbrev pub invariant-loop-k : goal.invariant-loop-k
invariant-loop-k l =
    (length l.out ≡ length l.initial.out)
    × (put_bits l.out (8 * (l.first + l.k)) (bits_of (l.width - 8 * l.k) l.bits) ≡ put_bits l.initial.out (8 * l.first) (bits_of l.width l.bits))

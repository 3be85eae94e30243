-- `choosing::most_within` meets its contract: the places are tried from the last downwards.
use Prim.Native.Nat.{◌+◌, ◌-◌, ◌≤◌}
use mathlib.Core.Path.{◌≡◌}
use lib.ListN.{length, get_or}
use Rattle.choice.specs.Programme.{greatest}
use Rattle.choosing.proofs.most_within.Given as goal

abbrev pub invariant-loop-v : goal.invariant-loop-v
invariant-loop-v l =
    (l.v ≤ length l.row)
    × (greatest (l.room + 1) (λ v. get_or l.row v 0) (l.v - 1) ≡ greatest (l.room + 1) (λ v. get_or l.row v 0) (length l.row - 1))

-- What is known of a period that is not bad.
use Prim.Native.Nat.{ℕ, ◌≤◌, ◌<◌}
use mathlib.Core.Path.{◌≡◌}
use mathlib.Core.Bool.{Bool, false}
use native.Mathlib.Omega.{arith}
use lib.Dec.{ltb, eqb}
use borrow.Author.Tests.{eqb-false, ltb-false}
use Rattle.base.specs.Limits.{max_period, bad_period}
use Rattle.base.specs.Tests.{or}
use Rattle.base.proofs.TestLaws.{or_left, or_right}

pub period_known : (p q : ℕ) → bad_period p q ≡ false → (0 < q) × (q ≤ p) × (p ≤ max_period)
period_known p q e =
    let a : Bool = eqb p 0 in
    let b : Bool = eqb q 0 in
    let c : Bool = ltb max_period p in
    let d : Bool = ltb max_period q in
    let f : or b (or c (or d (ltb p q))) ≡ false = or_right a (or b (or c (or d (ltb p q)))) e in
    let g : or c (or d (ltb p q)) ≡ false = or_right b (or c (or d (ltb p q))) f in
    let h : or d (ltb p q) ≡ false = or_right c (or d (ltb p q)) g in
    let z : q ≡ 0 → ⊥ = eqb-false q 0 (or_left b (or c (or d (ltb p q))) f) in
    (omega arith, ltb-false p q (or_right d (ltb p q) h), ltb-false max_period p (or_left c (or d (ltb p q)) g))

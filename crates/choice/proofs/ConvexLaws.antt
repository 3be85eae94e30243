-- Laws of convex rows: the steps of a row never fall, and a part that is put into it leaves it so. Nothing is asked of jobs here.
use Prim.Native.Nat.{ℕ, zero, suc, ◌+◌, ◌-◌, ◌≤◌, ◌<◌}
use mathlib.Core.Path.{◌≡◌}
use native.Mathlib.Omega.{arith}
use native.Mathlib.Decide.{dec_lt, ℕ_discrete}
use Rattle.choice.specs.Decisions.{Convex}

-- a step up to the top does not fall
convex_step : (f : ℕ → ℕ) (top : ℕ) → Convex f top → (v : ℕ) → suc v ≤ top → f v ≤ f (suc v)
convex_step f top c zero l = c.first l
convex_step f top c (suc v) l =
    let e : v + 1 ≡ suc v = omega arith in
    let g : v + 2 ≡ suc (suc v) = omega arith in
    let s = rw (e, g) at (c.steps v (omega arith)) in
    omega (arith, convex_step f top c v (omega arith))

-- so the numbers don't fall
pub convex_rises : (f : ℕ → ℕ) (top : ℕ) → Convex f top → (u v : ℕ) → u ≤ v → v ≤ top → f u ≤ f v
convex_rises f top c u zero l m =
    let e : u ≡ 0 = omega arith in
    rw e (omega arith)
convex_rises f top c u (suc v) l m =
    elim (ℕ_discrete u (suc v)) [
      | yes e ↦ rw e (omega arith)
      | no e ↦ omega (arith, convex_rises f top c u v (omega arith) (omega arith), convex_step f top c v m)
    ]

-- where a step is less than a part, so is every step below it
pub convex_less : (f : ℕ → ℕ) (top part : ℕ) → Convex f top → (u v : ℕ) → u ≤ v → suc v ≤ top → f (suc v) < part + f v → f (suc u) < part + f u
convex_less f top part c u zero l m h =
    let e : u ≡ 0 = omega arith in
    rw e h
convex_less f top part c u (suc v) l m h =
    elim (ℕ_discrete u (suc v)) [
      | yes e ↦ rw e h
      | no e ↦
          let a : v + 1 ≡ suc v = omega arith in
          let b : v + 2 ≡ suc (suc v) = omega arith in
          let s = rw (a, b) at (c.steps v (omega arith)) in
          convex_less f top part c u v (omega arith) (omega arith) (omega arith)
    ]

-- fewer parts
pub convex_cut : (f : ℕ → ℕ) (top less : ℕ) → less ≤ top → Convex f top → Convex f less
convex_cut f top less l c = record { first = λ m. c.first (omega arith); steps = λ v m. c.steps v (omega arith) }

-- equal numbers
pub convex_same : (f g : ℕ → ℕ) (top : ℕ) → ((v : ℕ) → v ≤ top → g v ≡ f v) → Convex f top → Convex g top
convex_same f g top e c =
    record {
      first = λ m. omega (arith, e 0 (omega arith), e 1 m, c.first m);
      steps = λ v m. omega (arith, e v (omega arith), e (v + 1) (omega arith), e (v + 2) m, c.steps v m);
    }

-- a part put in above its rank
pub convex_put : (f g : ℕ → ℕ) (top rank part : ℕ) → rank ≤ top → ((v : ℕ) → v ≤ rank → g v ≡ f v)
    → ((v : ℕ) → rank ≤ v → v ≤ top → g (v + 1) ≡ part + f v) → ((v : ℕ) → rank ≤ v → v + 1 ≤ top → part + f v ≤ f (v + 1))
    → (0 < rank → f rank < part + f (rank - 1)) → Convex f top → Convex g (top + 1)
convex_put f g top rank part w stays put no_more more c =
    record {
      first = λ m.
          elim (dec_lt 0 rank) [
            | yes l ↦ omega (arith, stays 0 (omega arith), stays 1 l, c.first (omega arith))
            | no l ↦ omega (arith, stays 0 (omega arith), put 0 (omega arith) (omega arith))
          ];
      steps = λ v m.
          let e : v + 1 + 1 ≡ v + 2 = omega arith in
          elim (dec_lt (v + 1) rank) [
            | yes l ↦ omega (arith, stays v (omega arith), stays (v + 1) (omega arith), stays (v + 2) (omega arith), c.steps v (omega arith))
            | no l ↦
                let last = rw e at (put (v + 1) (omega arith) (omega arith)) in
                elim (ℕ_discrete rank (v + 1)) [
                  | yes s ↦
                      let t : v + 1 - 1 ≡ v = omega arith in
                      let h = rw t at (rw s at (more (omega arith))) in
                      omega (arith, stays v (omega arith), stays (v + 1) (omega arith))
                  | no s ↦
                      let middle = put v (omega arith) (omega arith) in
                      elim (ℕ_discrete rank v) [
                        | yes t ↦ omega (arith, stays v (omega arith), no_more v (omega arith) (omega arith))
                        | no t ↦
                            let a : v - 1 + 1 ≡ v = omega arith in
                            let b : v - 1 + 2 ≡ v + 1 = omega arith in
                            let low = rw a at (put (v - 1) (omega arith) (omega arith)) in
                            let h = rw (a, b) at (c.steps (v - 1) (omega arith)) in
                            omega arith
                      ]
                ]
          ];
    }

-- Laws of a column into which a number is put, and of a part of one.
use Prim.Native.Nat.{ℕ, zero, suc, ◌+◌, ◌-◌, ◌≤◌, ◌<◌}
use mathlib.Core.Path.{◌≡◌, refl, sym, ap, ◌∙◌}
use mathlib.Core.List.{List, ◌∷◌}
use native.Mathlib.Omega.{arith}
use native.Mathlib.Decide.{dec_lt, dec_le, ℕ_discrete}
use lib.ListN.{length, get_or, take, drop, set, length-set}
use lib.Seq.{get_or-set_same, get_or-set_other, drop-cons}
use borrow.Author.Tests.{lt-ltb, le-ltb, le-leb, lt-leb, eq-eqb, ne_eqb}
use Rattle.base.specs.Places.{places_from}
use Rattle.columns.specs.Columns.{inserted_at}

module _ (at end number : ℕ) (old : ℕ → ℕ) where
  -- below the place all is as it was
  pub inserted_below : (j : ℕ) → j < at → inserted_at at end number old j ≡ old j
  unfolding inserted_at
  inserted_below j l = rw (lt-ltb j at l)

  -- at the place stands the number
  pub inserted_here : (j : ℕ) → j ≡ at → inserted_at at end number old j ≡ number
  unfolding inserted_at
  inserted_here j e = rw (le-ltb j at (omega arith), eq-eqb j at e)

  -- above it, up to the end, stands what stood one place lower
  pub inserted_above : (j : ℕ) → at < j → j ≤ end → inserted_at at end number old j ≡ old (j - 1)
  unfolding inserted_at
  inserted_above j l m = rw (le-ltb j at (omega arith), ne_eqb j at (omega arith), le-leb j end m)

  -- beyond the end all is as it was
  pub inserted_beyond : (j : ℕ) → at ≤ end → end < j → inserted_at at end number old j ≡ old j
  unfolding inserted_at
  inserted_beyond j l m = rw (le-ltb j at (omega arith), ne_eqb j at (omega arith), lt-leb j end m)

-- the numbers from place k to `end`, excluded, stand one place higher, and the others where they stood
pub record Moved (old : List ℕ) (k end : ℕ) (column : List ℕ) : Type 0 where
  pub same_length : length column ≡ length old
  pub moved : (j : ℕ) → k < j → j ≤ end → get_or column j 0 ≡ get_or old (j - 1) 0
  pub below : (j : ℕ) → j ≤ k → get_or column j 0 ≡ get_or old j 0
  pub beyond : (j : ℕ) → end < j → get_or column j 0 ≡ get_or old j 0

-- at first none is moved
pub moved_start : (old : List ℕ) (end : ℕ) → Moved old end end old
moved_start old end = record { same_length = refl; moved = λ j l m. absurd (omega arith); below = λ j l. refl; beyond = λ j l. refl }

-- one more is moved
pub moved_next : (old : List ℕ) (k end : ℕ) (column : List ℕ) → 0 < k → k ≤ end → end < length old → Moved old k end column
    → Moved old (k - 1) end (set column k (get_or column (k - 1) 0))
moved_next old k end column p l m c =
    record {
      same_length = length-set column k (get_or column (k - 1) 0) ∙ c.same_length;
      moved = λ j a b.
          elim (ℕ_discrete j k) [
            | yes e ↦ rw (e, get_or-set_same column k (get_or column (k - 1) 0) 0 (omega (arith, c.same_length))) (c.below (k - 1) (omega arith))
            | no e ↦ rw (get_or-set_other column k j (get_or column (k - 1) 0) 0 e) (c.moved j (omega arith) b)
          ];
      below = λ j a. rw (get_or-set_other column k j (get_or column (k - 1) 0) 0 (omega arith)) (c.below j (omega arith));
      beyond = λ j a. rw (get_or-set_other column k j (get_or column (k - 1) 0) 0 (omega arith)) (c.beyond j a);
    }

-- once all from the place on are moved, the number is put in
pub moved_end : (old : List ℕ) (at end number : ℕ) (column : List ℕ) → at ≤ end → end < length old → Moved old at end column
    → (j : ℕ) → get_or (set column at number) j 0 ≡ inserted_at at end number (λ k. get_or old k 0) j
moved_end old at end number column l m c j =
    elim (ℕ_discrete j at) [
      | yes e ↦ rw (e, get_or-set_same column at number 0 (omega (arith, c.same_length))) (sym (inserted_here at end number (λ k. get_or old k 0) at refl))
      | no e ↦ rw (get_or-set_other column at j number 0 e)
          (elim (dec_lt j at) [
            | yes b ↦ c.below j (omega arith) ∙ sym (inserted_below at end number (λ k. get_or old k 0) j b)
            | no b ↦ elim (dec_le j end) [
              | yes a ↦ c.moved j (omega arith) a ∙ sym (inserted_above at end number (λ k. get_or old k 0) j (omega arith) a)
              | no a ↦ c.beyond j (omega arith) ∙ sym (inserted_beyond at end number (λ k. get_or old k 0) j l (omega arith))
            ]
          ])
    ]

-- the places of a part of a list
part_from : (list : List ℕ) (first count : ℕ) → first + count ≤ length list → take count (drop first list) ≡ places_from (λ k. get_or list k 0) first count
unfolding places_from
part_from list first zero l = refl
part_from list first (suc count) l =
    let some : first < length list = omega arith in
    rw (drop-cons list first 0) (ap (λ (rest : List ℕ). get_or list first 0 ∷ rest) (part_from list (suc first) count (omega arith)))

pub part_places : (list : List ℕ) (first count : ℕ) → first + count ≤ length list
    → take (first + count - first) (drop first list) ≡ places_from (λ k. get_or list k 0) first count
part_places list first count l =
    let size : first + count - first ≡ count = omega arith in
    rw size (part_from list first count l)

-- Laws of a list that is written over place by place, upwards or downwards.
use Prim.Native.Nat.{ℕ, ◌+◌, ◌-◌, ◌≤◌, ◌<◌}
use mathlib.Core.Path.{◌≡◌, refl, ◌∙◌}
use mathlib.Core.List.{List}
use native.Mathlib.Omega.{arith}
use native.Mathlib.Decide.{ℕ_discrete}
use lib.ListN.{length, get_or, set, length-set}
use lib.Seq.{get_or-set_same, get_or-set_other}
use Rattle.base.specs.Arrays.{Rewritten}

module _ {A : Type 0} (blank : A) (item : ℕ → A) (first : ℕ) (old : List A) where
  -- no place is written yet
  pub rewritten_start : (high : ℕ) → Rewritten blank item first high high old old
  rewritten_start high =
      record { same_length = refl; below = λ k l. refl; written = λ v l m. absurd (omega arith); beyond = λ k l. refl }

  -- the place before them is written
  pub rewritten_next : (low high : ℕ) (list : List A) (place : ℕ) (x : A) → 0 < low → low ≤ high → place ≡ first + (low - 1) → place < length list
      → x ≡ item (low - 1) → Rewritten blank item first low high old list → Rewritten blank item first (low - 1) high old (set list place x)
  rewritten_next low high list place x l n e m is r =
      record {
        same_length = length-set list place x ∙ r.same_length;
        below = λ k h. rw (get_or-set_other list place k x blank (omega arith)) (r.below k (omega arith));
        written = λ v h g.
            elim (ℕ_discrete v (low - 1)) [
              | yes s ↦ rw (s, ← e, get_or-set_same list place x blank m) is
              | no s ↦ rw (get_or-set_other list place (first + v) x blank (omega arith)) (r.written v (omega arith) g)
            ];
        beyond = λ k h. rw (get_or-set_other list place k x blank (omega arith)) (r.beyond k h);
      }

  -- A list that is written over place by place upwards: one place more is written.
  pub written_next : (low high : ℕ) (list : List A) (place : ℕ) (x : A) → low ≤ high → place ≡ first + high
      → place < length list → x ≡ item high → Rewritten blank item first low high old list → Rewritten blank item first low (high + 1) old (set list place x)
  written_next low high list place x n e m is r =
      record {
        same_length = length-set list place x ∙ r.same_length;
        below = λ k h. rw (get_or-set_other list place k x blank (omega arith)) (r.below k h);
        written = λ v h g.
            elim (ℕ_discrete v high) [
              | yes s ↦ rw (s, ← e, get_or-set_same list place x blank m) is
              | no s ↦ rw (get_or-set_other list place (first + v) x blank (omega arith)) (r.written v h (omega arith))
            ];
        beyond = λ k h. rw (get_or-set_other list place k x blank (omega arith)) (r.beyond k (omega arith));
      }

-- what stands in a list that was written over from its first place on
pub front_written : {A : Type 0} (blank : A) (item : ℕ → A) (high : ℕ) (old list : List A) → Rewritten blank item 0 0 high old list
    → (v : ℕ) → v < high → get_or list v blank ≡ item v
front_written blank item high old list r v l =
    let first : 0 + v ≡ v = omega arith in
    rw first at (r.written v (omega arith) l)

-- and beyond what was written
pub front_beyond : {A : Type 0} (blank : A) (item : ℕ → A) (high : ℕ) (old list : List A) → Rewritten blank item 0 0 high old list
    → (v : ℕ) → high ≤ v → get_or list v blank ≡ get_or old v blank
front_beyond blank item high old list r v l = r.beyond v (omega arith)

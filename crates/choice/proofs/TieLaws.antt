-- Laws of the marks of two lists: the lesser in the lexicographic order is the one that keeps at the first place where they differ.
use Prim.Native.Nat.{ℕ}
use mathlib.Core.Path.{◌≡◌, refl, ap}
use mathlib.Core.Logic.{◌⊎◌, inl, inr}
use mathlib.Core.List.{List, [], ◌∷◌, ◌++◌}
use mathlib.Core.Bool.{Bool, true, false}
use native.Mathlib.Omega.{arith}
use lib.ListN.{length}
use Rattle.choice.specs.Choice.{discard_marks}
use Rattle.choice.specs.KeepLists.{KeepsFirst}
use Rattle.choice.proofs.LexLaws.{LexAtMost, at_most-refl}

-- different lists have different marks
pub marks_apart : (a b : List Bool) → discard_marks a ≡ discard_marks b → a ≡ b
marks_apart [] [] e = refl
marks_apart [] (y ∷ b) e = let z : ◌≡◌ {A = ℕ} 0 1 = cc in absurd (omega arith)
marks_apart (x ∷ a) [] e = let z : ◌≡◌ {A = ℕ} 0 1 = cc in absurd (omega arith)
marks_apart (true ∷ a) (true ∷ b) e = ap (λ l. true ∷ l) (marks_apart a b (cc))
marks_apart (true ∷ a) (false ∷ b) e = let z : ◌≡◌ {A = ℕ} 0 1 = cc in absurd (omega arith)
marks_apart (false ∷ a) (true ∷ b) e = let z : ◌≡◌ {A = ℕ} 0 1 = cc in absurd (omega arith)
marks_apart (false ∷ a) (false ∷ b) e = ap (λ l. false ∷ l) (marks_apart a b (cc))

-- of two lists with the same marks up to a place, the one that keeps there has the lesser marks
pub split-at_most : (same rest_a rest_b : List Bool) → LexAtMost (discard_marks (same ++ true ∷ rest_a)) (discard_marks (same ++ false ∷ rest_b))
unfolding LexAtMost
split-at_most [] rest_a rest_b = (omega arith, λ e. absurd (omega arith))
split-at_most (true ∷ same) rest_a rest_b = (omega arith, λ e. split-at_most same rest_a rest_b)
split-at_most (false ∷ same) rest_a rest_b = (omega arith, λ e. split-at_most same rest_a rest_b)

-- so has a list that keeps at the first place where two differ
pub first-at_most : (a b : List Bool) → KeepsFirst a b → LexAtMost (discard_marks a) (discard_marks b)
first-at_most a b f = rw (f.keeps, f.discards) (split-at_most f.same f.rest_a f.rest_b)

-- or is the same
pub marks_least : (a b : List Bool) → (b ≡ a) ⊎ KeepsFirst a b → LexAtMost (discard_marks a) (discard_marks b)
marks_least a b (inl e) = rw e (at_most-refl (discard_marks a))
marks_least a b (inr f) = first-at_most a b f

-- one mark more, the same in both lists
pub first_cons : (x : Bool) (a b : List Bool) → (b ≡ a) ⊎ KeepsFirst a b → (x ∷ b ≡ x ∷ a) ⊎ KeepsFirst (x ∷ a) (x ∷ b)
first_cons x a b (inl e) = inl (ap (λ l. x ∷ l) e)
first_cons x a b (inr f) =
    inr (record {
      same = x ∷ f.same;
      rest_a = f.rest_a;
      rest_b = f.rest_b;
      keeps = ap (λ l. x ∷ l) f.keeps;
      discards = ap (λ l. x ∷ l) f.discards;
    })

-- of lists of one length, the one with the lesser marks keeps at the first place where they differ
pub at_most-first : (a b : List Bool) → length a ≡ length b → LexAtMost (discard_marks a) (discard_marks b) → (b ≡ a) ⊎ KeepsFirst a b
unfolding LexAtMost
at_most-first [] [] n p = inl refl
at_most-first [] (y ∷ b) n p = absurd (omega arith)
at_most-first (x ∷ a) [] n p = absurd p
at_most-first (true ∷ a) (true ∷ b) n p = first_cons true a b (at_most-first a b (omega arith) (p.1 refl))
at_most-first (true ∷ a) (false ∷ b) n p = inr (record { same = []; rest_a = a; rest_b = b; keeps = refl; discards = refl })
at_most-first (false ∷ a) (true ∷ b) n p = absurd (omega arith)
at_most-first (false ∷ a) (false ∷ b) n p = first_cons false a b (at_most-first a b (omega arith) (p.1 refl))

-- Laws of the lexicographic order of lists of numbers.
use Prim.Native.Nat.{ℕ, ◌≤◌, ◌<◌}
use mathlib.Core.Path.{◌≡◌, refl, sym, ap₂}
use mathlib.Core.Logic.{◌≢◌}
use mathlib.Core.List.{List, [], ◌∷◌}
use mathlib.Core.Bool.{true, false}
use native.Mathlib.Omega.{arith}
use lib.Dec.{ltb, eqb}
use borrow.Author.Tests.{ltb-true, ltb-false, lt-ltb, le-ltb, eqb-true, eq-eqb}
use Rattle.base.proofs.TestLaws.{cases, both_absurd, and_left, and_right, picked, and_not_second}
use Rattle.choice.specs.Choice.{lex_less}

-- the first list is less than the second or the same
unfoldable pub LexAtMost : List ℕ → List ℕ → Type 0
LexAtMost [] ys = Unit {0}
LexAtMost (a ∷ xs) [] = ⊥
LexAtMost (a ∷ xs) (b ∷ ys) = (a ≤ b) × (a ≡ b → LexAtMost xs ys)

-- every list is at most itself
pub at_most-refl : (xs : List ℕ) → LexAtMost xs xs
unfolding LexAtMost
at_most-refl [] = tt
at_most-refl (a ∷ xs) = (omega arith, λ e. at_most-refl xs)

-- a list that is at most a second, which is at most a third, is at most the third
pub at_most-trans : (xs ys zs : List ℕ) → LexAtMost xs ys → LexAtMost ys zs → LexAtMost xs zs
unfolding LexAtMost
at_most-trans [] ys zs p q = tt
at_most-trans (a ∷ xs) [] zs p q = absurd p
at_most-trans (a ∷ xs) (b ∷ ys) [] p q = absurd q
at_most-trans (a ∷ xs) (b ∷ ys) (c ∷ zs) p q =
    (omega arith, λ e. at_most-trans xs ys zs (p.1 (omega arith)) (q.1 (omega arith)))

-- a list that is less is at most the other
pub less_at_most : (xs ys : List ℕ) → lex_less xs ys ≡ true → LexAtMost xs ys
unfolding lex_less LexAtMost
less_at_most [] ys e = tt
less_at_most (a ∷ xs) [] e = both_absurd false e refl
less_at_most (a ∷ xs) (b ∷ ys) e =
    picked (λ r. r ≡ true) (ltb a b) e
    (λ l s. let h : a < b = ltb-true a b l in (omega arith, λ q. absurd (omega arith)))
    (λ l s.
    let h : a ≡ b = eqb-true a b (and_left (eqb a b) (lex_less xs ys) s) in
    (omega arith, λ q. less_at_most xs ys (and_right (eqb a b) (lex_less xs ys) s)))

-- a list that is not less is at least the other
pub not_less_at_most : (xs ys : List ℕ) → lex_less xs ys ≡ false → LexAtMost ys xs
unfolding lex_less LexAtMost
not_less_at_most [] [] e = tt
not_less_at_most [] (b ∷ ys) e = both_absurd true refl e
not_less_at_most (a ∷ xs) [] e = tt
not_less_at_most (a ∷ xs) (b ∷ ys) e =
    picked (λ r. r ≡ false) (ltb a b) e
    (λ l s. both_absurd true refl s)
    (λ l s.
    let h : b ≤ a = ltb-false a b l in
    (h, λ q. not_less_at_most xs ys (and_not_second (eqb a b) (lex_less xs ys) s (eq-eqb a b (sym q)))))

-- lists that are at most one another are the same
pub at_most-same : (xs ys : List ℕ) → LexAtMost xs ys → LexAtMost ys xs → xs ≡ ys
unfolding LexAtMost
at_most-same [] [] p q = refl
at_most-same [] (b ∷ ys) p q = absurd q
at_most-same (a ∷ xs) [] p q = absurd p
at_most-same (a ∷ xs) (b ∷ ys) p q =
    let e : a ≡ b = omega arith in
    ap₂ (λ (c : ℕ) (zs : List ℕ). c ∷ zs) e (at_most-same xs ys (p.1 e) (q.1 (sym e)))

-- the lesser number at the front decides
pub less_front : (a b : ℕ) (xs ys : List ℕ) → a < b → lex_less (a ∷ xs) (b ∷ ys) ≡ true
unfolding lex_less
less_front a b xs ys l = rw (lt-ltb a b l)

-- and where the fronts are the same, the rest does
pub less_rest : (a b : ℕ) (xs ys : List ℕ) → a ≡ b → lex_less (a ∷ xs) (b ∷ ys) ≡ lex_less xs ys
unfolding lex_less
less_rest a b xs ys e = rw (le-ltb a b (omega arith), eq-eqb a b e)

-- lists of one number compare as the numbers do
pub less_one : (a b : ℕ) → lex_less (a ∷ []) (b ∷ []) ≡ ltb a b
unfolding lex_less
less_one a b =
    cases (ltb a b) (λ e. rw e) (λ e. rw e (cases (eqb a b) (λ f. rw f) (λ f. rw f)))

-- no list is less than itself
pub less_self : (xs : List ℕ) → lex_less xs xs ≡ false
unfolding lex_less
less_self [] = refl
less_self (a ∷ xs) = rw (le-ltb a a (omega arith), eq-eqb a a refl) (less_self xs)

-- of two lists one at most is less than the other
pub less_once : (xs ys : List ℕ) → lex_less xs ys ≡ true → lex_less ys xs ≡ false
less_once xs ys e =
    cases (lex_less ys xs)
    (λ f.
    let same : xs ≡ ys = at_most-same xs ys (less_at_most xs ys e) (less_at_most ys xs f) in
    both_absurd (lex_less ys ys) (rw same at e) (less_self ys))
    (λ f. f)

-- of two that differ one is
pub less_total : (xs ys : List ℕ) → xs ≢ ys → lex_less xs ys ≡ false → lex_less ys xs ≡ true
less_total xs ys n e =
    cases (lex_less ys xs) (λ f. f) (λ f. absurd (n (at_most-same xs ys (not_less_at_most ys xs f) (not_less_at_most xs ys e))))

-- a list that is less than a second, which is less than a third, is less than the third
pub less_trans : (xs ys zs : List ℕ) → lex_less xs ys ≡ true → lex_less ys zs ≡ true → lex_less xs zs ≡ true
less_trans xs ys zs e f =
    cases (lex_less xs zs)
    (λ g. g)
    (λ g.
    let same : ys ≡ zs = at_most-same ys zs (less_at_most ys zs f) (at_most-trans zs xs ys (not_less_at_most xs zs g) (less_at_most xs ys e)) in
    both_absurd (lex_less zs zs) (rw same at f) (less_self zs))

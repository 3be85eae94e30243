-- Laws of the best of some candidates: it fits, and no candidate that fits has a lesser key. So is the best of all lists of one mark a job.
use Prim.Native.Nat.{ℕ}
use mathlib.Core.Path.{◌≡◌, refl}
use mathlib.Core.List.Memᴰ
use mathlib.Core.List.{List, [], ◌∷◌, map, Memᴰ}
use mathlib.Core.Bool.{Bool, true, false}
use native.Mathlib.Omega.{arith}
use lib.ListN.{length}
use Rattle.base.specs.Tests.{and}
use Rattle.base.proofs.TestLaws.{and_left, and_right, pick_cases, and_not_second}
use Rattle.schedule.specs.declared.Job.{Job}
use Rattle.choice.specs.Choice.{keep_lists, keep_none, lex_less, better, best, best_list}
use Rattle.choice.proofs.LexLaws.{LexAtMost, at_most-refl, at_most-trans, less_at_most, not_less_at_most, at_most-same}

-- a candidate that passes the test of fitting, and whose key is at most that of every candidate that does
pub record Best {A : Type 0} (passes : A → Bool) (key : A → List ℕ) (a : A) : Type 0 where
  pub fit : passes a ≡ true
  pub least : (other : A) → passes other ≡ true → LexAtMost (key a) (key other)

module _ {A : Type 0} (fit : A → Bool) (key : A → List ℕ) where
  -- the better of two fits
  better-fits : (a b : A) → fit a ≡ true → fit (better fit key a b) ≡ true
  unfolding better
  better-fits a b e =
      pick_cases (λ c. fit c ≡ true) (and (fit b) (lex_less (key b) (key a)))
      (λ s. and_left (fit b) (lex_less (key b) (key a)) s) (λ s. e)

  -- its key is at most that of the first
  better-first : (a b : A) → LexAtMost (key (better fit key a b)) (key a)
  unfolding better
  better-first a b =
      pick_cases (λ c. LexAtMost (key c) (key a)) (and (fit b) (lex_less (key b) (key a)))
      (λ s. less_at_most _ _ (and_right (fit b) (lex_less (key b) (key a)) s))
      (λ s. at_most-refl (key a))

  -- and, where the second fits, at most that of the second
  better-second : (a b : A) → fit b ≡ true → LexAtMost (key (better fit key a b)) (key b)
  unfolding better
  better-second a b e =
      pick_cases (λ c. LexAtMost (key c) (key b)) (and (fit b) (lex_less (key b) (key a)))
      (λ s. at_most-refl (key b))
      (λ s. not_less_at_most _ _ (and_not_second (fit b) (lex_less (key b) (key a)) s e))

  -- the best of one and of some others fits
  pub best_fits : (a : A) (bs : List A) → fit a ≡ true → fit (best fit key a bs) ≡ true
  unfolding best
  best_fits a [] e = e
  best_fits a (b ∷ bs) e = best_fits (better fit key a b) bs (better-fits a b e)

  -- its key is at most that of the first
  best-first : (a : A) (bs : List A) → LexAtMost (key (best fit key a bs)) (key a)
  unfolding best
  best-first a [] = at_most-refl (key a)
  best-first a (b ∷ bs) = at_most-trans _ _ _ (best-first (better fit key a b) bs) (better-first a b)

  -- and at most that of every other that fits
  pub best_others : (b : A) (bs : List A) (a : A) → Memᴰ b bs → fit b ≡ true → LexAtMost (key (best fit key a bs)) (key b)
  unfolding best
  best_others b bs a (Memᴰ.head {xs = xs} q) e =
      rw (← q) (at_most-trans _ _ _ (best-first (better fit key a b) xs) (better-second a b e))
  best_others b bs a (Memᴰ.tail {x = x} {xs = xs} m) e = best_others b xs (better fit key a x) m e

-- every list of one mark a job is among the keep lists
pub length_among : (jobs : List Job) (keeps : List Bool) → length keeps ≡ length jobs → Memᴰ keeps (keep_lists jobs)
unfolding keep_lists
length_among [] [] n = Memᴰ.head refl
length_among [] (keep ∷ keeps) n = absurd (omega arith)
length_among (job ∷ jobs) [] n = absurd (omega arith)
length_among (job ∷ jobs) (true ∷ keeps) n = Memᴰ.append_left _ (Memᴰ.map (λ l. true ∷ l) (length_among jobs keeps (omega arith)))
length_among (job ∷ jobs) (false ∷ keeps) n =
    Memᴰ.append_right (map (λ l. true ∷ l) (keep_lists jobs)) (Memᴰ.map (λ l. false ∷ l) (length_among jobs keeps (omega arith)))

-- The best list is best, where only lists of one mark a job fit and the one that keeps nothing does.
pub best_of_all : (fit : List Bool → Bool) (key : List Bool → List ℕ) (jobs : List Job) → fit (keep_none jobs) ≡ true
    → ((other : List Bool) → fit other ≡ true → length other ≡ length jobs) → Best fit key (best_list fit key jobs)
unfolding best_list
best_of_all fit key jobs none marks =
    record {
      fit = best_fits fit key _ (keep_lists jobs) none;
      least = λ other e. best_others fit key other (keep_lists jobs) _ (length_among jobs other (marks other e)) e;
    }

-- There is one best at most, where different candidates have different keys.
pub best_one : {A : Type 0} (fit : A → Bool) (key : A → List ℕ) → ((a b : A) → key a ≡ key b → a ≡ b) → (a b : A) → Best fit key a → Best fit key b
    → a ≡ b
best_one fit key apart a b p q = apart a b (at_most-same (key a) (key b) (p.least b q.fit) (q.least a p.fit))

-- Laws of works that fit: how a fitting list begins, that lesser works fit too, and that of the jobs only the windows matter.
use Prim.Native.Nat.{ℕ, ◌+◌, ◌≤◌}
use mathlib.Core.Path.{◌≡◌, refl}
use mathlib.Core.List.{List, [], ◌∷◌}
use mathlib.Core.Bool.{true, false}
use native.Mathlib.Omega.{arith}
use lib.Dec.{leb}
use borrow.Author.Tests.{leb-true, le-leb}
use Rattle.base.proofs.TestLaws.{both_absurd, and_true, and_left, and_right}
use Rattle.base.specs.Sums.{total}
use Rattle.schedule.specs.declared.Job.{Job}
use Rattle.choice.specs.Choice.{works_fit}
use Rattle.schedule.specs.Jobs.{window_ticks}

-- where works fit, the first window has room for all of them
pub works_head : (job : Job) (jobs : List Job) (work : ℕ) (works : List ℕ) → works_fit (job ∷ jobs) (work ∷ works) ≡ true
    → work + total works ≤ window_ticks job
unfolding works_fit
works_head job jobs work works e = leb-true _ _ (and_left (leb (work + total works) (window_ticks job)) _ e)

-- and the rest of them fit
pub works_tail : (job : Job) (jobs : List Job) (work : ℕ) (works : List ℕ) → works_fit (job ∷ jobs) (work ∷ works) ≡ true → works_fit jobs works ≡ true
unfolding works_fit
works_tail job jobs work works e = and_right (leb (work + total works) (window_ticks job)) (works_fit jobs works) e

-- works fit where the first window has room for all of them and the rest fit
pub works_cons : (job : Job) (jobs : List Job) (work : ℕ) (works : List ℕ) → work + total works ≤ window_ticks job
    → works_fit jobs works ≡ true → works_fit (job ∷ jobs) (work ∷ works) ≡ true
unfolding works_fit
works_cons job jobs work works h e = and_true (leb (work + total works) (window_ticks job)) (works_fit jobs works) (le-leb _ _ h) e

-- one list of works is nowhere above another
abbrev pub NoMore : List ℕ → List ℕ → Type 0
NoMore [] [] = Unit {0}
NoMore [] (b ∷ ys) = ⊥
NoMore (a ∷ xs) [] = ⊥
NoMore (a ∷ xs) (b ∷ ys) = (a ≤ b) × NoMore xs ys

-- nor is its sum
pub total_less : (some more : List ℕ) → NoMore some more → total some ≤ total more
total_less [] [] l = omega arith
total_less [] (b ∷ more) l = absurd l
total_less (a ∷ some) [] l = absurd l
total_less (a ∷ some) (b ∷ more) l = omega (arith, l.0, total_less some more l.1)

-- Lesser works fit where greater ones do.
pub works_less : (jobs : List Job) (some more : List ℕ) → NoMore some more → works_fit jobs more ≡ true → works_fit jobs some ≡ true
unfolding works_fit
works_less [] [] [] l e = refl
works_less [] [] (b ∷ more) l e = absurd l
works_less [] (a ∷ some) [] l e = absurd l
works_less [] (a ∷ some) (b ∷ more) l e = both_absurd false e refl
works_less (job ∷ jobs) [] [] l e = both_absurd false e refl
works_less (job ∷ jobs) [] (b ∷ more) l e = absurd l
works_less (job ∷ jobs) (a ∷ some) [] l e = absurd l
works_less (job ∷ jobs) (a ∷ some) (b ∷ more) l e =
    works_cons job jobs a some (omega (arith, l.0, total_less some more l.1, works_head job jobs b more e))
    (works_less jobs some more l.1 (works_tail job jobs b more e))

-- jobs with the same windows, one by one
abbrev pub SameWindows : List Job → List Job → Type 0
SameWindows [] [] = Unit {0}
SameWindows [] (other ∷ others) = ⊥
SameWindows (job ∷ jobs) [] = ⊥
SameWindows (job ∷ jobs) (other ∷ others) = (window_ticks job ≡ window_ticks other) × SameWindows jobs others

-- Works that fit some jobs fit all others with the same windows.
pub works_windows : (jobs others : List Job) (works : List ℕ) → SameWindows jobs others → works_fit jobs works ≡ true → works_fit others works ≡ true
unfolding works_fit
works_windows [] [] works s e = e
works_windows [] (other ∷ others) works s e = absurd s
works_windows (job ∷ jobs) [] works s e = absurd s
works_windows (job ∷ jobs) (other ∷ others) [] s e = both_absurd false e refl
works_windows (job ∷ jobs) (other ∷ others) (work ∷ works) s e =
    works_cons other others work works (omega (arith, s.0, works_head job jobs work works e))
    (works_windows jobs others works s.1 (works_tail job jobs work works e))

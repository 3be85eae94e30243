-- Laws of the choice: the chosen list fits, its key is at most that of every list that fits, the rows give it, and it marks optional parts of 0 ticks as
-- kept.
use Prim.Native.Nat.{ℕ, suc, ◌≤◌, ◌<◌}
use mathlib.Core.Path.{◌≡◌, refl}
use mathlib.Core.List.{List}
use mathlib.Core.Bool.{Bool, true}
use native.Mathlib.Omega.{arith}
use borrow.Author.Tests.{ltb-true}
use Rattle.base.proofs.TestLaws.{pick_cases}
use Rattle.schedule.specs.declared.Job.{Job}
use Rattle.schedule.specs.Jobs.{counts}
use Rattle.choice.specs.Choice.{fits, keep_none, kept_worth, choice_key, chosen_over, counted, weighed}
use Rattle.choice.specs.KeepLists.{ZeroKept}
use Rattle.choice.specs.Programme.{outermost_ticks, all_worth, row, backtrack, best_worth, by_rows}
use Rattle.choice.proofs.LexLaws.{LexAtMost}
use Rattle.choice.proofs.BestLaws.{Best, best_of_all, best_one}
use Rattle.choice.proofs.TieLaws.{marks_apart}
use Rattle.choice.proofs.FitLaws.{fits_length, ticks_outermost, worth_split}
use Rattle.choice.proofs.ProgrammeLaws.{Keeps, row_least, backtrack_keeps, backtrack_first, greatest_is, backtrack_zero}

module _ (worth : Job → ℕ) where
  -- a list that fits, and whose key is at most that of every list that fits
  abbrev pub BestOf : List Job → List Bool → Type 0
  BestOf jobs keeps = Best (fits jobs) (choice_key worth jobs) keeps

  -- there is one such list at most
  pub best_unique : (jobs : List Job) (a b : List Bool) → BestOf jobs a → BestOf jobs b → a ≡ b
  unfolding choice_key
  best_unique jobs a b p q = best_one (fits jobs) (choice_key worth jobs) (λ x y e. marks_apart x y (cc)) a b p q

  -- the chosen list is best
  pub chosen_best : (jobs : List Job) → fits jobs (keep_none jobs) ≡ true → BestOf jobs (chosen_over worth jobs)
  unfolding chosen_over
  chosen_best jobs none = best_of_all (fits jobs) (choice_key worth jobs) jobs none (λ other e. fits_length jobs other e)

-- The choice by rows.
module _ (worth : Job → ℕ) (huge : ℕ) where
  -- the marks read back from the greatest worth are best
  backtrack-best : (jobs : List Job) (v x : ℕ) → row worth huge jobs v ≡ x → x < huge
      → ((other : List Bool) → fits jobs other ≡ true → kept_worth worth jobs other ≤ v) → BestOf worth jobs (backtrack worth huge jobs v x)
  unfolding LexAtMost choice_key
  backtrack-best jobs v x e l most =
      let f = backtrack_keeps worth huge jobs v x e l in
      let all = worth_split worth jobs (backtrack worth huge jobs v x) (fits_length jobs _ f.fit) in
      record {
        fit = f.fit;
        least = λ other s.
            let all' = worth_split worth jobs other (fits_length jobs other s) in
            let m = most other s in (
              omega arith,
              λ d.
                  let w : kept_worth worth jobs other ≡ v = omega arith in
                  let r = rw w at (row_least worth huge jobs other s) in
                  (omega arith, λ c. backtrack_first worth huge jobs v x other e l (record { fit = s; value = w; ticks = omega arith })),
            );
      }

  -- no list that fits keeps more than the best worth, and the row is below huge there
  best-worth : (jobs : List Job) → outermost_ticks jobs < huge → (keeps : List Bool) → fits jobs keeps ≡ true
      → (row worth huge jobs (best_worth worth huge jobs) < huge) × (kept_worth worth jobs keeps ≤ best_worth worth huge jobs)
  best-worth jobs o keeps e =
      greatest_is huge (row worth huge jobs) (all_worth worth jobs) (kept_worth worth jobs keeps)
      (omega (arith, worth_split worth jobs keeps (fits_length jobs keeps e))) (omega (arith, row_least worth huge jobs keeps e, ticks_outermost jobs keeps e))

  -- the list that the rows give is best
  pub rows_best : (jobs : List Job) → outermost_ticks jobs < huge → fits jobs (keep_none jobs) ≡ true → BestOf worth jobs (by_rows worth huge jobs)
  unfolding by_rows
  rows_best jobs o none =
      backtrack-best jobs (best_worth worth huge jobs) _ refl (best-worth jobs o _ none).0 (λ keeps e. (best-worth jobs o keeps e).1)

  -- The rows give the chosen list, ties included.
  pub chosen_rows : (jobs : List Job) → outermost_ticks jobs < huge → fits jobs (keep_none jobs) ≡ true → chosen_over worth jobs ≡ by_rows worth huge jobs
  chosen_rows jobs o none = best_unique worth jobs _ _ (chosen_best worth jobs none) (rows_best jobs o none)

  -- The chosen list keeps the best worth, and the ticks of the row there.
  pub chosen_keeps : (jobs : List Job) → outermost_ticks jobs < huge → fits jobs (keep_none jobs) ≡ true
      → Keeps worth jobs (best_worth worth huge jobs) (row worth huge jobs (best_worth worth huge jobs)) (chosen_over worth jobs)
  unfolding by_rows
  chosen_keeps jobs o none =
      rw (chosen_rows jobs o none) (backtrack_keeps worth huge jobs (best_worth worth huge jobs) _ refl (best-worth jobs o _ none).0)

-- Where optional parts of 0 ticks are worth nothing, the chosen list marks each as kept.
pub chosen_zero : (worth : Job → ℕ) → ((job : Job) → job.optional ≡ 0 → worth job ≡ 0) → (jobs : List Job) → fits jobs (keep_none jobs) ≡ true
    → ZeroKept jobs (chosen_over worth jobs)
unfolding by_rows
chosen_zero worth free jobs none =
    let huge = suc (outermost_ticks jobs) in
    rw (chosen_rows worth huge jobs (omega arith) none)
    (backtrack_zero worth huge free jobs (best_worth worth huge jobs) _ refl (best-worth worth huge jobs (omega arith) _ none).0)

-- An optional part of 0 ticks counts as worth nothing.
pub counted_zero : (value : Job → ℕ) (job : Job) → job.optional ≡ 0 → counted value job ≡ 0
counted_zero value job e =
    pick_cases (λ z. z ≡ 0) (counts job) (λ t. absurd (omega (arith, ltb-true))) (λ t. refl)

-- The planner's list marks each optional part of 0 ticks as kept.
pub chosen_zero_kept : (weight : ℕ → ℕ) (jobs : List Job) → fits jobs (keep_none jobs) ≡ true → ZeroKept jobs (chosen_over (weighed weight) jobs)
chosen_zero_kept weight jobs none = chosen_zero _ (counted_zero (λ job. weight job.position)) jobs none

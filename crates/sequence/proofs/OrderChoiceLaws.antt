-- Laws of the choice for similar jobs: the chosen list fits, its key is at most that of every list that fits, the rows give it, ties included, and it
-- marks optional parts of 0 ticks as kept. Nothing is asked of the jobs here.
use Prim.Native.Nat.{ℕ, suc, ◌-◌, ◌≤◌, ◌<◌, max}
use mathlib.Core.Path.{◌≡◌}
use mathlib.Core.List.{List, [], ◌∷◌}
use mathlib.Core.Bool.{Bool, true}
use native.Mathlib.Omega.{arith}
use Rattle.schedule.specs.declared.Job.{Job}
use Rattle.base.specs.Members.{All}
use Rattle.base.proofs.MemberLaws.{all_map}
use Rattle.choice.specs.Choice.{keep_none, kept_worth, weighed}
use Rattle.choice.specs.KeepLists.{ZeroKept}
use Rattle.choice.specs.Programme.{all_worth}
use Rattle.choice.proofs.LexLaws.{LexAtMost}
use Rattle.choice.proofs.BestLaws.{Best, best_of_all, best_one}
use Rattle.choice.proofs.TieLaws.{marks_apart}
use Rattle.choice.proofs.FitLaws.{worth_split}
use Rattle.choice.proofs.ProgrammeLaws.{greatest_is}
use Rattle.choice.proofs.ChoiceLaws.{counted_zero}
use Rattle.sequence.specs.InOrder.{finish, fits_in_order}
use Rattle.sequence.specs.OrderChoice.{choice_key_in_order, chosen_in_order_over}
use Rattle.sequence.specs.OrderRows.{earliest, read_back, most_worth, chosen_by_rows}
use Rattle.sequence.proofs.InOrderLaws.{order_length, finish_by}
use Rattle.sequence.proofs.OrderRowLaws.{EndsBy, earliest_least, back_ends, back_first, back_zero}

-- a tick that no deadline is after
unfoldable pub last_deadline : List Job → ℕ
last_deadline [] = 0
last_deadline (job ∷ jobs) = max job.deadline (last_deadline jobs)

pub deadlines_by : (jobs : List Job) → All (λ job. job.deadline ≤ last_deadline jobs) jobs
unfolding last_deadline
deadlines_by [] = tt
deadlines_by (job ∷ jobs) = (omega arith, all_map _ _ jobs (λ other l. omega arith) (deadlines_by jobs))

module _ (worth : Job → ℕ) where
  -- a list that fits, and whose key is at most that of every list that fits
  abbrev pub BestInOrder : List Job → List Bool → Type 0
  BestInOrder jobs keeps = Best (fits_in_order jobs) (choice_key_in_order worth jobs) keeps

  -- there is one such list at most
  pub order_unique : (jobs : List Job) (a b : List Bool) → BestInOrder jobs a → BestInOrder jobs b → a ≡ b
  unfolding choice_key_in_order
  order_unique jobs a b p q = best_one (fits_in_order jobs) (choice_key_in_order worth jobs) (λ x y e. marks_apart x y (cc)) a b p q

  -- the chosen list is best
  pub chosen_best : (jobs : List Job) → fits_in_order jobs (keep_none jobs) ≡ true → BestInOrder jobs (chosen_in_order_over worth jobs)
  unfolding chosen_in_order_over
  chosen_best jobs none = best_of_all (fits_in_order jobs) (choice_key_in_order worth jobs) jobs none (λ other e. order_length jobs other e)

-- The choice by rows, where huge is above every deadline.
module _ (worth : Job → ℕ) (huge : ℕ) where
  -- the marks read back from the greatest worth, with any bound that every list that fits ends by, are best
  back-best : (jobs : List Job) (v bound : ℕ) → earliest worth huge jobs v ≤ bound → bound < huge
      → ((other : List Bool) → fits_in_order jobs other ≡ true → (kept_worth worth jobs other ≤ v) × (finish jobs other ≤ bound))
      → BestInOrder worth jobs (read_back worth huge jobs v bound)
  unfolding LexAtMost choice_key_in_order
  back-best jobs v bound h l most =
      let f = back_ends worth huge jobs v bound h l in
      let all = worth_split worth jobs (read_back worth huge jobs v bound) (order_length jobs _ f.fit) in
      record {
        fit = f.fit;
        least = λ other s.
            let all' = worth_split worth jobs other (order_length jobs other s) in
            let m = most other s in (
              omega arith,
              λ d. back_first worth huge jobs v bound other (record { fit = s; value = omega arith; ends = m.1 }),
            );
      }

  -- no list that fits keeps more than the most worth, and the row is below huge there
  pub most_worth_lem : (jobs : List Job) → All (λ job. job.deadline < huge) jobs → 0 < huge → (keeps : List Bool) → fits_in_order jobs keeps ≡ true
      → (earliest worth huge jobs (most_worth worth huge jobs) < huge) × (kept_worth worth jobs keeps ≤ most_worth worth huge jobs)
      × (finish jobs keeps ≤ huge - 1)
  most_worth_lem jobs a z keeps e =
      let ends = finish_by jobs keeps (huge - 1) e (all_map _ _ jobs (λ job l. omega arith) a) in
      let g = greatest_is huge (earliest worth huge jobs) (all_worth worth jobs) (kept_worth worth jobs keeps)
      (omega (arith, worth_split worth jobs keeps (order_length jobs keeps e))) (omega (arith, earliest_least worth huge jobs keeps e)) in
      (g.0, g.1, ends)

  -- the list that the rows give is best
  pub rows_best : (jobs : List Job) → All (λ job. job.deadline < huge) jobs → 0 < huge → fits_in_order jobs (keep_none jobs) ≡ true
      → BestInOrder worth jobs (chosen_by_rows worth huge jobs)
  unfolding chosen_by_rows
  rows_best jobs a z none =
      let l = (most_worth_lem jobs a z _ none).0 in
      back-best jobs (most_worth worth huge jobs) (huge - 1) (omega arith) (omega arith)
      (λ keeps e. let m = most_worth_lem jobs a z keeps e in (m.1, m.2))

  -- The rows give the chosen list, ties included.
  pub order_rows : (jobs : List Job) → All (λ job. job.deadline < huge) jobs → 0 < huge → fits_in_order jobs (keep_none jobs) ≡ true
      → chosen_in_order_over worth jobs ≡ chosen_by_rows worth huge jobs
  order_rows jobs a z none = order_unique worth jobs _ _ (chosen_best worth jobs none) (rows_best jobs a z none)

  -- The chosen list keeps the most worth.
  pub order_keeps : (jobs : List Job) → All (λ job. job.deadline < huge) jobs → 0 < huge → fits_in_order jobs (keep_none jobs) ≡ true
      → EndsBy worth jobs (most_worth worth huge jobs) (huge - 1) (chosen_in_order_over worth jobs)
  unfolding chosen_by_rows
  order_keeps jobs a z none =
      let l = (most_worth_lem jobs a z _ none).0 in
      rw (order_rows jobs a z none) (back_ends worth huge jobs (most_worth worth huge jobs) (huge - 1) (omega arith) (omega arith))

-- Where optional parts of 0 ticks are worth nothing, the chosen list marks each as kept.
pub order_zero : (worth : Job → ℕ) → ((job : Job) → job.optional ≡ 0 → worth job ≡ 0) → (jobs : List Job)
    → fits_in_order jobs (keep_none jobs) ≡ true → ZeroKept jobs (chosen_in_order_over worth jobs)
unfolding chosen_by_rows
order_zero worth free jobs none =
    let huge = suc (last_deadline jobs) in
    let a : All (λ job. job.deadline < huge) jobs = all_map _ _ jobs (λ job l. omega arith) (deadlines_by jobs) in
    let l = (most_worth_lem worth huge jobs a (omega arith) _ none).0 in
    rw (order_rows worth huge jobs a (omega arith) none)
    (back_zero worth huge free jobs (most_worth worth huge jobs) (huge - 1) (omega arith) (omega arith))

-- The planner's list marks each optional part of 0 ticks as kept.
pub order_zero_kept : (weight : ℕ → ℕ) (jobs : List Job) → fits_in_order jobs (keep_none jobs) ≡ true
    → ZeroKept jobs (chosen_in_order_over (weighed weight) jobs)
order_zero_kept weight jobs none = order_zero (weighed weight) (counted_zero (λ job. weight job.position)) jobs none

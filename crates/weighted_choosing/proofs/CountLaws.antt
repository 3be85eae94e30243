-- Laws of counting the parts that a list of marks keeps and discards, while its marks are walked over from the first on.
use Prim.Native.Nat.{ℕ, ◌+◌, ◌≤◌, ◌<◌}
use mathlib.Core.Path.{◌≡◌}
use mathlib.Core.List.{List, ◌∷◌}
use mathlib.Core.Bool.{Bool, true, false}
use native.Mathlib.Omega.{arith}
use native.Mathlib.Numerals.{add-one}
use lib.ListN.{length, get_or, drop}
use lib.Seq.{drop-cons}
use Rattle.base.specs.Places.{places}
use Rattle.base.proofs.PlaceLaws.{left_start, left_step, left_end}
use Rattle.schedule.specs.declared.Job.{Job}
use Rattle.choice.specs.Choice.{kept_worth, discarded_worth, count_one, kept, discarded}
use Rattle.choice.specs.Decisions.{jobs_from}
use Rattle.choice.proofs.BuildLaws.{count_one-most}

-- the parts before place i are counted, k kept and d discarded ones; the others are still to be counted
pub record Counted (at : ℕ → Job) (count : ℕ) (marks : List Bool) (i k d : ℕ) : Type 0 where
  pub kept_is : k + kept (jobs_from at count i) (drop i marks) ≡ kept (places at count) marks
  pub discarded_is : d + discarded (jobs_from at count i) (drop i marks) ≡ discarded (places at count) marks
  pub few : k + d ≤ i

module _ (at : ℕ → Job) (count : ℕ) (marks : List Bool) where
  -- no part is counted yet
  pub counted_start : Counted at count marks 0 0 0
  counted_start = record { kept_is = rw (left_start at count) (omega arith); discarded_is = rw (left_start at count) (omega arith); few = omega arith }

  module _ (size : length marks ≡ count) (i k d part : ℕ) (l : i < count) (part-is : part ≡ count_one (at i)) (c : Counted at count marks i k d) where
    -- the mark of the job, and those after it
    marks-step : drop i marks ≡ get_or marks i false ∷ drop (i + 1) marks
    marks-step = rw add-one (drop-cons marks i false (omega arith))

    -- the part of the job is kept
    pub counted-kept : get_or marks i false ≡ true → Counted at count marks (i + 1) (k + part) d
    unfolding kept_worth discarded_worth
    counted-kept e =
        let keep = rw (left_step at count i l, marks-step, e) at c.kept_is in
        let discard = rw (left_step at count i l, marks-step, e) at c.discarded_is in
        record { kept_is = omega arith; discarded_is = omega arith; few = omega (arith, c.few, count_one-most (at i)) }

    -- or discarded
    pub counted-discarded : get_or marks i false ≡ false → Counted at count marks (i + 1) k (d + part)
    unfolding kept_worth discarded_worth
    counted-discarded e =
        let keep = rw (left_step at count i l, marks-step, e) at c.kept_is in
        let discard = rw (left_step at count i l, marks-step, e) at c.discarded_is in
        record { kept_is = omega arith; discarded_is = omega arith; few = omega (arith, c.few, count_one-most (at i)) }

  -- every part is counted
  pub counted_end : (i k d : ℕ) → count ≤ i → Counted at count marks i k d → (k ≡ kept (places at count) marks) × (d ≡ discarded (places at count) marks)
  unfolding kept_worth discarded_worth
  counted_end i k d l c =
      let keep = rw (left_end at count i l) at c.kept_is in
      let discard = rw (left_end at count i l) at c.discarded_is in
      (omega arith, omega arith)

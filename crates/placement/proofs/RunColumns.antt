-- Runs in three columns of numbers: one is put in, or put in front.
use Prim.Native.Nat.{ℕ, suc, ◌-◌, ◌≤◌, ◌<◌}
use mathlib.Core.Path.{◌≡◌, refl, ◌∙◌}
use mathlib.Core.Logic.{◌≢◌}
use mathlib.Core.List.{List}
use native.Mathlib.Omega.{arith}
use lib.ListN.{length, get_or, set}
use lib.Seq.{get_or-set_same, get_or-set_other}
use Rattle.columns.specs.Columns.{inserted_at}
use Rattle.columns.proofs.ColumnLaws.{inserted_below, inserted_here, inserted_above}
use Rattle.schedule.specs.Runs.{run_at_index}
use Rattle.placement.specs.GapFilling.{run_below}
use Rattle.placement.specs.HeldRuns.{RunInserted}

module _ (starts ends tasks : List ℕ) (at i top n : ℕ) where
  -- where each number of a run is put into its column at one place, the run is put in there
  pub columns_inserted : (end : ℕ) (newStarts newEnds newTasks : List ℕ) → at ≤ end
      → ((j : ℕ) → get_or newStarts j 0 ≡ inserted_at at end (top - n) (λ k. get_or starts k 0) j)
      → ((j : ℕ) → get_or newEnds j 0 ≡ inserted_at at end top (λ k. get_or ends k 0) j)
      → ((j : ℕ) → get_or newTasks j 0 ≡ inserted_at at end i (λ k. get_or tasks k 0) j)
      → RunInserted at end (run_below i top n) (run_at_index starts ends tasks) (run_at_index newStarts newEnds newTasks)
  unfolding run_at_index
  columns_inserted end newStarts newEnds newTasks l s e t =
      record {
        below = λ j b.
            rw (
              s j ∙ inserted_below at end (top - n) (λ k. get_or starts k 0) j b,
              e j ∙ inserted_below at end top (λ k. get_or ends k 0) j b,
              t j ∙ inserted_below at end i (λ k. get_or tasks k 0) j b,
            );
        here =
            rw (
              s at ∙ inserted_here at end (top - n) (λ k. get_or starts k 0) at refl,
              e at ∙ inserted_here at end top (λ k. get_or ends k 0) at refl,
              t at ∙ inserted_here at end i (λ k. get_or tasks k 0) at refl,
            );
        above = λ j a b.
            let back : suc j - 1 ≡ j = omega arith in
            rw (
              s (suc j) ∙ inserted_above at end (top - n) (λ k. get_or starts k 0) (suc j) (omega arith) (omega arith),
              e (suc j) ∙ inserted_above at end top (λ k. get_or ends k 0) (suc j) (omega arith) (omega arith),
              t (suc j) ∙ inserted_above at end i (λ k. get_or tasks k 0) (suc j) (omega arith) (omega arith),
              back,
            );
      }

  -- where each number is set, the run stands there
  pub columns_here : at < length starts → at < length ends → at < length tasks
      → run_at_index (set starts at (top - n)) (set ends at top) (set tasks at i) at ≡ run_below i top n
  unfolding run_at_index
  columns_here s e t =
      rw (get_or-set_same starts at (top - n) 0 s, get_or-set_same ends at top 0 e, get_or-set_same tasks at i 0 t)

  -- and the others stand as before
  pub columns_other : (j : ℕ) → j ≢ at → run_at_index (set starts at (top - n)) (set ends at top) (set tasks at i) j ≡ run_at_index starts ends tasks j
  unfolding run_at_index
  columns_other j l =
      rw (get_or-set_other starts at j (top - n) 0 l, get_or-set_other ends at j top 0 l, get_or-set_other tasks at j i 0 l)

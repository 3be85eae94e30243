-- What the two passes over runs share, of a list and of columns.
use Prim.Native.Nat.{ℕ, ◌+◌, ◌-◌, ◌^◌, ◌≤◌, ◌<◌}
use mathlib.Core.Path.{◌≡◌, sym, ◌∙◌}
use mathlib.Core.Bool.{Bool, true, false}
use mathlib.Core.List.{List}
use native.Mathlib.Omega.{arith}
use borrow.Author.Tests.{ltb-true}
use lib.Dec.{leb, ltb}
use lib.ListN.{length, get_or, set}
use Rattle.base.specs.Limits.{max_tasks}
use Rattle.base.specs.Tests.{and}
use Rattle.base.proofs.TestLaws.{and_left}
use Rattle.schedule.specs.declared.Job.{Job}
use Rattle.schedule.specs.Runs.{run_at_index, runs_of}
use Rattle.schedule.specs.Passing.{run_fits, passes}
use Rattle.schedule.proofs.ColumnLaws.{columns_length, runs_at_lem}
use Rattle.schedule.proofs.PassLaws.{PassedUpTo, passed_task, passed_run, passed_step}

-- a run that fits is not empty
pub run_in : (job : Job) (from start end : ℕ) → run_fits job from start end ≡ true → start < end
unfolding run_fits
run_in job from start end e =
    ltb-true start end (and_left (ltb start end) (and (leb from start) (and (leb job.release start) (leb end job.deadline))) e)

-- whether a run fits its job, where the job is the one that stands at its task
pub fits_there : (job there : Job) (from start end : ℕ) (said value : Bool) → job ≡ there → said ≡ run_fits job from start end → said ≡ value
    → run_fits there from start end ≡ value
fits_there job there from start end said value j e v = rw (← j) (sym e ∙ v)

-- The pass over columns, by what they hold at the index.
module _ (job : ℕ → Job) (n : ℕ) (starts ends tasks totals : List ℕ) (from i : ℕ) (p : PassedUpTo job n (runs_of starts ends tasks) totals from i)
    (l : i < length starts) where
  within : i < length (runs_of starts ends tasks)
  within = omega (arith, columns_length starts ends tasks)

  -- a task that is not in the table
  pub column_unknown : n ≤ get_or tasks i 0 → passes job n 0 (runs_of starts ends tasks) ≡ false
  unfolding run_at_index
  column_unknown h =
      passed_task job n (runs_of starts ends tasks) totals from i p within (rw (runs_at_lem starts ends tasks i l) h)

  -- a run that does not fit
  pub column_bad : get_or tasks i 0 < n → run_fits (job (get_or tasks i 0)) from (get_or starts i 0) (get_or ends i 0) ≡ false
      → passes job n 0 (runs_of starts ends tasks) ≡ false
  unfolding run_at_index
  column_bad h e =
      passed_run job n (runs_of starts ends tasks) totals from i p within (rw (runs_at_lem starts ends tasks i l) h) (rw (runs_at_lem starts ends tasks i l) e)

  -- a run that fits, and its ticks added to its task's total
  pub column_step : get_or tasks i 0 < n → n ≤ max_tasks → run_fits (job (get_or tasks i 0)) from (get_or starts i 0) (get_or ends i 0) ≡ true
      → get_or ends i 0 < 2 ^ 32
      → PassedUpTo job n (runs_of starts ends tasks) (set totals (get_or tasks i 0) (get_or totals (get_or tasks i 0) 0 + (get_or ends i 0 - get_or starts i 0))) (get_or ends i 0) (i + 1)
  unfolding run_at_index
  column_step h m e w =
      rw (runs_at_lem starts ends tasks i l) at
      (passed_step job n (runs_of starts ends tasks) totals from i p within (rw (runs_at_lem starts ends tasks i l) h) m (rw (runs_at_lem starts ends tasks i l) e)
      (rw (runs_at_lem starts ends tasks i l) w))

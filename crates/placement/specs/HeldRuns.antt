-- For the proofs of placing's, sequencing's and planner's code alone: the runs found so far, as placing's code holds them while jobs are filled in, by
-- start, in columns, at the places from a first to an end; and the lent columns that runs are put into.
use Rattle.std.specs.Borrow.{MutBor}
use Rattle.std.specs.Prelude.{ℕ, zero, suc, ◌+◌, ◌-◌, ◌≤◌, ◌<◌, ◌≡◌, List, [], ◌∷◌, ◌++◌, length}
use Rattle.base.specs.Limits.{max_tasks, most_runs, max_plan_runs}
use Rattle.base.specs.Lent.{WrittenParameter, written_front}
use Rattle.schedule.specs.declared.Job.{Job}
use Rattle.schedule.specs.declared.Run.{Run}
use Rattle.schedule.specs.Runs.{run_at_index, starts_of, ends_of, tasks_of}
use Rattle.placement.specs.declared.Span.{Span}
use Rattle.placement.specs.GapFilling.{fill}

-- the n runs that stand from place `low` on, the latest first
unfoldable pub down_from : (ℕ → Run) → ℕ → ℕ → List Run
down_from at low zero = []
down_from at low (suc n) = at (low + n) ∷ down_from at low n

-- the runs that stand from place `first`, included, to `end`, excluded, the latest first
unfoldable pub runs_down : (ℕ → Run) → ℕ → ℕ → List Run
runs_down at first end = down_from at first (end - first)

-- there is no gap above any of the runs, which stand latest first; the first gap is measured from `top`
abbrev pub Closed : ℕ → List Run → Type 0
Closed top [] = Unit {0}
Closed top (run ∷ runs) = (top ≤ run.end) × Closed run.start runs

-- where the gap below all runs ends: the start of the last of them, and `top` where there is none
unfoldable pub bottom_of : ℕ → List Run → ℕ
bottom_of top [] = top
bottom_of top (run ∷ runs) = bottom_of run.start runs

-- a run was put in at place `at`: what stood from there to `end`, excluded, stands one place higher
pub record RunInserted (at end : ℕ) (run : Run) (old new : ℕ → Run) : Type 0 where
  pub below : (j : ℕ) → j < at → new j ≡ old j
  pub here : new at ≡ run
  pub above : (j : ℕ) → at ≤ j → j < end → new (suc j) ≡ old j

-- the runs of a span stand so: place `closed` is one of theirs, unless there is none, and up to it, included, there is no gap between them
pub record Held (span : Span) (at : ℕ → Run) : Type 0 where
  pub low : span.first ≤ span.closed
  pub high : span.closed ≤ span.end
  pub empty : span.end ≤ span.closed → span.end ≤ span.first
  pub unbroken : Closed (at span.closed).start (runs_down at span.first span.closed)

-- the runs of a span, latest first, once w ticks of a job are filled in
abbrev pub job_filled : Span → Job → ℕ → (ℕ → Run) → List Run
job_filled span job w at = fill job.position job.release (runs_down at span.first span.end) job.deadline w

-- w ticks of a job are filled into the gaps above the runs of a span: the runs now end at place `end`, and the ticks that are left go below
-- them; where some are left, no gap above a run is
pub record FilledAbove (span : Span) (job : Job) (w : ℕ) (old : ℕ → Run) (end left : ℕ) (new : ℕ → Run) : Type 0 where
  pub held : Held (record { first = span.first; closed = span.closed; end = end }) new
  pub joined : runs_down new span.first end
      ++ fill job.position job.release [] (bottom_of job.deadline (runs_down new span.first end)) left
      ≡ job_filled span job w old
  pub closed : 0 < left → Closed job.deadline (runs_down new span.first end)

-- the columns have the places that they need: one for each of the most tasks below the runs, and then one for each of the most runs
abbrev pub Room : List ℕ → List ℕ → List ℕ → Type 0
Room starts ends tasks =
    (length starts ≡ max_tasks + max_plan_runs) × (length ends ≡ max_tasks + max_plan_runs) × (length tasks ≡ max_tasks + max_plan_runs)

-- three lists after the columns of runs were written at their fronts; beyond them each keeps its content
abbrev pub FrontsWritten : List Run → List ℕ → List ℕ → List ℕ → List ℕ → List ℕ → List ℕ → Type 0
FrontsWritten runs starts ends tasks newStarts newEnds newTasks =
    (newStarts ≡ written_front (starts_of runs) starts)
    × (newEnds ≡ written_front (ends_of runs) ends)
    × (newTasks ≡ written_front (tasks_of runs) tasks)

-- the same of columns that were lent to a call
abbrev pub RunsPut : List Run → WrittenParameter → WrittenParameter → WrittenParameter → Type 0
RunsPut runs starts ends tasks =
    FrontsWritten runs starts.entry.now ends.entry.now tasks.entry.now starts.exit.now ends.exit.now tasks.exit.now

-- three lists have room for the runs of n tasks
abbrev pub RunsRoom : ℕ → List ℕ → List ℕ → List ℕ → Type 0
RunsRoom n starts ends tasks = (most_runs n ≤ length starts) × (most_runs n ≤ length ends) × (most_runs n ≤ length tasks)

-- what the places of three lent columns hold: for a `requires`, and in an `ensures` as the call begins and as it returns
abbrev pub places_now : MutBor (List ℕ) → MutBor (List ℕ) → MutBor (List ℕ) → ℕ → Run
places_now starts ends tasks = run_at_index starts.now ends.now tasks.now

abbrev pub places_before : WrittenParameter → WrittenParameter → WrittenParameter → ℕ → Run
places_before starts ends tasks = places_now starts.entry ends.entry tasks.entry

abbrev pub places_after : WrittenParameter → WrittenParameter → WrittenParameter → ℕ → Run
places_after starts ends tasks = places_now starts.exit ends.exit tasks.exit

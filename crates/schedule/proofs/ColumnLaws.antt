-- Laws of runs and their columns.
use Prim.Native.Nat.{ℕ, ◌<◌}
use mathlib.Core.Path.{◌≡◌, refl, sym, ap}
use mathlib.Core.List.{List}
use lib.Dec.{ltb}
use lib.ListN.{length, get_or, length-map, get_or-map}
use Rattle.base.specs.Limits.{max_runs}
use Rattle.base.proofs.PlaceLaws.{places_is, places_length, places_at}
use Rattle.schedule.specs.declared.Run.{Run}
use Rattle.schedule.specs.Runs.{no_run, too_many, run_at_index, runs_of, starts_of, ends_of, tasks_of}

-- the columns of a run list are the run list
pub columns_runs : (runs : List Run) → runs_of (starts_of runs) (ends_of runs) (tasks_of runs) ≡ runs
unfolding runs_of run_at_index
columns_runs runs =
    rw (length-map runs (λ run. run.start))
    (sym (places_is (run_at_index (starts_of runs) (ends_of runs) (tasks_of runs)) (length runs) no_run runs refl
    (λ k h. sym (rw (get_or-map (λ (run : Run). run.start) runs k no_run, get_or-map (λ (run : Run). run.end) runs k no_run, get_or-map (λ (run : Run). run.task) runs k no_run)))))

-- columns are as many runs as they have starts
pub columns_length : (starts ends tasks : List ℕ) → length (runs_of starts ends tasks) ≡ length starts
unfolding runs_of
columns_length starts ends tasks = places_length (run_at_index starts ends tasks) (length starts)

pub columns_many : (starts ends tasks : List ℕ) → too_many (runs_of starts ends tasks) ≡ ltb max_runs (length starts)
unfolding too_many
columns_many starts ends tasks = rw (columns_length starts ends tasks)

module _ (starts ends tasks : List ℕ) where
  -- at each index the list has the run of the columns, with its start and its end
  pub runs_at_lem : (k : ℕ) → k < length starts → get_or (runs_of starts ends tasks) k no_run ≡ run_at_index starts ends tasks k
  unfolding runs_of
  runs_at_lem k l = places_at (run_at_index starts ends tasks) (length starts) k no_run l

  pub start_at_lem : (k : ℕ) → k < length starts → (get_or (runs_of starts ends tasks) k no_run).start ≡ get_or starts k 0
  unfolding run_at_index
  start_at_lem k l = ap (λ (run : Run). run.start) (runs_at_lem k l)

  pub end_at : (k : ℕ) → k < length starts → (get_or (runs_of starts ends tasks) k no_run).end ≡ get_or ends k 0
  unfolding run_at_index
  end_at k l = ap (λ (run : Run). run.end) (runs_at_lem k l)

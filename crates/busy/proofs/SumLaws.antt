-- What the code adds up is the sum of the definitions, and the two replies.
use Prim.Native.Nat.{ℕ, ◌+◌, ◌<◌}
use mathlib.Core.Path.{◌≡◌, refl, sym, ap, ◌∙◌}
use mathlib.Core.List.{List, [], ◌∷◌, map}
use native.Mathlib.Omega.{arith}
use lib.ListN.{length, get_or, length-map, get_or-map}
use lib.Seq.{ext_get_or}
use Rattle.std.specs.Prelude.{Err}
use Rattle.std.specs.List.{sum_by, zip}
use Rattle.std.proofs.lemmas.List.Sums.{sum_by-cons}
use Rattle.std.proofs.lemmas.Slice.Zip.{get_or-zip, length-zip}
use Rattle.base.specs.Sums.{total}
use Rattle.schedule.specs.declared.Run.{Run}
use Rattle.schedule.specs.declared.RunsRefusal.{RunsRefusal}
use Rattle.schedule.specs.Runs.{no_run, run_of, run_at_index, runs_of, sum_runs}
use Rattle.schedule.specs.RunCheck.{Accepted, check_answer, refusal_number, refusal_place}
use Rattle.schedule.specs.BusyCount.{shared, busy_reply}
use Rattle.schedule.proofs.ColumnLaws.{columns_length, runs_at_lem}

-- std's sum over a list is that of the definitions over its numbers
sum_total : {X : Type 0} (number : X → ℕ) (xs : List X) → sum_by number xs ≡ total (map number xs)
sum_total number [] = refl
sum_total number (x ∷ xs) = sum_by-cons number x xs ∙ ap (λ (n : ℕ). number x + n) (sum_total number xs)

-- so it is of a run list
pub same_sum : (number : Run → ℕ) (runs : List Run) → sum_by number runs ≡ sum_runs number runs
same_sum number runs = sum_total number runs

-- and over the starts beside the ends it is that of the run list that the columns are
module _ (starts ends tasks : List ℕ) (long : length starts ≡ length ends) (a b : ℕ) where
  -- what a start and an end share with the interval, and what the run at their index shares
  abbrev pair_shared : ℕ × ℕ → ℕ
  pair_shared x = shared a b (run_of x.0 x.1 0)

  shared_there : (k : ℕ) → k < length starts → pair_shared (get_or (zip starts ends) k (0, 0)) ≡ shared a b (get_or (runs_of starts ends tasks) k no_run)
  unfolding shared run_at_index
  shared_there k l =
      rw (get_or-zip starts ends k (0, 0) l (omega arith), runs_at_lem starts ends tasks k l)

  shared_each : map pair_shared (zip starts ends) ≡ map (shared a b) (runs_of starts ends tasks)
  shared_each =
      let pairs = zip starts ends in
      let runs = runs_of starts ends tasks in
      let many : length pairs ≡ length runs = omega (arith, length-zip starts ends, columns_length starts ends tasks) in
      ext_get_or (shared a b no_run) (map pair_shared pairs) (map (shared a b) runs) (length-map pairs pair_shared ∙ (many ∙ sym (length-map runs (shared a b))))
      (λ k l.
      let within : k < length starts = omega (arith, l, length-map pairs pair_shared, length-zip starts ends) in
      get_or-map pair_shared pairs k (0, 0) ∙ (shared_there k within ∙ sym (get_or-map (shared a b) runs k no_run)))

  pub columns_sum : sum_by pair_shared (zip starts ends) ≡ sum_runs (shared a b) (runs_of starts ends tasks)
  columns_sum = sum_total pair_shared (zip starts ends) ∙ ap total shared_each

module _ (runs : List Run) (a b : ℕ) where
  -- the two replies: what the check refuses, and the sum
  pub reply_refused : (refusal : RunsRefusal) → Err refusal ≡ check_answer runs
      → record { number = refusal_number refusal; place = refusal_place refusal; ticks = 0 } ≡ busy_reply runs a b
  unfolding busy_reply
  reply_refused refusal e = rw (← e)

  pub reply_sum : (ticks : ℕ) → check_answer runs ≡ Accepted → ticks ≡ sum_runs (shared a b) runs → record { number = 0; place = 0; ticks = ticks } ≡ busy_reply runs a b
  unfolding busy_reply
  reply_sum ticks accepted h = rw (accepted, h)

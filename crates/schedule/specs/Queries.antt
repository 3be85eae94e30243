-- Queries of a run list, whoever made it: the run at a tick, the first run that starts at or after a tick, and the runs that share a tick with an interval.
-- What the check refuses, they refuse.
use Rattle.std.specs.Prelude.{ℕ, ◌≤◌, ◌<◌, List, [], ◌∷◌, ◌++◌, ◌≡◌, ◌↔◌, Bool, true, false, leb, ltb, eqb, length, get_or, Option, Some, None, Result, Ok, Err, is_some, unwrap_or}
use Rattle.base.specs.Tests.{pick}
use Rattle.base.specs.Lowest.{lowest}
use Rattle.base.specs.Members.{All, Any}
use Rattle.schedule.specs.declared.Run.{Run}
use Rattle.schedule.specs.declared.RunsRefusal.{RunsRefusal}
use Rattle.schedule.specs.declared.Stretch.{Stretch}
use Rattle.schedule.specs.Runs.{no_run, run_holds}
use Rattle.schedule.specs.RunCheck.{RunsChecked, Accepted, check_answer, refusal_number, refusal_place, runs_accepted}
use Rattle.schedule.specs.BusyCount.{shared}

-- The two queries for one run.

-- the first run of a list that passes a test, or none
unfoldable pub first_run : (Run → Bool) → List Run → Option Run
first_run test [] = None
first_run test (run ∷ runs) = pick (test run) (Some run) (first_run test runs)

-- the run starts at the tick or after it
abbrev pub starts_from_tick : ℕ → Run → Bool
starts_from_tick tick run = leb tick run.start

-- what a query for one run answers: the run, or that there is none; or why the check refuses the list
abbrev pub Found : Type 0
Found = Result (Option Run) RunsRefusal

-- the answer of a query after the check of the list: why the check refuses it, or the run that was found, or that there is none
abbrev pub after_check : RunsChecked → Option Run → Found
after_check (Ok done) run = Ok run
after_check (Err refusal) run = Err refusal

-- the answer of the query for the first run of a list that passes a test
unfoldable pub found_first : (Run → Bool) → List Run → Found
found_first test runs = after_check (check_answer runs) (first_run test runs)

-- the run that holds the tick: in a list that is accepted there is at most one
abbrev pub run_at_tick : List Run → ℕ → Found
run_at_tick runs tick = found_first (λ run. run_holds run tick) runs

-- the first in the list that starts at the tick or after it
abbrev pub run_from_tick : List Run → ℕ → Found
run_from_tick runs tick = found_first (starts_from_tick tick) runs

-- of each case of an answer the number, the place and the values: whether there is a run, and the run, which is 0 throughout where there is none
abbrev pub found_number : Found → ℕ
found_number (Ok run) = 0
found_number (Err refusal) = refusal_number refusal

abbrev pub found_place : Found → ℕ
found_place (Ok run) = 0
found_place (Err refusal) = refusal_place refusal

abbrev pub is_found : Found → Bool
is_found (Ok run) = is_some run
is_found (Err refusal) = false

abbrev pub run_found : Found → Run
run_found (Ok run) = unwrap_or run no_run
run_found (Err refusal) = no_run

-- What the two answers mean.

-- a run is answered for a tick exactly where it is a member that holds the tick, none exactly where no member does, and runs at two indices never both
-- hold the tick
pub record HolderAnswered (runs : List Run) (tick : ℕ) (answer : Found) : Type 0 where
  pub run_is : (run : Run) → (answer ≡ Ok (Some run)) ↔ (Any (λ other. other ≡ run) runs × (run_holds run tick ≡ true))
  pub none_is : (answer ≡ Ok None) ↔ All (λ run. run_holds run tick ≡ false) runs
  pub alone : (i k : ℕ) → i < length runs → k < length runs
      → run_holds (get_or runs i no_run) tick ≡ true → run_holds (get_or runs k no_run) tick ≡ true → i ≡ k

-- so it is where the check accepts the list
abbrev pub HoldsTick : List Run → ℕ → Found → Type 0
HoldsTick runs tick answer = check_answer runs ≡ Accepted → HolderAnswered runs tick answer

-- a run is the first from a tick on: it stands at an index of the list and starts at the tick or after it, and every run before it starts before the tick
pub record IsFirstFrom (runs : List Run) (tick : ℕ) (run : Run) : Type 0 where
  pub index : ℕ
  pub within : index < length runs
  pub there : get_or runs index no_run ≡ run
  pub starts_from : tick ≤ run.start
  pub starts_before : (k : ℕ) → k < index → (get_or runs k no_run).start < tick

-- a run is answered exactly where it is the first from the tick on, none exactly where every run starts before the tick
pub record FirstAnswered (runs : List Run) (tick : ℕ) (answer : Found) : Type 0 where
  pub run_is : (run : Run) → (answer ≡ Ok (Some run)) ↔ IsFirstFrom runs tick run
  pub none_is : (answer ≡ Ok None) ↔ All (λ run. run.start < tick) runs

-- so it is where the check accepts the list
abbrev pub FirstFrom : List Run → ℕ → Found → Type 0
FirstFrom runs tick answer = check_answer runs ≡ Accepted → FirstAnswered runs tick answer

-- The query for an interval.

-- the run shares a tick with the interval from a to b: some tick of the interval is one that the run holds
abbrev pub SharesTick : ℕ → ℕ → Run → Type 0
SharesTick a b run = (tick : ℕ) × (a ≤ tick) × (tick < b) × (run_holds run tick ≡ true)

-- the test for it: the ticks that the run shares with the interval are not none
abbrev pub touches : ℕ → ℕ → Run → Bool
touches a b run = ltb 0 (shared a b run)

-- the runs of a list that pass a test, in their order
unfoldable pub runs_that : (Run → Bool) → List Run → List Run
runs_that test [] = []
runs_that test (run ∷ runs) = pick (test run) (run ∷ runs_that test runs) (runs_that test runs)

-- the runs that share a tick with the interval, all of them and no other; none where the list is refused
unfoldable pub touching : List Run → ℕ → ℕ → List Run
touching runs a b = pick (runs_accepted (check_answer runs)) (runs_that (touches a b) runs) []

-- where they stand in the list: the index of the first and how many they are; both are 0 where there is none
unfoldable pub stretch_of : List Run → ℕ → ℕ → Stretch
stretch_of runs a b =
    pick (eqb (length (touching runs a b)) 0) (record { first = 0; runs = 0 })
    (record { first = lowest (λ k. touches a b (get_or runs k no_run)) (length runs); runs = length (touching runs a b) })

-- runs are one unbroken stretch of a list: what stands before it and what stands behind it make up the rest; each run of the stretch is P, and none of
-- the rest is
pub record Unbroken (P : Run → Type 0) (runs stretch : List Run) : Type 0 where
  pub before : List Run
  pub behind : List Run
  pub whole : runs ≡ before ++ (stretch ++ behind)
  pub inside : All P stretch
  pub left_out : All (λ run. P run → ⊥) before × All (λ run. P run → ⊥) behind

-- the runs answered for an interval are one unbroken stretch of a list that is accepted: each shares a tick with the interval, and none of the others does
abbrev pub TouchingStretch : ℕ → ℕ → List Run → List Run → Type 0
TouchingStretch a b runs stretch = check_answer runs ≡ Accepted → Unbroken (SharesTick a b) runs stretch

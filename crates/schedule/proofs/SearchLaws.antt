-- Laws of run lists by index, on which the code of the queries rests: at which indices the runs stand that a query for one run answers.
use Prim.Native.Nat.{ℕ, zero, suc, ◌+◌, ◌≤◌, ◌<◌}
use mathlib.Core.Path.{◌≡◌, refl}
use mathlib.Core.List.{List, [], ◌∷◌}
use mathlib.Core.Bool.{Bool, true, false}
use native.Mathlib.Omega.{arith}
use native.Mathlib.Decide.{dec_lt}
use lib.Dec.{leb}
use lib.ListN.{length, get_or}
use borrow.Author.Tests.{leb-true, leb-false, le-leb, lt-leb}
use Rattle.std.specs.Prelude.{Option, Some, None, Ok, Err}
use Rattle.base.specs.Lowest.{lowest}
use Rattle.base.proofs.TestLaws.{both_absurd}
use Rattle.base.proofs.LowestLaws.{before, passes}
use Rattle.schedule.specs.declared.Run.{Run}
use Rattle.schedule.specs.Runs.{no_run, run_holds}
use Rattle.schedule.specs.RunCheck.{RunsChecked, Accepted, check_answer, runs_accepted}
use Rattle.schedule.specs.Queries.{first_run, after_check, found_first, run_at_tick, run_from_tick, starts_from_tick}
use Rattle.schedule.proofs.RunLaws.{in_holds, before_holds, after_holds}
use Rattle.schedule.proofs.CheckLaws.{accepted_order, starts_rise}

-- The first run that passes a test.

-- it stands at the lowest index that passes,
pub first_some : (test : Run → Bool) (runs : List Run) (k : ℕ) → k < length runs → test (get_or runs k no_run) ≡ true
    → ((j : ℕ) → j < k → test (get_or runs j no_run) ≡ false) → first_run test runs ≡ Some (get_or runs k no_run)
unfolding first_run
first_some test [] k l e h = absurd (omega arith)
first_some test (run ∷ runs) zero l e h = rw e
first_some test (run ∷ runs) (suc k) l e h = rw (h 0 (omega arith)) (first_some test runs k (omega arith) e (λ j m. h (suc j) (omega arith)))

-- and there is none where no index passes
pub first_none : (test : Run → Bool) (runs : List Run) → ((k : ℕ) → k < length runs → test (get_or runs k no_run) ≡ false) → first_run test runs ≡ None
unfolding first_run
first_none test [] h = refl
first_none test (run ∷ runs) h = rw (h 0 (omega arith)) (first_none test runs (λ k l. h (suc k) (omega arith)))

-- where the check refuses the list, the query answers with the refusal alone
pub first_refused : (test : Run → Bool) (runs : List Run) → runs_accepted (check_answer runs) ≡ false → found_first test runs ≡ after_check (check_answer runs) None
unfolding found_first
first_refused test runs = refused (check_answer runs) (first_run test runs)
  where
    refused : (answer : RunsChecked) (run : Option Run) → runs_accepted answer ≡ false → after_check answer run ≡ after_check answer None
    refused (Ok done) run e = both_absurd true refl e
    refused (Err refusal) run e = refl

-- the run at an index ends after a tick; it starts at a tick or after it
abbrev pub ends_after : List Run → ℕ → ℕ → Bool
ends_after runs tick k = leb (tick + 1) (get_or runs k no_run).end

abbrev pub starts_from_at : List Run → ℕ → ℕ → Bool
starts_from_at runs tick k = starts_from_tick tick (get_or runs k no_run)

-- the first index whose run does, and the number of runs where none does
abbrev pub first_ending : List Run → ℕ → ℕ
first_ending runs tick = lowest (ends_after runs tick) (length runs)

abbrev pub first_starting : List Run → ℕ → ℕ
first_starting runs tick = lowest (starts_from_at runs tick) (length runs)

module _ (runs : List Run) (tick : ℕ) where
  -- the runs before it do not, and its run does
  pub ended_before : (k : ℕ) → k < first_ending runs tick → (get_or runs k no_run).end ≤ tick
  ended_before k l = omega (arith, leb-false (tick + 1) (get_or runs k no_run).end (before (ends_after runs tick) (length runs) k l))

  pub ending_after : first_ending runs tick < length runs → tick < (get_or runs (first_ending runs tick) no_run).end
  ending_after l = omega (arith, leb-true (tick + 1) (get_or runs (first_ending runs tick) no_run).end (passes (ends_after runs tick) (length runs) l))

  pub started_before : (k : ℕ) → k < first_starting runs tick → (get_or runs k no_run).start < tick
  started_before k l = leb-false tick (get_or runs k no_run).start (before (starts_from_at runs tick) (length runs) k l)

  pub starting_from : first_starting runs tick < length runs → tick ≤ (get_or runs (first_starting runs tick) no_run).start
  starting_from l = leb-true tick (get_or runs (first_starting runs tick) no_run).start (passes (starts_from_at runs tick) (length runs) l)

  -- The answers to the two queries for one run, on an accepted list.
  module _ (accepted : check_answer runs ≡ Accepted) where
    -- the run that holds the tick is the first that ends after it, where it has begun,
    pub at-found : first_ending runs tick < length runs → (get_or runs (first_ending runs tick) no_run).start ≤ tick
        → run_at_tick runs tick ≡ Ok (Some (get_or runs (first_ending runs tick) no_run))
    unfolding found_first
    at-found l h =
        let i = first_ending runs tick in
        rw (
          accepted,
          first_some (λ run. run_holds run tick) runs i l (in_holds (get_or runs i no_run) tick h (ending_after l))
              (λ j m. after_holds (get_or runs j no_run) tick (ended_before j m)),
        )

    -- none holds it where every run has ended,
    pub at_ended : length runs ≤ first_ending runs tick → run_at_tick runs tick ≡ Ok None
    unfolding found_first
    at_ended h =
        rw (accepted, first_none (λ run. run_holds run tick) runs (λ k l. after_holds (get_or runs k no_run) tick (ended_before k (omega arith))))

    -- or where the first that ends after the tick has not begun
    pub at-not-begun : tick < (get_or runs (first_ending runs tick) no_run).start → run_at_tick runs tick ≡ Ok None
    unfolding found_first
    at-not-begun h =
        rw (
          accepted,
          first_none (λ run. run_holds run tick) runs (λ k l.
              elim (dec_lt k (first_ending runs tick)) [
                | yes m ↦ after_holds (get_or runs k no_run) tick (ended_before k m)
                | no m ↦
                    before_holds (get_or runs k no_run) tick
                    (omega (arith, starts_rise runs (accepted_order runs accepted) (first_ending runs tick) k (omega arith) l))
              ]),
        )

    -- the first run that starts at the tick or after it, where there is one
    pub from_found : first_starting runs tick < length runs → run_from_tick runs tick ≡ Ok (Some (get_or runs (first_starting runs tick) no_run))
    unfolding found_first
    from_found l =
        let i = first_starting runs tick in
        rw (
          accepted,
          first_some (starts_from_tick tick) runs i l (le-leb tick (get_or runs i no_run).start (starting_from l))
              (λ j m. lt-leb tick (get_or runs j no_run).start (started_before j m)),
        )

    -- and none where every run starts before the tick
    pub from-started : length runs ≤ first_starting runs tick → run_from_tick runs tick ≡ Ok None
    unfolding found_first
    from-started h =
        rw (accepted, first_none (starts_from_tick tick) runs (λ k l. lt-leb tick (get_or runs k no_run).start (started_before k (omega arith))))

-- What the queries answer, in the words of the ticks that a run holds.
use Prim.Native.Nat.{ℕ, zero, suc, ◌+◌, ◌≤◌, ◌<◌, max}
use mathlib.Core.Path.{◌≡◌, sym, ap, ◌∙◌}
use mathlib.Core.Logic.{◌↔◌, inl, inr}
use mathlib.Core.List.{List, [], ◌∷◌}
use mathlib.Core.Bool.{Bool, true, false}
use native.Mathlib.Omega.{arith}
use native.Mathlib.Decide.{dec_lt}
use lib.Dec.{eqb}
use lib.ListN.{length, get_or, take, drop}
use borrow.Author.Tests.{leb-true, leb-false, le-leb, lt-leb, eqb-true}
use Rattle.std.specs.Prelude.{Option, Some, None, Ok}
use Rattle.base.specs.Lowest.{lowest}
use Rattle.base.specs.Members.{All, Any}
use Rattle.base.proofs.TestLaws.{cases, pick_same, pick_cases}
use Rattle.base.proofs.LowestLaws.{before, passes}
use Rattle.base.proofs.MemberLaws.{all_map, all_at}
use Rattle.schedule.specs.declared.Run.{Run}
use Rattle.schedule.specs.declared.Stretch.{Stretch}
use Rattle.schedule.specs.Runs.{no_run, run_holds}
use Rattle.schedule.specs.RunCheck.{Accepted, check_answer, runs_accepted}
use Rattle.schedule.specs.Queries.{Found, first_run, starts_from_tick, after_check, found_first, run_at_tick, run_from_tick, HoldsTick, FirstFrom}
use Rattle.schedule.specs.Queries.{touches, touching, stretch_of, SharesTick, TouchingStretch}
use Rattle.schedule.proofs.RunLaws.{run_holds_lem, in_holds}
use Rattle.schedule.proofs.CheckLaws.{accepted_is, accepted_order, ends_before, all_indices}
use Rattle.schedule.proofs.SearchLaws.{first_some, first_none}
use Rattle.schedule.proofs.StretchLaws.{touches_sides, touches_not, passing_none, Passes, unbroken_runs, unbroken_map, Stretched, stretched_unbroken}
use Rattle.schedule.proofs.StretchLaws.{interval_stretched, empty_stretched, stretch_is, touching_refused, stretch_refused}

-- The first run that passes a test.

-- one that is found is at an index, passes, and none before it does
found_first_lem : (test : Run → Bool) (runs : List Run) (run : Run) → first_run test runs ≡ Some run
    → (k : ℕ) × (k < length runs) × (get_or runs k no_run ≡ run) × (test run ≡ true) × ((j : ℕ) → j < k → test (get_or runs j no_run) ≡ false)
found_first_lem test runs run e =
    let at : ℕ → Bool = λ k. test (get_or runs k no_run) in
    let k = lowest at (length runs) in
    elim (dec_lt k (length runs)) [
      | yes l ↦
          let here = first_some test runs k l (passes at (length runs) l) (before at (length runs)) in
          let same : get_or runs k no_run ≡ run = cc in
          (k, l, same, rw same at (passes at (length runs) l), before at (length runs))
      | no l ↦
          let nowhere = first_none test runs (λ j m. before at (length runs) j (omega arith)) in
          let z : ◌≡◌ {A = ℕ} 0 1 = cc in
          absurd (omega arith)
    ]

-- where none is found, none passes
none_first : (test : Run → Bool) (runs : List Run) → first_run test runs ≡ None → All (λ run. test run ≡ false) runs
unfolding first_run
none_first test [] e = tt
none_first test (run ∷ runs) e =
    cases (test run)
    (λ t. let q : Some run ≡ None = rw t at e in let z : ◌≡◌ {A = ℕ} 0 1 = cc in absurd (omega arith))
    (λ t. (t, none_first test runs (rw t at e)))

-- what the answer on an accepted list tells of the run found, or of none
found_one : (o : Option Run) (run : Run) → after_check Accepted o ≡ Ok (Some run) → o ≡ Some run
found_one o run e = cc

found_none : (o : Option Run) → after_check Accepted o ≡ Ok None → o ≡ None
found_none o e = cc

-- So on an accepted list a run is answered exactly where it stands at an index, passes, and none before it does;
module _ (test : Run → Bool) (runs : List Run) (accepted : check_answer runs ≡ Accepted) where
  answered-run : (run : Run) → (found_first test runs ≡ Ok (Some run))
      ↔ ((k : ℕ) × (k < length runs) × (get_or runs k no_run ≡ run) × (test run ≡ true) × ((j : ℕ) → j < k → test (get_or runs j no_run) ≡ false))
  unfolding found_first
  answered-run run = (
    λ e. found_first_lem test runs run (found_one (first_run test runs) run (rw accepted at e)),
    λ f. rw (accepted, first_some test runs f.0 f.1 (rw f.2 f.3) f.4) (ap (λ (run : Run). Ok (Some run)) f.2),
  )

  -- and none exactly where none passes
  answered-none : (found_first test runs ≡ Ok None) ↔ All (λ run. test run ≡ false) runs
  unfolding found_first
  answered-none = (
    λ e. none_first test runs (found_none (first_run test runs) (rw accepted at e)),
    λ a. rw (accepted, first_none test runs (λ k l. all_at (λ run. test run ≡ false) no_run runs k l a)),
  )

-- a run at an index is a member, and a member stands at an index
at_member : (runs : List Run) (k : ℕ) (run : Run) → k < length runs → get_or runs k no_run ≡ run → Any (λ other. other ≡ run) runs
at_member [] k run l e = absurd (omega arith)
at_member (other ∷ runs) zero run l e = inl e
at_member (other ∷ runs) (suc k) run l e = inr (at_member runs k run (omega arith) e)

member_at : (runs : List Run) (run : Run) → Any (λ other. other ≡ run) runs → (k : ℕ) × (k < length runs) × (get_or runs k no_run ≡ run)
member_at [] run x' = absurd x'
member_at (other ∷ runs) run (inl e) = (0, omega arith, e)
member_at (other ∷ runs) run (inr m) = let r = member_at runs run m in let l = r.1 in (suc r.0, omega arith, r.2)

-- The run that holds a tick.

-- of an accepted list, two runs that hold a tick are one
at_most_one : (runs : List Run) → check_answer runs ≡ Accepted → (tick i k : ℕ) → i < length runs → k < length runs
    → run_holds (get_or runs i no_run) tick ≡ true → run_holds (get_or runs k no_run) tick ≡ true → i ≡ k
at_most_one runs accepted tick i k l m e f =
    let o = accepted_order runs accepted in
    let p = run_holds_lem (get_or runs i no_run) tick e in
    let q = run_holds_lem (get_or runs k no_run) tick f in
    elim (dec_lt i k) [
      | yes s ↦ absurd (omega (arith, ends_before runs o i k s m))
      | no s ↦ elim (dec_lt k i) [ yes r ↦ absurd (omega (arith, ends_before runs o k i r l)) | no r ↦ omega arith ]
    ]

-- so the first that holds it is the only one: what the answer means
pub holds_tick : (runs : List Run) (tick : ℕ) (answer : Found) → answer ≡ run_at_tick runs tick → HoldsTick runs tick answer
holds_tick runs tick answer is accepted =
    let holds : Run → Bool = λ run. run_holds run tick in
    let single = at_most_one runs accepted tick in
    rw is
    (record {
      run_is = λ run. (
        λ e. let f = (answered-run holds runs accepted run).0 e in (at_member runs f.0 run f.1 f.2, f.3),
        λ m.
            let r = member_at runs run m.0 in
            let k = r.0 in
            let here : run_holds (get_or runs k no_run) tick ≡ true = rw r.2 m.1 in
            (answered-run holds runs accepted run).1 (
              k,
              r.1,
              r.2,
              m.1,
              λ j l.
                  let in_List = r.1 in
                  cases (run_holds (get_or runs j no_run) tick)
                  (λ t. absurd (omega (arith, single j k (omega arith) in_List t here)))
                  (λ t. t),
            ),
      );
      none_is = answered-none holds runs accepted;
      alone = single;
    })

-- The first run that starts at a tick or after it: what the answer means.
pub first_from_lem : (runs : List Run) (tick : ℕ) (answer : Found) → answer ≡ run_from_tick runs tick → FirstFrom runs tick answer
first_from_lem runs tick answer is accepted =
    let from = starts_from_tick tick in
    rw is
    (record {
      run_is = λ run. (
        λ e.
            let f = (answered-run from runs accepted run).0 e in
            record {
              index = f.0;
              within = f.1;
              there = f.2;
              starts_from = leb-true tick run.start f.3;
              starts_before = λ k l. leb-false tick (get_or runs k no_run).start (f.4 k l);
            },
        λ f.
            (answered-run from runs accepted run).1 (
              f.index,
              f.within,
              f.there,
              le-leb tick run.start f.starts_from,
              λ k l. lt-leb tick (get_or runs k no_run).start (f.starts_before k l),
            ),
      );
      none_is = (
        λ e. all_map (λ run. from run ≡ false) (λ run. run.start < tick) runs (λ run. leb-false tick run.start) ((answered-none from runs accepted).0 e),
        λ a. (answered-none from runs accepted).1 (all_map (λ run. run.start < tick) (λ run. from run ≡ false) runs (λ run. lt-leb tick run.start) a),
      );
    })

-- The runs that share a tick with an interval.

-- a run passes the test exactly where some tick of the interval is one that it holds
touches_exactly : (a b : ℕ) (run : Run) → (touches a b run ≡ true) ↔ SharesTick a b run
touches_exactly a b run = (
  λ e.
      let s = (touches_sides a b run).0 e in
      (max run.start a, omega arith, omega arith, in_holds run (max run.start a) (omega arith) (omega arith)),
  λ t.
      let from = t.1 in
      let to = t.2 in
      let held = run_holds_lem run t.0 t.3 in
      (touches_sides a b run).1 (omega arith),
)

-- with an empty interval none does, and the query finds none
pub touches_none : (a b : ℕ) (run : Run) → b ≤ a → touches a b run ≡ false
touches_none a b run h = touches_not a b run (λ l s e. omega arith)

pub touching_none : (runs : List Run) (a b : ℕ) → b ≤ a → touching runs a b ≡ []
unfolding touching
touching_none runs a b h =
    rw (passing_none (touches a b) runs (all_indices (λ run. touches a b run ≡ false) runs (λ k l. touches_none a b (get_or runs k no_run) h)))
    (pick_same (runs_accepted (check_answer runs)) [])

-- of an accepted list they stand at indices without a gap
stands : (runs : List Run) (a b : ℕ) → check_answer runs ≡ Accepted → (first : ℕ) × (count : ℕ) × Stretched (touches a b) runs first count
stands runs a b accepted =
    elim (dec_lt a b) [
      | yes h ↦ (_, _, interval_stretched runs a b accepted h)
      | no h ↦ (0, 0, empty_stretched runs a b (omega arith))
    ]

-- where they stand is the stretch of the list that they are
touching_stretch : (runs : List Run) (a b first count : ℕ) → check_answer runs ≡ Accepted → Stretched (touches a b) runs first count
    → touching runs a b ≡ take count (drop first runs)
unfolding touching
touching_stretch runs a b first count accepted s =
    rw accepted
    (unbroken_runs (touches a b) runs (take count (drop first runs)) (stretched_unbroken (touches a b) runs first count s))

-- so they are one unbroken stretch of it: each of them shares a tick with the interval, and none of the others does
pub touching_unbroken : (runs : List Run) (a b : ℕ) → TouchingStretch a b runs (touching runs a b)
touching_unbroken runs a b accepted =
    let s = stands runs a b accepted in
    rw (touching_stretch runs a b s.0 s.1 accepted s.2)
    (unbroken_map (Passes (touches a b)) (SharesTick a b) runs (take s.1 (drop s.0 runs)) (touches_exactly a b)
    (stretched_unbroken (touches a b) runs s.0 s.1 s.2))

-- the stretch that the query answers is empty where there are none, and else where they stand
stretch_cases : (runs : List Run) (a b : ℕ) (P : Stretch → Type 0) → (touching runs a b ≡ [] → P (record { first = 0; runs = 0 }))
    → ((first count : ℕ) → touching runs a b ≡ take count (drop first runs) → first + count ≤ length runs
    → P (record { first = first; runs = count }))
    → P (stretch_of runs a b)
stretch_cases runs a b P f g =
    cases (runs_accepted (check_answer runs))
    (λ e.
    let accepted = accepted_is (check_answer runs) e in
    let s = stands runs a b accepted in
    let stretch = touching_stretch runs a b s.0 s.1 accepted s.2 in
    rw (stretch_is runs a b s.0 s.1 accepted s.2)
    (pick_cases P (eqb s.1 0)
    (λ z. f (stretch ∙ ap (λ n. take n (drop s.0 runs)) (eqb-true s.1 0 z)))
    (λ z. g s.0 s.1 stretch s.2.within)))
    (λ e. rw (stretch_refused runs a b e) (f (touching_refused runs a b e)))

-- so of any list it is the stretch of the runs that share a tick with the interval, and lies within the list
pub stretch_touching : (runs : List Run) (a b : ℕ) → take (stretch_of runs a b).runs (drop (stretch_of runs a b).first runs) ≡ touching runs a b
stretch_touching runs a b =
    stretch_cases runs a b (λ s. take s.runs (drop s.first runs) ≡ touching runs a b) (λ e. sym e) (λ first count e l. sym e)

pub stretch_within : (runs : List Run) (a b : ℕ) → (stretch_of runs a b).first + (stretch_of runs a b).runs ≤ length runs
stretch_within runs a b = stretch_cases runs a b (λ s. s.first + s.runs ≤ length runs) (λ e. omega arith) (λ first count e l. l)

-- Laws of runs: which ticks a run holds, who owns a tick, and how many ticks a task has.
use Prim.Native.Nat.{ℕ, zero, suc, ◌+◌, ◌-◌, ◌≤◌, ◌<◌, min}
use mathlib.Core.Path.{◌≡◌, refl}
use mathlib.Core.Logic.{◌↔◌, inl, inr}
use mathlib.Core.List.{List, [], ◌∷◌}
use mathlib.Core.Bool.{Bool, true, false}
use mathlib.Core.Option.{Option, none, some}
use native.Mathlib.Omega.{arith}
use lib.Dec.{leb, ltb, eqb}
use borrow.Author.Tests.{leb-true, leb-false, ltb-true, ltb-false, le-leb, lt-leb, lt-ltb, le-ltb, eqb-true}
use Rattle.base.specs.Tests.{pick, and}
use Rattle.base.proofs.TestLaws.{cases, both_absurd, and_true, and_left, and_right}
use Rattle.schedule.specs.Ticks.{is_task, is_owned, one_if, count_below, ticks_of, sum_below}
use Rattle.base.specs.Members.{All, Any, every_member}
use Rattle.schedule.specs.declared.Run.{Run}
use Rattle.schedule.specs.Runs.{run_holds, owner_of}
use Rattle.schedule.specs.Judging.{none_empty, follow_from, total_of}
use Rattle.schedule.proofs.TickLaws.{count_none, count_split}

-- a tick that a run holds is in it
pub run_holds_lem : (run : Run) (tick : ℕ) → run_holds run tick ≡ true → (run.start ≤ tick) × (tick < run.end)
run_holds_lem run tick e = (
  leb-true run.start tick (and_left (leb run.start tick) (ltb tick run.end) e),
  ltb-true tick run.end (and_right (leb run.start tick) (ltb tick run.end) e),
)

-- a run holds the ticks in it
pub in_holds : (run : Run) (tick : ℕ) → run.start ≤ tick → tick < run.end → run_holds run tick ≡ true
in_holds run tick h l = rw (le-leb run.start tick h, lt-ltb tick run.end l)

-- a run holds no tick before its start
pub before_holds : (run : Run) (tick : ℕ) → tick < run.start → run_holds run tick ≡ false
before_holds run tick h = rw (lt-leb run.start tick h)

-- a run holds no tick from its end on
pub after_holds : (run : Run) (tick : ℕ) → run.end ≤ tick → run_holds run tick ≡ false
after_holds run tick h =
    cases (leb run.start tick) (λ e. rw (e, le-ltb tick run.end h)) (λ e. rw e)

-- how many of the ticks below n a run holds
pub run_count : (run : Run) (n : ℕ) → count_below (run_holds run) n ≡ min run.end n - run.start
unfolding sum_below
run_count run zero = omega arith
run_count run (suc n) =
    let h = run_count run n in
    cases (leb run.start n)
    (λ e.
    cases (ltb n run.end)
    (λ f. rw (e, f) (omega (arith, leb-true run.start n e, ltb-true n run.end f)))
    (λ f. rw (e, f) (omega (arith, ltb-false n run.end f))))
    (λ e. rw e (omega (arith, leb-false run.start n e)))

-- every run of a list passes a test, said of each
pub every_each : (test : Run → Bool) (P : Run → Type 0) → ((run : Run) → (test run ≡ true) ↔ P run) → (runs : List Run)
    → (every_member test runs ≡ true) ↔ All P runs
unfolding every_member
every_each test P h [] = (λ e. tt, λ a. refl)
every_each test P h (run ∷ runs) = (
  λ e. ((h run).0 (and_left (test run) (every_member test runs) e), (every_each test P h runs).0 (and_right (test run) (every_member test runs) e)),
  λ a. and_true (test run) (every_member test runs) ((h run).1 a.0) ((every_each test P h runs).1 a.1),
)

-- where no run is empty, the first is not
pub first_nonempty : (run : Run) (runs : List Run) → none_empty (run ∷ runs) ≡ true → run.start < run.end
unfolding every_member
first_nonempty run runs e = ltb-true run.start run.end (and_left (ltb run.start run.end) (none_empty runs) e)

-- and the rest are not
pub rest_nonempty : (run : Run) (runs : List Run) → none_empty (run ∷ runs) ≡ true → none_empty runs ≡ true
unfolding every_member
rest_nonempty run runs e = and_right (ltb run.start run.end) (none_empty runs) e

-- in order, the first run starts where it may
pub first_follows : (from : ℕ) (run : Run) (runs : List Run) → follow_from from (run ∷ runs) ≡ true → from ≤ run.start
unfolding follow_from
first_follows from run runs e = leb-true from run.start (and_left (leb from run.start) (follow_from run.end runs) e)

-- and the rest follow its end
pub rest_follow : (from : ℕ) (run : Run) (runs : List Run) → follow_from from (run ∷ runs) ≡ true → follow_from run.end runs ≡ true
unfolding follow_from
rest_follow from run runs e = and_right (leb from run.start) (follow_from run.end runs) e

-- in order, every tick that is owned is where the first run may start, or later
pub owned_from : (from : ℕ) (runs : List Run) → none_empty runs ≡ true → follow_from from runs ≡ true
    → (tick i : ℕ) → owner_of runs tick ≡ some i → from ≤ tick
unfolding owner_of
owned_from from [] ne fo tick i e = let z : ◌≡◌ {A = ℕ} 0 1 = cc in omega arith
owned_from from (run ∷ runs) ne fo tick i e =
    let s = first_nonempty run runs ne in
    let l = first_follows from run runs fo in
    cases (run_holds run tick)
    (λ h. omega (arith, run_holds_lem run tick h))
    (λ h.
    let q : owner_of runs tick ≡ some i = rw h at e in
    omega (arith, owned_from run.end runs (rest_nonempty run runs ne) (rest_follow from run runs fo) tick i q))

-- a tick is owned or not
pub owner_cases : {C : Type 0} (o : Option ℕ) → (o ≡ none → C) → ((i : ℕ) → o ≡ some i → C) → C
owner_cases none f g = f refl
owner_cases (some i) f g = g i refl

-- in order, no tick before is owned
pub free_before : (from : ℕ) (runs : List Run) → none_empty runs ≡ true → follow_from from runs ≡ true
    → (tick : ℕ) → tick < from → owner_of runs tick ≡ none
free_before from runs ne fo tick l =
    owner_cases (owner_of runs tick) (λ e. e) (λ i e. absurd (omega (arith, owned_from from runs ne fo tick i e)))

-- in order, a tick that a run holds is owned by the run's task
pub owner_is_run : (from : ℕ) (runs : List Run) → none_empty runs ≡ true → follow_from from runs ≡ true
    → (tick i : ℕ) → Any (λ run. (run_holds run tick ≡ true) × (run.task ≡ i)) runs → owner_of runs tick ≡ some i
unfolding owner_of
owner_is_run from [] ne fo tick i x3 = absurd x3
owner_is_run from (run ∷ runs) ne fo tick i (inl h) = rw (h.0, h.1)
owner_is_run from (run ∷ runs) ne fo tick i (inr h) =
    let fo₂ = rest_follow from run runs fo in
    let ne₂ = rest_nonempty run runs ne in
    let e = owner_is_run run.end runs ne₂ fo₂ tick i h in
    rw (after_holds run tick (owned_from run.end runs ne₂ fo₂ tick i e)) e

-- a tick that is owned is held by a run of its owner
pub owner_has_run : (runs : List Run) (tick i : ℕ) → owner_of runs tick ≡ some i → Any (λ run. (run_holds run tick ≡ true) × (run.task ≡ i)) runs
unfolding owner_of
owner_has_run [] tick i e = let z : ◌≡◌ {A = ℕ} 0 1 = cc in omega arith
owner_has_run (run ∷ runs) tick i e =
    cases (run_holds run tick)
    (λ h. let q : some run.task ≡ some i = rw h at e in inl (h, (cc)))
    (λ h. inr (owner_has_run runs tick i (rw h at e)))

-- a tick is owned exactly where some run holds it
pub owned_exactly : (runs : List Run) (tick : ℕ) → (is_owned (owner_of runs tick) ≡ true) ↔ Any (λ run. run_holds run tick ≡ true) runs
unfolding owner_of
owned_exactly runs tick = (owned-held runs, held-owned runs)
  where
    owned-held : (runs : List Run) → is_owned (owner_of runs tick) ≡ true → Any (λ run. run_holds run tick ≡ true) runs
    owned-held [] e = both_absurd false e refl
    owned-held (run ∷ runs) e = cases (run_holds run tick) (λ h. inl h) (λ h. inr (owned-held runs (rw h at e)))

    held-owned : (runs : List Run) → Any (λ run. run_holds run tick ≡ true) runs → is_owned (owner_of runs tick) ≡ true
    held-owned [] x' = absurd x'
    held-owned (run ∷ runs) (inl h) = rw h
    held-owned (run ∷ runs) (inr m) = cases (run_holds run tick) (λ h. rw h) (λ h. rw h (held-owned runs m))

-- Ticks whose owner passes a test; a tick without an owner fails it.
module _ (test : Option ℕ → Bool) (fails : test none ≡ false) where
  -- in order, they are those of the first run, where its task passes, and those of the rest
  own_split : (from : ℕ) (run : Run) (runs : List Run) → none_empty (run ∷ runs) ≡ true → follow_from from (run ∷ runs) ≡ true → (tick : ℕ)
      → one_if (test (owner_of (run ∷ runs) tick)) ≡ one_if (and (test (some run.task)) (run_holds run tick)) + one_if (test (owner_of runs tick))
  unfolding owner_of
  own_split from run runs ne fo tick =
      cases (run_holds run tick)
      (λ h.
      let l = run_holds_lem run tick h in
      let f = free_before run.end runs (rest_nonempty run runs ne) (rest_follow from run runs fo) tick l.1 in
      cases (test (some run.task)) (λ e. rw (h, f, fails, e)) (λ e. rw (h, f, fails, e)))
      (λ h. cases (test (some run.task)) (λ e. rw (h, e) (omega arith)) (λ e. rw (h, e) (omega arith)))

  -- how many of those below n a run holds
  part_count : (run : Run) (n : ℕ)
      → count_below (λ tick. and (test (some run.task)) (run_holds run tick)) n ≡ pick (test (some run.task)) (min run.end n - run.start) 0
  part_count run n =
      cases (test (some run.task))
      (λ e. rw e (run_count run n))
      (λ e. rw e (count_none (λ tick. false) n (λ tick l. refl)))

  -- in order, those below n are those of the first run, where its task passes, and those of the rest
  pub own_count : (from : ℕ) (run : Run) (runs : List Run) → none_empty (run ∷ runs) ≡ true → follow_from from (run ∷ runs) ≡ true → (n : ℕ)
      → count_below (λ tick. test (owner_of (run ∷ runs) tick)) n
      ≡ pick (test (some run.task)) (min run.end n - run.start) 0 + count_below (λ tick. test (owner_of runs tick)) n
  own_count from run runs ne fo n =
      rw (← part_count run n)
      (count_split (λ tick. test (owner_of (run ∷ runs) tick)) (λ tick. and (test (some run.task)) (run_holds run tick)) (λ tick. test (owner_of runs tick))
      (own_split from run runs ne fo) n)

  -- no run, no ticks
  pub free_count : (n : ℕ) → count_below (λ tick. test (owner_of [] tick)) n ≡ 0
  unfolding owner_of
  free_count n = count_none (λ tick. test (owner_of [] tick)) n (λ tick l. fails)

-- in order, where every run of task i is from a to b, it has no tick below a, and its total below b
ends_count : (from : ℕ) (runs : List Run) → none_empty runs ≡ true → follow_from from runs ≡ true
    → (i a b : ℕ) → All (λ run. run.task ≡ i → (a ≤ run.start) × (run.end ≤ b)) runs
    → (count_below (λ tick. is_task i (owner_of runs tick)) a ≡ 0) × (count_below (λ tick. is_task i (owner_of runs tick)) b ≡ total_of runs i)
ends_count from [] ne fo i a b h = (free_count (is_task i) refl a, free_count (is_task i) refl b)
ends_count from (run ∷ runs) ne fo i a b h =
    let p = own_count (is_task i) refl from run runs ne fo a in
    let q = own_count (is_task i) refl from run runs ne fo b in
    let r = ends_count run.end runs (rest_nonempty run runs ne) (rest_follow from run runs fo) i a b h.1 in
    cases (eqb run.task i)
    (λ e. let w = h.0 (eqb-true run.task i e) in rw e (omega (arith, rw e at p, rw e at q)))
    (λ e. rw e (omega (arith, rw e at p, rw e at q)))

-- in order, where every run of task i is from a to b, it has as many ticks there as its runs total
pub run_ticks : (from : ℕ) (runs : List Run) → none_empty runs ≡ true → follow_from from runs ≡ true
    → (i a b : ℕ) → All (λ run. run.task ≡ i → (a ≤ run.start) × (run.end ≤ b)) runs → ticks_of (owner_of runs) i a b ≡ total_of runs i
run_ticks from runs ne fo i a b h = omega (arith, ends_count from runs ne fo i a b h)

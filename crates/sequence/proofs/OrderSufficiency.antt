-- Sufficiency: a list that fits in order, placed, is a running in which each job gets its work under its mark.
use Prim.Native.Nat.{ℕ, ◌-◌, ◌≤◌}
use mathlib.Core.Path.{◌≡◌, refl, sym, ◌∙◌}
use mathlib.Core.Logic.{inl, inr, ◌≢◌}
use mathlib.Core.List.{List, [], ◌∷◌}
use mathlib.Core.Bool.{Bool, true, false}
use mathlib.Core.Option.{none, some}
use native.Mathlib.Omega.{arith}
use native.Mathlib.Decide.{dec_lt}
use borrow.Author.Tests.{ne_eqb, eq-eqb}
use Rattle.base.specs.Tests.{pick}
use Rattle.base.specs.Arrays.{Distinct}
use Rattle.base.proofs.TestLaws.{cases, both_absurd}
use Rattle.base.proofs.MemberLaws.{all_map}
use Rattle.schedule.specs.declared.Job.{Job}
use Rattle.schedule.specs.declared.Run.{Run}
use Rattle.schedule.specs.Jobs.{work_with}
use Rattle.schedule.specs.Ticks.{Owner, is_task}
use Rattle.schedule.specs.Runnings.{got, Whole, Running}
use Rattle.schedule.specs.Runs.{run_holds}
use Rattle.schedule.proofs.TickLaws.{count_same, count_none}
use Rattle.schedule.proofs.RunLaws.{run_holds_lem, before_holds, after_holds, run_count}
use Rattle.choice.specs.Choice.{works_of}
use Rattle.placement.specs.Chains.{positions}
use Rattle.placement.specs.Outcomes.{GetsWork}
use Rattle.placement.proofs.Sufficiency.{Inside, absent, same_works}
use Rattle.placement.proofs.PlacedRunnings.{all_may, marks_may}
use Rattle.placement.proofs.RunOrder.{Listed, stretches_listed}
use Rattle.sequence.specs.Similar.{SimilarJobs}
use Rattle.sequence.specs.InOrder.{ends_at, finish, fits_in_order, takes_tick, placed_in_order, runs_in_order}
use Rattle.sequence.specs.RunList.{run_from}
use Rattle.sequence.proofs.InOrderLaws.{work_cases, ends_some, ends_after_lem, time_known, order_head, order_tail, order_length}

-- The ticks that a job takes are those of its run.

-- without work it takes none
pub takes_none : (job : Job) (w time tick : ℕ) → w ≡ 0 → takes_tick job w time tick ≡ false
takes_none job w time tick z =
    let run = run_from job w time in
    elim (dec_lt tick run.start) [
      | yes l ↦ before_holds run tick l
      | no l ↦ after_holds run tick (omega arith)
    ]

-- nor does it from its end on
pub takes_after : (job : Job) (w time tick : ℕ) → ends_at job w time ≤ tick → takes_tick job w time tick ≡ false
takes_after job w time tick h =
    work_cases w
    (λ z. takes_none job w time tick z)
    (λ p. after_holds (run_from job w time) tick (omega (arith, ends_some job w time p)))

-- nobody has a tick from the end on
pub free_after : (jobs : List Job) (keeps : List Bool) (tick : ℕ) → finish jobs keeps ≤ tick → placed_in_order jobs keeps tick ≡ none
unfolding finish placed_in_order
free_after [] keeps tick l = refl
free_after (job ∷ jobs) [] tick l = refl
free_after (job ∷ jobs) (keep ∷ keeps) tick l =
    let w = work_with job keep in
    let time = finish jobs keeps in
    rw (takes_after job w time tick l) (free_after jobs keeps tick (omega (arith, ends_after_lem job w time)))

-- where the list fits, whoever has a tick is a job whose window holds it
pub order_inside : (jobs : List Job) (keeps : List Bool) → fits_in_order jobs keeps ≡ true → Inside jobs (placed_in_order jobs keeps)
unfolding placed_in_order fits_in_order
order_inside [] keeps e tick i h = let z : ◌≡◌ {A = ℕ} 0 1 = cc in omega arith
order_inside (job ∷ jobs) [] e tick i h = both_absurd false e refl
order_inside (job ∷ jobs) (keep ∷ keeps) e tick i h =
    let w = work_with job keep in
    let time = finish jobs keeps in
    cases (takes_tick job w time tick)
    (λ o.
    let l = run_holds_lem (run_from job w time) tick o in
    let t = time_known job w time (omega arith) (order_head job jobs keep keeps e) in
    let s : some job.position ≡ some i = rw o at h in
    inl ((cc), omega arith, omega arith))
    (λ o. inr (order_inside jobs keeps (order_tail job jobs keep keeps e) tick i (rw o at h)))

-- Each job gets its work.

-- a job whose ticks are those of one run in its window gets as many as the run has
one_run : (owner : Owner) (job : Job) (run : Run) → ((tick : ℕ) → is_task job.position (owner tick) ≡ run_holds run tick)
    → job.release ≤ run.start → run.start ≤ run.end → run.end ≤ job.deadline → got owner job ≡ run.end - run.start
one_run owner job run same a m b =
    let test : ℕ → Bool = λ tick. is_task job.position (owner tick) in
    let r = count_same test (run_holds run) job.release (λ tick l. same tick) in
    let d = count_same test (run_holds run) job.deadline (λ tick l. same tick) in
    omega (arith, run_count run job.release, run_count run job.deadline)

-- a job that has no tick gets none
no_run : (owner : Owner) (job : Job) → ((tick : ℕ) → is_task job.position (owner tick) ≡ false) → got owner job ≡ 0
no_run owner job same =
    let test : ℕ → Bool = λ tick. is_task job.position (owner tick) in
    omega (arith, count_none test job.release (λ tick l. same tick), count_none test job.deadline (λ tick l. same tick))

-- One run more, over an owner of ticks.
module _ (run : Run) (owner : Owner) where
  -- who has each tick then
  abbrev with-run : Owner
  with-run tick = pick (run_holds run tick) (some run.task) (owner tick)

  -- where its task had no tick, the ticks of the run are the task's only ones
  only-run : ((tick : ℕ) → is_task run.task (owner tick) ≡ false) → (tick : ℕ) → is_task run.task (with-run tick) ≡ run_holds run tick
  only-run d tick =
      cases (run_holds run tick)
      (λ h. rw (h, eq-eqb run.task run.task refl))
      (λ h. rw h (d tick))

  -- where the ticks from its start on were free, it takes none from other tasks
  others_keep : ((tick : ℕ) → run.start ≤ tick → owner tick ≡ none) → (i : ℕ) → run.task ≢ i → (tick : ℕ)
      → is_task i (with-run tick) ≡ is_task i (owner tick)
  others_keep free i d tick =
      cases (run_holds run tick)
      (λ h. let l = run_holds_lem run tick h in rw (h, free tick l.0, ne_eqb run.task i d))
      (λ h. rw h)

-- where the list fits, each job gets its work under its mark
work_placed : (jobs : List Job) (keeps : List Bool) → Distinct (positions jobs) → fits_in_order jobs keeps ≡ true
    → GetsWork jobs keeps (placed_in_order jobs keeps)
unfolding works_of placed_in_order fits_in_order
work_placed [] [] d e = tt
work_placed [] (keep ∷ keeps) d e = both_absurd false e refl
work_placed (job ∷ jobs) [] d e = both_absurd false e refl
work_placed (job ∷ jobs) (keep ∷ keeps) d e =
    let w = work_with job keep in
    let time = finish jobs keeps in
    let run = run_from job w time in
    let owner = placed_in_order jobs keeps in
    let fit = order_tail job jobs keep keeps e in
    let only = only-run run owner (absent owner job.position jobs d.0 (order_inside jobs keeps fit)) in
    let keep-theirs = others_keep run owner (λ tick l. free_after jobs keeps tick (omega arith)) in (
      work_cases w
          (λ z. no_run (with-run run owner) job (λ tick. only tick ∙ takes_none job w time tick z) ∙ sym z)
          (λ p.
          let t = time_known job w time p (order_head job jobs keep keeps e) in
          let g = one_run (with-run run owner) job run only (omega arith) (omega arith) t in
          omega (arith, g)),
      same_works owner (with-run run owner) jobs (works_of jobs keeps)
          (all_map _ _ (positions jobs) (λ i n. keep-theirs i n) d.0)
          (work_placed jobs keeps d.1 fit),
    )

-- Similar jobs under a list that fits. Each job gets its work under its mark;
pub order_work : (jobs : List Job) (keeps : List Bool) → SimilarJobs jobs → fits_in_order jobs keeps ≡ true → GetsWork jobs keeps (placed_in_order jobs keeps)
order_work jobs keeps s e = work_placed jobs keeps s.distinct e

-- the placing is a running;
pub order_running : (jobs : List Job) (keeps : List Bool) → SimilarJobs jobs → fits_in_order jobs keeps ≡ true → Running jobs (placed_in_order jobs keeps)
order_running jobs keeps s e =
    record {
      inside = order_inside jobs keeps e;
      gets = all_may Whole (placed_in_order jobs keeps) jobs (works_of jobs keeps) (order_work jobs keeps s e) (marks_may jobs keeps (order_length jobs keeps e));
    }

-- none of its runs is empty, they stand by start, and they say who has each tick.
pub order_listed : (jobs : List Job) (keeps : List Bool) → SimilarJobs jobs → fits_in_order jobs keeps ≡ true
    → Listed (placed_in_order jobs keeps) (runs_in_order jobs keeps)
order_listed jobs keeps s e = stretches_listed (placed_in_order jobs keeps) (finish jobs keeps) (free_after jobs keeps)

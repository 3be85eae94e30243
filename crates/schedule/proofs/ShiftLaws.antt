-- Laws of jobs, runs and owners of ticks that lie later by c ticks. Windows may be empty, and nothing is asked of the jobs.
use Prim.Native.Nat.{ℕ, zero, suc, ◌+◌, ◌-◌, ◌<◌}
use mathlib.Core.Path.{◌≡◌, refl, sym, ap, ◌∙◌}
use mathlib.Core.Logic.{inl, inr, ◌↔◌}
use mathlib.Core.List.{List, [], ◌∷◌}
use mathlib.Core.Bool.{Bool}
use mathlib.Core.Option.{Option, none, some}
use native.Mathlib.Omega.{arith}
use native.Mathlib.Nat.{zero-add}
use native.Mathlib.Decide.{dec_le}
use lib.Dec.{leb, ltb, eqb}
use lib.ListN.{get_or}
use borrow.Author.Tests.{leb-true, le-leb, lt-leb, ltb-true, lt-ltb, eqb-true, eq-eqb}
use Rattle.base.specs.Tests.{pick}
use Rattle.base.specs.Members.{All, Any, every_member}
use Rattle.base.proofs.TestLaws.{same_test}
use Rattle.base.proofs.LowestLaws.{every_same}
use Rattle.schedule.specs.declared.Job.{Job}
use Rattle.schedule.specs.declared.Run.{Run}
use Rattle.schedule.specs.Jobs.{window_ticks, work_of}
use Rattle.schedule.specs.Ticks.{Owner, is_task, count_below, count_between, sum_below}
use Rattle.schedule.specs.Runnings.{WindowHolds, got, Gets, Running, discarded_weight, Whole}
use Rattle.schedule.specs.Runs.{sum_runs, owner_of, Together}
use Rattle.schedule.specs.Judging.{none_empty, follow_from, each_follows, known_tasks, inside_window, in_windows, total_of, exact_totals}
use Rattle.schedule.specs.Shifting.{later_run, later_runs}
use Rattle.schedule.specs.LaterJobs.{later_job, later_jobs, LaterOwner}

module _ (c : ℕ) where
  -- a number is at most another where both lie later by c
  pub leb_later : (a b : ℕ) → leb (a + c) (b + c) ≡ leb a b
  leb_later a b =
      same_test (leb (a + c) (b + c)) (leb a b)
      (λ t. le-leb a b (omega (arith, leb-true (a + c) (b + c) t)))
      (λ t. le-leb (a + c) (b + c) (omega (arith, leb-true a b t)))

  -- a number is below another where both lie later by c
  pub ltb_later : (a b : ℕ) → ltb (a + c) (b + c) ≡ ltb a b
  ltb_later a b =
      same_test (ltb (a + c) (b + c)) (ltb a b)
      (λ t. lt-ltb a b (omega (arith, ltb-true (a + c) (b + c) t)))
      (λ t. lt-ltb (a + c) (b + c) (omega (arith, ltb-true a b t)))

  -- a number is another where both lie later by c
  pub eqb_later : (a b : ℕ) → eqb (a + c) (b + c) ≡ eqb a b
  eqb_later a b =
      same_test (eqb (a + c) (b + c)) (eqb a b)
      (λ t. eq-eqb a b (omega (arith, eqb-true (a + c) (b + c) t)))
      (λ t. eq-eqb (a + c) (b + c) (omega (arith, eqb-true a b t)))

  -- A window that lies later has as many ticks.
  pub window_shift : (job : Job) → window_ticks (later_job c job) ≡ window_ticks job
  window_shift job = omega arith

  -- below n + c a test that lies later passes as often as the test below n, and as often as it does below c
  below-shift : (test later : ℕ → Bool) → ((tick : ℕ) → later (tick + c) ≡ test tick) → (n : ℕ)
      → count_below later (n + c) ≡ count_below test n + count_below later c
  unfolding sum_below
  below-shift test later same zero = rw (zero-add c) (omega arith)
  below-shift test later same (suc n) =
      let e : suc n + c ≡ suc (n + c) = omega arith in
      rw (e, same n) (omega (arith, below-shift test later same n))

  -- As many ticks from a + c to b + c pass a test that lies later as pass the test from a to b.
  pub count_shift : (test later : ℕ → Bool) → ((tick : ℕ) → later (tick + c) ≡ test tick) → (a b : ℕ)
      → count_between later (a + c) (b + c) ≡ count_between test a b
  count_shift test later same a b = omega (arith, below-shift test later same a, below-shift test later same b)

  -- Runnings. `later` is `owner`, later by c ticks.
  module _ (owner later : Owner) (l : LaterOwner c owner later) where
    -- A job gets as many ticks.
    pub got-shift : (job : Job) → got later (later_job c job) ≡ got owner job
    got-shift job =
        let i = job.position in
        count_shift (λ tick. is_task i (owner tick)) (λ tick. is_task i (later tick)) (λ tick. ap (is_task i) (l.same tick)) job.release job.deadline

    -- As many optional parts are discarded.
    pub discards-shift : (weight : ℕ → ℕ) (jobs : List Job) → discarded_weight weight (later_jobs c jobs) later ≡ discarded_weight weight jobs owner
    unfolding discarded_weight
    discards-shift weight [] = refl
    discards-shift weight (job ∷ jobs) = rw (got-shift job, discards-shift weight jobs)

    -- the later jobs get one of their two amounts each where the jobs do
    gets-later : (jobs : List Job) → All (Gets Whole owner) jobs → All (Gets Whole later) (later_jobs c jobs)
    gets-later [] g = tt
    gets-later (job ∷ jobs) g = (rw (got-shift job) g.0, gets-later jobs g.1)

    -- and the other way
    gets_back : (jobs : List Job) → All (Gets Whole later) (later_jobs c jobs) → All (Gets Whole owner) jobs
    gets_back [] g = tt
    gets_back (job ∷ jobs) g = (rw (got-shift job) at g.0, gets_back jobs g.1)

    -- a window of the later jobs holds the tick c ticks after one that a window of the jobs holds
    holds_later : (tick i : ℕ) (jobs : List Job) → Any (WindowHolds tick i) jobs → Any (WindowHolds (tick + c) i) (later_jobs c jobs)
    holds_later tick i [] x' = absurd x'
    holds_later tick i (job ∷ jobs) (inl h) = inl (h.0, omega arith, omega arith)
    holds_later tick i (job ∷ jobs) (inr h) = inr (holds_later tick i jobs h)

    -- and the other way
    holds-back : (tick i : ℕ) (jobs : List Job) → Any (WindowHolds (tick + c) i) (later_jobs c jobs) → Any (WindowHolds tick i) jobs
    holds-back tick i [] x' = absurd x'
    holds-back tick i (job ∷ jobs) (inl h) = inl (h.0, omega arith, omega arith)
    holds-back tick i (job ∷ jobs) (inr h) = inr (holds-back tick i jobs h)

    -- whoever has a tick in `later` has the one c ticks before it in `owner`, so a later window holds the tick
    inside-later : (jobs : List Job) → ((tick i : ℕ) → owner tick ≡ some i → Any (WindowHolds tick i) jobs) → (tick i : ℕ) → later tick ≡ some i
        → Any (WindowHolds tick i) (later_jobs c jobs)
    inside-later jobs f tick i e =
        elim (dec_le c tick) [
          | yes h ↦
              let back : tick ≡ (tick - c) + c = omega arith in
              let q : later ((tick - c) + c) ≡ some i = rw (← back) e in
              rw back (holds_later (tick - c) i jobs (f (tick - c) i (sym (l.same (tick - c)) ∙ q)))
          | no h ↦ let z : none ≡ some i = sym (l.free tick (omega arith)) ∙ e in let y : ◌≡◌ {A = ℕ} 0 1 = cc in absurd (omega arith)
        ]

    -- A running of the jobs, later by c ticks, is a running of the later jobs, and the other way.
    pub running-shift : (jobs : List Job) → Running jobs owner ↔ Running (later_jobs c jobs) later
    running-shift jobs = (
      λ r. record { inside = inside-later jobs r.inside; gets = gets-later jobs r.gets },
      λ r.
          record {
            inside = λ tick i e. holds-back tick i jobs (r.inside (tick + c) i (l.same tick ∙ e));
            gets = gets_back jobs r.gets;
          },
    )

  -- no window of the later jobs holds a tick below c
  none-holds : (jobs : List Job) (tick i : ℕ) → tick < c → Any (WindowHolds tick i) (later_jobs c jobs) → ⊥
  none-holds [] tick i h x'' = absurd x''
  none-holds (job ∷ jobs) tick i h (inl m) = omega arith
  none-holds (job ∷ jobs) tick i h (inr m) = none-holds jobs tick i h m

  -- Every running of the later jobs is such a one: it is another, later by c ticks.
  pub running_back : (jobs : List Job) (later : Owner) → Running (later_jobs c jobs) later → LaterOwner c (λ tick. later (tick + c)) later
  running_back jobs later r = record { same = λ tick. refl; free = λ tick h. owner-free (later tick) tick refl h }
    where
      owner-free : (o : Option ℕ) → (tick : ℕ) → later tick ≡ o → tick < c → later tick ≡ none
      owner-free none tick e h = e
      owner-free (some i) tick e h = absurd (none-holds jobs tick i h (r.inside tick i e))

  -- Judging. Whoever has the ticks of runs that lie later has those of the runs, later by c.
  pub owner_shift : (runs : List Run) → LaterOwner c (owner_of runs) (owner_of (later_runs c runs))
  unfolding owner_of
  owner_shift [] = record { same = λ tick. refl; free = λ tick h. refl }
  owner_shift (run ∷ runs) =
      let l = owner_shift runs in
      record {
        same = λ tick. rw (leb_later run.start tick, ltb_later tick run.end, l.same tick);
        free = λ tick h. rw (lt-leb (run.start + c) tick (omega arith)) (l.free tick h);
      }

  -- A keep list and runs that are together a running of the jobs are one of the later jobs, with the runs later by c.
  pub together_shift : (jobs : List Job) (marks : List ℕ) (runs : List Run) → Together jobs marks runs → Together (later_jobs c jobs) marks (later_runs c runs)
  together_shift jobs marks runs g =
      record {
        running = (running-shift (owner_of runs) (owner_of (later_runs c runs)) (owner_shift runs) jobs).0 g.running;
        work = works jobs g.work;
      }
    where
      works : (jobs : List Job) → All (λ job. got (owner_of runs) job ≡ work_of job (get_or marks job.position 0)) jobs
          → All (λ job. got (owner_of (later_runs c runs)) job ≡ work_of job (get_or marks job.position 0)) (later_jobs c jobs)
      works [] g = tt
      works (job ∷ jobs) g = (got-shift (owner_of runs) (owner_of (later_runs c runs)) (owner_shift runs) job ∙ g.0, works jobs g.1)

  -- Runs that lie later pass a test where the runs pass another, and have the sum of a number that is another of the runs.
  every-shift : (test later : Run → Bool) → ((run : Run) → later (later_run c run) ≡ test run) → (runs : List Run)
      → every_member later (later_runs c runs) ≡ every_member test runs
  unfolding every_member
  every-shift test later same [] = refl
  every-shift test later same (run ∷ runs) = rw (same run, every-shift test later same runs)

  sum-shift : (number later : Run → ℕ) → ((run : Run) → later (later_run c run) ≡ number run) → (runs : List Run)
      → sum_runs later (later_runs c runs) ≡ sum_runs number runs
  sum-shift number later same [] = refl
  sum-shift number later same (run ∷ runs) = rw (same run, sum-shift number later same runs)

  -- So none of them is empty where none was,
  pub nonempty_shift : (runs : List Run) → none_empty (later_runs c runs) ≡ none_empty runs
  nonempty_shift = every-shift (λ run. ltb run.start run.end) (λ run. ltb run.start run.end) (λ run. ltb_later run.start run.end)

  -- they follow one another from a tick c ticks later where they did from the tick,
  pub follow_shift : (from : ℕ) (runs : List Run) → follow_from (from + c) (later_runs c runs) ≡ follow_from from runs
  unfolding follow_from
  follow_shift from [] = refl
  follow_shift from (run ∷ runs) = rw (leb_later from run.start, follow_shift run.end runs)

  -- so they are in order where they were,
  pub order_shift : (runs : List Run) → each_follows (later_runs c runs) ≡ each_follows runs
  unfolding each_follows follow_from
  order_shift [] = refl
  order_shift (run ∷ runs) = rw (le-leb 0 (run.start + c) (omega arith), le-leb 0 run.start (omega arith)) (follow_shift run.end runs)

  -- their tasks are known where they were,
  pub known_shift : (n : ℕ) (runs : List Run) → known_tasks n (later_runs c runs) ≡ known_tasks n runs
  known_shift n = every-shift (λ run. ltb run.task n) (λ run. ltb run.task n) (λ run. refl)

  -- and they are inside the later windows where they were inside the windows.
  pub windows_shift : (job : ℕ → Job) (runs : List Run) → in_windows (λ k. later_job c (job k)) (later_runs c runs) ≡ in_windows job runs
  windows_shift job =
      every-shift (λ run. inside_window (job run.task) run) (λ run. inside_window (later_job c (job run.task)) run) (λ run.
      rw (leb_later (job run.task).release run.start, leb_later run.end (job run.task).deadline))

  -- the runs of a task total as many ticks
  total-shift : (runs : List Run) (i : ℕ) → total_of (later_runs c runs) i ≡ total_of runs i
  total-shift runs i =
      sum-shift (λ run. pick (eqb run.task i) (run.end - run.start) 0) (λ run. pick (eqb run.task i) (run.end - run.start) 0) (λ run.
      let e : (run.end + c) - (run.start + c) ≡ run.end - run.start = omega arith in rw e)
      runs

  -- Each task's runs total its work exactly where they did.
  pub totals_shift : (job : ℕ → Job) (marks : List ℕ) (n : ℕ) (runs : List Run)
      → exact_totals (λ k. later_job c (job k)) marks n (later_runs c runs) ≡ exact_totals job marks n runs
  totals_shift job marks n runs = every_same _ _ n (λ k l. rw (total-shift runs k))

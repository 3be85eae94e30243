-- Jobs whose windows all lie later by c ticks: each tick is placed later by c, and each run lies later by c. Nothing is asked of the jobs.
use Prim.Native.Nat.{ℕ, zero, suc, ◌+◌, ◌<◌}
use mathlib.Core.Path.{◌≡◌, refl, sym, ap}
use mathlib.Core.List.{List, [], ◌∷◌}
use mathlib.Core.Bool.{Bool}
use mathlib.Core.Option.{Option, none, some}
use native.Mathlib.Omega.{arith}
use native.Mathlib.Nat.{zero-add}
use lib.Dec.{eqb}
use borrow.Author.Tests.{lt-leb}
use Rattle.base.specs.Tests.{and}
use Rattle.base.proofs.TestLaws.{cases}
use Rattle.base.proofs.ListLaws.{map_reverse}
use Rattle.schedule.specs.declared.Job.{Job}
use Rattle.schedule.specs.declared.Run.{Run}
use Rattle.schedule.specs.Ticks.{Owner}
use Rattle.schedule.specs.Shifting.{later_run, later_runs}
use Rattle.schedule.specs.LaterJobs.{later_job, later_jobs, LaterOwner}
use Rattle.schedule.proofs.ShiftLaws.{leb_later, ltb_later, eqb_later, count_shift}
use Rattle.choice.specs.Choice.{works_of}
use Rattle.choice.proofs.ShiftLaws.{works_shift}
use Rattle.placement.specs.Placing.{is_free, free_in, reaches_back, place_job, works_placed, placed, join_task, join_tick, latest_first, stretches}
use Rattle.placement.specs.Placing.{works_runs, runs_placed}

module _ (c : ℕ) where
  -- One job more is placed: `owner` and `later` are who has each tick before it.
  module _ (owner later : Owner) (l : LaterOwner c owner later) (job : Job) (w : ℕ) where
    -- as many ticks are free
    free-shift : (a b : ℕ) → free_in later (a + c) (b + c) ≡ free_in owner a b
    free-shift a b = count_shift c (λ tick. is_free (owner tick)) (λ tick. is_free (later tick)) (λ tick. ap is_free (l.same tick)) a b

    -- so the job reaches back to the same ticks
    reach-shift : (tick : ℕ) → reaches_back later (later_job c job) w (tick + c) ≡ reaches_back owner job w tick
    reach-shift tick =
        let e : suc (tick + c) ≡ suc tick + c = omega arith in
        rw (leb_later c job.release tick, ltb_later c tick job.deadline, e, free-shift (suc tick) job.deadline)

    -- and takes them, later by c
    place-shift : LaterOwner c (place_job owner job w) (place_job later (later_job c job) w)
    place-shift =
        record {
          same = λ tick. rw (reach-shift tick, l.same tick);
          free = λ tick h. rw (l.free tick h, lt-leb (job.release + c) tick (omega arith));
        }

  -- Each tick of given works is placed later by c,
  pub works_placed_shift : (jobs : List Job) (works : List ℕ) → LaterOwner c (works_placed jobs works) (works_placed (later_jobs c jobs) works)
  unfolding works_placed
  works_placed_shift [] works = record { same = λ tick. refl; free = λ tick h. refl }
  works_placed_shift (job ∷ jobs) [] = record { same = λ tick. refl; free = λ tick h. refl }
  works_placed_shift (job ∷ jobs) (work ∷ works) =
      place-shift (works_placed jobs works) (works_placed (later_jobs c jobs) works) (works_placed_shift jobs works) job work

  -- and so is each tick under a keep list.
  pub placed_shift : (jobs : List Job) (keeps : List Bool) → LaterOwner c (placed jobs keeps) (placed (later_jobs c jobs) keeps)
  placed_shift jobs keeps = rw (works_shift c jobs keeps) (works_placed_shift jobs (works_of jobs keeps))

  -- one more tick of a task joins runs that lie later as it joins the runs
  task-shift : (tick i : ℕ) (runs : List Run) → join_task (tick + c) i (later_runs c runs) ≡ later_runs c (join_task tick i runs)
  task-shift tick i [] = let e : suc (tick + c) ≡ suc tick + c = omega arith in rw e
  task-shift tick i (run ∷ runs) =
      let e : suc (tick + c) ≡ suc tick + c = omega arith in
      rw (e, eqb_later c run.end tick)
      (cases (and (eqb run.end tick) (eqb run.task i)) (λ q. rw q) (λ q. rw q))

  -- and so does one more tick, of a task or free
  tick-shift : (tick : ℕ) (o : Option ℕ) (runs : List Run) → join_tick (tick + c) o (later_runs c runs) ≡ later_runs c (join_tick tick o runs)
  tick-shift tick none runs = refl
  tick-shift tick (some i) runs = task-shift tick i runs

  -- where all ticks below n are free there is no stretch
  no-stretch : (owner : Owner) (n : ℕ) → ((tick : ℕ) → tick < n → owner tick ≡ none) → latest_first owner n ≡ []
  unfolding latest_first
  no-stretch owner zero f = refl
  no-stretch owner (suc n) f = rw (f n (omega arith)) (no-stretch owner n (λ tick h. f tick (omega arith)))

  -- Of ticks that lie later each stretch lies later by c, and there is no other: the latest first,
  latest-shift : (owner later : Owner) → LaterOwner c owner later → (n : ℕ) → latest_first later (n + c) ≡ later_runs c (latest_first owner n)
  unfolding latest_first
  latest-shift owner later l zero = rw (zero-add c) (no-stretch later c l.free)
  latest-shift owner later l (suc n) =
      let e : suc n + c ≡ suc (n + c) = omega arith in
      rw (e, l.same n, latest-shift owner later l n) (tick-shift n (owner n) (latest_first owner n))

  -- and by start.
  pub stretches_shift : (owner later : Owner) → LaterOwner c owner later → (n : ℕ) → stretches later (n + c) ≡ later_runs c (stretches owner n)
  stretches_shift owner later l n = rw (latest-shift owner later l n) (sym (map_reverse (later_run c) (latest_first owner n)))

  -- The runs of given works lie later by c ticks,
  pub works_runs_shift : (jobs : List Job) (works : List ℕ) → works_runs (later_jobs c jobs) works ≡ later_runs c (works_runs jobs works)
  unfolding latest_first
  works_runs_shift [] works = refl
  works_runs_shift (job ∷ jobs) works =
      stretches_shift (works_placed (job ∷ jobs) works) (works_placed (later_jobs c (job ∷ jobs)) works) (works_placed_shift (job ∷ jobs) works) job.deadline

  -- and so do the runs of a keep list.
  pub runs_shift : (jobs : List Job) (keeps : List Bool) → runs_placed (later_jobs c jobs) keeps ≡ later_runs c (runs_placed jobs keeps)
  runs_shift jobs keeps = rw (works_shift c jobs keeps) (works_runs_shift jobs (works_of jobs keeps))

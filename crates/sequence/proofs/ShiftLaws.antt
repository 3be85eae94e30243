-- Jobs run in order, whose windows all lie later by c ticks: the same lists fit, the same list is chosen, the same job is late, and each tick and each
-- run lies later by c. Nothing is asked of the jobs.
use Prim.Native.Nat.{ℕ, ◌+◌}
use mathlib.Core.Path.{◌≡◌, refl, ap}
use mathlib.Core.Logic.{◌⊎◌, inl, inr}
use mathlib.Core.List.{List, [], ◌∷◌}
use mathlib.Core.Bool.{Bool}
use native.Mathlib.Omega.{arith}
use borrow.Author.Tests.{lt-leb}
use Rattle.schedule.specs.declared.Job.{Job}
use Rattle.schedule.specs.Jobs.{work_with}
use Rattle.schedule.specs.Shifting.{later_runs}
use Rattle.schedule.specs.LaterJobs.{later_job, later_jobs, LaterOwner}
use Rattle.schedule.proofs.ShiftLaws.{leb_later, ltb_later}
use Rattle.choice.specs.Choice.{keep_none, discard_marks, weighed}
use Rattle.choice.proofs.ShiftLaws.{none_shift, discarded-shift, best_shift}
use Rattle.placement.specs.Placing.{latest_first, stretches}
use Rattle.placement.proofs.ShiftLaws.{stretches_shift}
use Rattle.sequence.specs.InOrder.{starts_at, ends_at, in_time, finish, fits_in_order, placed_in_order, runs_in_order, first_late}
use Rattle.sequence.specs.OrderChoice.{choice_key_in_order, chosen_in_order_over}
use Rattle.sequence.proofs.InOrderLaws.{work_cases, ends_none, ends_some}

module _ (c : ℕ) where
  -- one time is another later by c ticks, or both are 0: no job before has work
  abbrev LaterTime : ℕ → ℕ → Type 0
  LaterTime later time = (later ≡ time + c) ⊎ ((later ≡ 0) × (time ≡ 0))

  -- one job's work more ends later by c ticks, or there is still none
  ends-shift : (job : Job) (w later time : ℕ) → LaterTime later time → LaterTime (ends_at (later_job c job) w later) (ends_at job w time)
  ends-shift job w later time (inl e) =
      work_cases w
      (λ z. inl (omega (arith, ends_none (later_job c job) w later z, ends_none job w time z)))
      (λ p. inl (omega (arith, ends_some (later_job c job) w later p, ends_some job w time p)))
  ends-shift job w later time (inr e) =
      work_cases w
      (λ z. inr (omega (arith, ends_none (later_job c job) w later z), omega (arith, ends_none job w time z)))
      (λ p. inl (omega (arith, ends_some (later_job c job) w later p, ends_some job w time p)))

  -- so the work of all ends later by c ticks, and without work both end at 0
  finish-shift : (jobs : List Job) (keeps : List Bool) → LaterTime (finish (later_jobs c jobs) keeps) (finish jobs keeps)
  unfolding finish
  finish-shift [] keeps = inr (refl, refl)
  finish-shift (job ∷ jobs) [] = inr (refl, refl)
  finish-shift (job ∷ jobs) (keep ∷ keeps) =
      ends-shift job (work_with job keep) (finish (later_jobs c jobs) keeps) (finish jobs keeps) (finish-shift jobs keeps)

  -- a job that comes after either time starts later by c ticks
  start-shift : (job : Job) (later time : ℕ) → LaterTime later time → starts_at (later_job c job) later ≡ starts_at job time + c
  start-shift job later time (inl e) = omega arith
  start-shift job later time (inr e) = omega arith

  -- so w ticks of it end later by c
  end-shift : (job : Job) (w later time : ℕ) → LaterTime later time → starts_at (later_job c job) later + w ≡ starts_at job time + w + c
  end-shift job w later time l = omega (arith, start-shift job later time l)

  -- and they are in time where they were
  time-shift : (job : Job) (w later time : ℕ) → LaterTime later time → in_time (later_job c job) w later ≡ in_time job w time
  unfolding in_time
  time-shift job w later time l = rw (end-shift job w later time l, leb_later c (starts_at job time + w) job.deadline)

  -- The same lists fit.
  pub fits_shift : (jobs : List Job) (keeps : List Bool) → fits_in_order (later_jobs c jobs) keeps ≡ fits_in_order jobs keeps
  unfolding fits_in_order
  fits_shift [] [] = refl
  fits_shift [] (keep ∷ keeps) = refl
  fits_shift (job ∷ jobs) [] = refl
  fits_shift (job ∷ jobs) (keep ∷ keeps) =
      rw (time-shift job (work_with job keep) (finish (later_jobs c jobs) keeps) (finish jobs keeps) (finish-shift jobs keeps), fits_shift jobs keeps)

  -- The same list is chosen, where what a part is worth does not hang on the window,
  pub chosen_shift_by : (worth : Job → ℕ) → ((job : Job) → worth (later_job c job) ≡ worth job) → (jobs : List Job)
      → chosen_in_order_over worth (later_jobs c jobs) ≡ chosen_in_order_over worth jobs
  unfolding chosen_in_order_over choice_key_in_order
  chosen_shift_by worth same jobs =
      best_shift c (fits_in_order jobs) (fits_in_order (later_jobs c jobs)) (choice_key_in_order worth jobs) (choice_key_in_order worth (later_jobs c jobs)) (fits_shift jobs)
      (λ keeps. ap (λ (n : ℕ). n ∷ discard_marks keeps) (discarded-shift c worth same jobs keeps)) jobs

  -- as the planner's is.
  pub chosen_shift : (weight : ℕ → ℕ) (jobs : List Job)
      → chosen_in_order_over (weighed weight) (later_jobs c jobs) ≡ chosen_in_order_over (weighed weight) jobs
  chosen_shift weight jobs = chosen_shift_by (weighed weight) (λ job. refl) jobs

  -- Each tick is placed later by c.
  pub placed_shift : (jobs : List Job) (keeps : List Bool) → LaterOwner c (placed_in_order jobs keeps) (placed_in_order (later_jobs c jobs) keeps)
  unfolding placed_in_order
  placed_shift [] keeps = record { same = λ tick. refl; free = λ tick h. refl }
  placed_shift (job ∷ jobs) [] = record { same = λ tick. refl; free = λ tick h. refl }
  placed_shift (job ∷ jobs) (keep ∷ keeps) =
      let w = work_with job keep in
      let later = finish (later_jobs c jobs) keeps in
      let time = finish jobs keeps in
      let l = placed_shift jobs keeps in
      let s = start-shift job later time (finish-shift jobs keeps) in
      let e = end-shift job w later time (finish-shift jobs keeps) in
      record {
        same = λ tick. rw (e, s, leb_later c (starts_at job time) tick, ltb_later c tick (starts_at job time + w), l.same tick);
        free = λ tick h. rw (lt-leb (starts_at (later_job c job) later) tick (omega arith)) (l.free tick h);
      }

  -- Each run lies later by c: the longest stretches do, and where there is no work there is no run.
  pub runs_shift : (jobs : List Job) (keeps : List Bool) → runs_in_order (later_jobs c jobs) keeps ≡ later_runs c (runs_in_order jobs keeps)
  unfolding latest_first
  runs_shift jobs keeps = go (finish (later_jobs c jobs) keeps) (finish jobs keeps) (finish-shift jobs keeps)
    where
      go : (later time : ℕ) → LaterTime later time
          → stretches (placed_in_order (later_jobs c jobs) keeps) later ≡ later_runs c (stretches (placed_in_order jobs keeps) time)
      go later time (inl e) = rw e (stretches_shift c (placed_in_order jobs keeps) (placed_in_order (later_jobs c jobs) keeps) (placed_shift jobs keeps) time)
      go later time (inr e) = rw (e.0, e.1)

  -- The first late job is the same.
  pub late_shift : (n : ℕ) (jobs : List Job) → first_late n (later_jobs c jobs) ≡ first_late n jobs
  unfolding first_late
  late_shift n [] = refl
  late_shift n (job ∷ jobs) =
      let l = finish-shift jobs (keep_none jobs) in
      rw (late_shift n jobs, none_shift c jobs, time-shift job job.mandatory (finish (later_jobs c jobs) (keep_none jobs)) (finish jobs (keep_none jobs)) l)

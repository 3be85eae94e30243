-- Jobs whose windows all lie later by c ticks: the same lists fit, with the same counts, and the same list is chosen. Nothing is asked of the jobs.
use Prim.Native.Nat.{ℕ}
use mathlib.Core.Path.{◌≡◌, refl, ap₂, fun_ext}
use mathlib.Core.List.{List, [], ◌∷◌}
use mathlib.Core.Bool.{Bool}
use Rattle.schedule.specs.declared.Job.{Job}
use Rattle.schedule.specs.LaterJobs.{later_job, later_jobs}
use Rattle.schedule.proofs.ShiftLaws.{window_shift}
use Rattle.choice.specs.Choice.{works_fit, works_of, fits, keep_lists, keep_none, kept_ticks, discard_marks, best_list, discarded_worth, kept_worth, choice_key}
use Rattle.choice.specs.Choice.{chosen_over, weighed}

module _ (c : ℕ) where
  -- The works are the same,
  pub works_shift : (jobs : List Job) (keeps : List Bool) → works_of (later_jobs c jobs) keeps ≡ works_of jobs keeps
  unfolding works_of
  works_shift [] [] = refl
  works_shift [] (keep ∷ keeps) = refl
  works_shift (job ∷ jobs) [] = refl
  works_shift (job ∷ jobs) (keep ∷ keeps) = rw (works_shift jobs keeps)

  -- the same works fit,
  pub works_fit_shift : (jobs : List Job) (works : List ℕ) → works_fit (later_jobs c jobs) works ≡ works_fit jobs works
  unfolding works_fit
  works_fit_shift [] [] = refl
  works_fit_shift [] (work ∷ works) = refl
  works_fit_shift (job ∷ jobs) [] = refl
  works_fit_shift (job ∷ jobs) (work ∷ works) = rw (window_shift c job, works_fit_shift jobs works)

  -- and so do the same lists.
  pub fits_shift : (jobs : List Job) (keeps : List Bool) → fits (later_jobs c jobs) keeps ≡ fits jobs keeps
  fits_shift jobs keeps = rw (works_shift jobs keeps) (works_fit_shift jobs (works_of jobs keeps))

  -- There are the same lists of one mark a job,
  pub lists_shift : (jobs : List Job) → keep_lists (later_jobs c jobs) ≡ keep_lists jobs
  unfolding keep_lists
  lists_shift [] = refl
  lists_shift (job ∷ jobs) = rw (lists_shift jobs)

  -- and the same list keeps nothing.
  pub none_shift : (jobs : List Job) → keep_none (later_jobs c jobs) ≡ keep_none jobs
  none_shift [] = refl
  none_shift (job ∷ jobs) = rw (none_shift jobs)

  -- A list keeps as many ticks.
  pub ticks_shift : (jobs : List Job) (keeps : List Bool) → kept_ticks (later_jobs c jobs) keeps ≡ kept_ticks jobs keeps
  unfolding kept_worth
  ticks_shift [] keeps = refl
  ticks_shift (job ∷ jobs) [] = refl
  ticks_shift (job ∷ jobs) (keep ∷ keeps) = rw (ticks_shift jobs keeps)

  -- The best list is the same by tests that let the same lists fit and by keys that are the same for each list: the choice of either kind.
  pub best_shift : (fit later : List Bool → Bool) (key laterKey : List Bool → List ℕ) → ((keeps : List Bool) → later keeps ≡ fit keeps)
      → ((keeps : List Bool) → laterKey keeps ≡ key keeps) → (jobs : List Job) → best_list later laterKey (later_jobs c jobs) ≡ best_list fit key jobs
  unfolding best_list
  best_shift fit later key laterKey f k jobs = rw (fun_ext f, fun_ext k, none_shift jobs, lists_shift jobs)

  -- Where what a part is worth does not hang on the window:
  module _ (worth : Job → ℕ) (same : (job : Job) → worth (later_job c job) ≡ worth job) where
    -- a list discards as much,
    pub discarded-shift : (jobs : List Job) (keeps : List Bool) → discarded_worth worth (later_jobs c jobs) keeps ≡ discarded_worth worth jobs keeps
    unfolding discarded_worth
    discarded-shift [] keeps = refl
    discarded-shift (job ∷ jobs) [] = refl
    discarded-shift (job ∷ jobs) (keep ∷ keeps) = rw (same job, discarded-shift jobs keeps)

    -- it keeps as much,
    pub kept-shift : (jobs : List Job) (keeps : List Bool) → kept_worth worth (later_jobs c jobs) keeps ≡ kept_worth worth jobs keeps
    unfolding kept_worth
    kept-shift [] keeps = refl
    kept-shift (job ∷ jobs) [] = refl
    kept-shift (job ∷ jobs) (keep ∷ keeps) = rw (same job, kept-shift jobs keeps)

    -- so the rules look at the same numbers,
    key-shift : (jobs : List Job) (keeps : List Bool) → choice_key worth (later_jobs c jobs) keeps ≡ choice_key worth jobs keeps
    unfolding choice_key
    key-shift jobs keeps = ap₂ (λ (d t : ℕ). d ∷ t ∷ discard_marks keeps) (discarded-shift jobs keeps) (ticks_shift jobs keeps)

    -- and the same list is chosen,
    pub chosen_shift_by : (jobs : List Job) → chosen_over worth (later_jobs c jobs) ≡ chosen_over worth jobs
    unfolding chosen_over
    chosen_shift_by jobs =
        best_shift (fits jobs) (fits (later_jobs c jobs)) (choice_key worth jobs) (choice_key worth (later_jobs c jobs)) (fits_shift jobs) (key-shift jobs) jobs

  -- as the planner's is.
  pub chosen_shift : (weight : ℕ → ℕ) (jobs : List Job) → chosen_over (weighed weight) (later_jobs c jobs) ≡ chosen_over (weighed weight) jobs
  chosen_shift weight jobs = chosen_shift_by (weighed weight) (λ job. refl) jobs

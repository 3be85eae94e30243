-- Jobs of either kind whose windows all lie later by c ticks: planning gives the same for them, with each tick and each run later by c. Nothing is
-- asked of the jobs.
use Prim.Native.Nat.{ℕ, ◌+◌}
use mathlib.Core.Path.{◌≡◌, refl, ap, fun_ext, ◌∙◌}
use mathlib.Core.List.{List, [], ◌∷◌, map, reverse}
use mathlib.Core.Bool.{Bool, true, false}
use lib.ListN.{length, length-map}
use Rattle.base.proofs.ListLaws.{map_reverse}
use Rattle.schedule.specs.declared.Job.{Job}
use Rattle.schedule.specs.Ticks.{one_if}
use Rattle.schedule.specs.Shifting.{later_run, later_runs}
use Rattle.schedule.specs.LaterJobs.{later_job, later_jobs, LaterOwner}
use Rattle.schedule.proofs.ShiftLaws.{window_shift}
use Rattle.choice.specs.Choice.{count_one}
use Rattle.choice.proofs.ShiftLaws as choices
use Rattle.placement.specs.ByPosition.{number_at}
use Rattle.placement.proofs.ShiftLaws as nests
use Rattle.sequence.proofs.ShiftLaws as orders
use Rattle.plans.specs.Planning.{exceeding_after, unmet_by, chosen_by, runs_by, mark_at, marks_by, plan_runs_by, LentLists, made_by, reply_by}
use Rattle.plans.specs.PlanParts.{fits_by, placed_by}
use Rattle.plans.specs.LaterPlans.{LaterPlan}

module _ (c : ℕ) where
  -- The first task whose mandatory ticks exceed its window is the same.
  pub exceeding_shift : (n sum : ℕ) (jobs : List Job) → exceeding_after n sum (later_jobs c jobs) ≡ exceeding_after n sum jobs
  unfolding exceeding_after
  exceeding_shift n sum [] = refl
  exceeding_shift n sum (job ∷ jobs) = rw (window_shift c job, exceeding_shift n (sum + job.mandatory) jobs)

  -- the number of each position is the same
  number-shift : (jobs : List Job) (numbers : List ℕ) (k : ℕ) → number_at (later_jobs c jobs) numbers k ≡ number_at jobs numbers k
  unfolding number_at
  number-shift [] numbers k = refl
  number-shift (job ∷ jobs) [] k = refl
  number-shift (job ∷ jobs) (number ∷ numbers) k = rw (number-shift jobs numbers k)

  -- The mark of each position is the same.
  pub mark_shift : (jobs : List Job) (keeps : List Bool) (k : ℕ) → mark_at (later_jobs c jobs) keeps k ≡ mark_at jobs keeps k
  mark_shift jobs keeps k = number-shift jobs (map one_if keeps) k

-- the first task that can't be met is the same
unmet_shift : (nested : Bool) (c n : ℕ) (jobs : List Job) → unmet_by nested n (later_jobs c jobs) ≡ unmet_by nested n jobs
unfolding unmet_by
unmet_shift true c n jobs = rw (← map_reverse (later_job c) jobs) (exceeding_shift c n 0 (reverse jobs))
unmet_shift false c n jobs = orders.late_shift c n jobs

-- the same lists fit
fit_shift : (nested : Bool) (c : ℕ) (jobs : List Job) (keeps : List Bool) → fits_by nested (later_jobs c jobs) keeps ≡ fits_by nested jobs keeps
unfolding fits_by
fit_shift true c jobs keeps = choices.fits_shift c jobs keeps
fit_shift false c jobs keeps = orders.fits_shift c jobs keeps

-- the same list is chosen
chosen_shift : (nested : Bool) (weight : ℕ → ℕ) (c : ℕ) (jobs : List Job) → chosen_by nested weight (later_jobs c jobs) ≡ chosen_by nested weight jobs
unfolding chosen_by
chosen_shift true weight c jobs = choices.chosen_shift c weight jobs
chosen_shift false weight c jobs = orders.chosen_shift c weight jobs

-- the runs lie later by c ticks
runs_shift : (nested : Bool) (c : ℕ) (jobs : List Job) (keeps : List Bool)
    → runs_by nested (later_jobs c jobs) keeps ≡ later_runs c (runs_by nested jobs keeps)
unfolding runs_by
runs_shift true c jobs keeps = nests.runs_shift c jobs keeps
runs_shift false c jobs keeps = orders.runs_shift c jobs keeps

-- each tick is placed later by c
placed_by_shift : (nested : Bool) (c : ℕ) (jobs : List Job) (keeps : List Bool)
    → LaterOwner c (placed_by nested jobs keeps) (placed_by nested (later_jobs c jobs) keeps)
unfolding placed_by
placed_by_shift true c jobs keeps = nests.placed_shift c jobs keeps
placed_by_shift false c jobs keeps = orders.placed_shift c jobs keeps

-- All that planning gives for jobs that lie later.
pub plan_later : (nested : Bool) (weight : ℕ → ℕ) (c : ℕ) (jobs : List Job) → LaterPlan nested weight c jobs (later_jobs c jobs)
plan_later nested weight c jobs =
    record {
      unmet = λ n. unmet_shift nested c n jobs;
      fit = fit_shift nested c jobs;
      none = choices.none_shift c jobs;
      keeps = chosen_shift nested weight c jobs;
      kept = choices.kept-shift c count_one (λ job. refl) jobs;
      discarded = choices.discarded-shift c count_one (λ job. refl) jobs;
      marks = mark_shift c jobs;
      placed = placed_by_shift nested c jobs;
      runs = runs_shift nested c jobs;
    }

-- So the marks of a plan are the same, its runs lie later by c ticks, and the reply is the same, refusals too.
pub marks_later : (nested : Bool) (weight : ℕ → ℕ) (c n : ℕ) (jobs : List Job) → marks_by nested weight n (later_jobs c jobs) ≡ marks_by nested weight n jobs
unfolding marks_by
marks_later nested weight c n jobs =
    let l = plan_later nested weight c jobs in
    rw (l.keeps, fun_ext (l.marks (chosen_by nested weight jobs)))

pub runs_later : (nested : Bool) (weight : ℕ → ℕ) (c : ℕ) (jobs : List Job) → plan_runs_by nested weight (later_jobs c jobs) ≡ later_runs c (plan_runs_by nested weight jobs)
unfolding plan_runs_by
runs_later nested weight c jobs =
    let l = plan_later nested weight c jobs in
    rw l.keeps (l.runs (chosen_by nested weight jobs))

pub made_later : (nested : Bool) (weight : ℕ → ℕ) (c : ℕ) (jobs : List Job) → made_by nested weight (later_jobs c jobs) ≡ made_by nested weight jobs
unfolding made_by
made_later nested weight c jobs =
    let l = plan_later nested weight c jobs in
    let keeps = chosen_by nested weight jobs in
    let count = ap length (runs_later nested weight c jobs) ∙ length-map (plan_runs_by nested weight jobs) (later_run c) in
    rw (count, l.keeps, l.kept keeps, l.discarded keeps)

pub reply_later : (nested : Bool) (weight : ℕ → ℕ) (c n : ℕ) (jobs : List Job) (lists : LentLists) → reply_by nested weight n (later_jobs c jobs) lists ≡ reply_by nested weight n jobs lists
unfolding reply_by
reply_later nested weight c n jobs lists = rw ((plan_later nested weight c jobs).unmet n, made_later nested weight c jobs)

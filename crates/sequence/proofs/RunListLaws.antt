-- The runs of similar jobs are one a job that has work: the longest stretches of the placing.
use Prim.Native.Nat.{ℕ, ◌≤◌, ◌<◌}
use mathlib.Core.Path.{◌≡◌, refl, sym, ap, ◌∙◌}
use mathlib.Core.Logic.{inl, inr, ◌≢◌}
use mathlib.Core.List.{List, [], ◌∷◌, reverse}
use mathlib.Core.Bool.{Bool, true}
use native.Mathlib.Omega.{arith}
use lib.ListN.{length, length-reverse}
use borrow.Author.Tests.{lt-ltb}
use Rattle.base.specs.Members.{All, Any}
use Rattle.base.specs.Arrays.{Distinct}
use Rattle.base.proofs.MemberLaws.{all_map, all_reverse}
use Rattle.schedule.specs.declared.Job.{Job}
use Rattle.schedule.specs.declared.Run.{Run}
use Rattle.schedule.specs.Jobs.{work_with}
use Rattle.schedule.proofs.RunLaws.{in_holds, before_holds}
use Rattle.placement.specs.Chains.{positions}
use Rattle.placement.specs.Placing.{stretches}
use Rattle.placement.proofs.RunTicks.{Reads, Longest, reads_latest, reads_under}
use Rattle.sequence.specs.Similar.{SimilarJobs}
use Rattle.sequence.specs.InOrder.{finish, fits_in_order, placed_in_order, runs_in_order}
use Rattle.sequence.specs.RunList.{run_from, with_run, latest_runs, listed_runs}
use Rattle.sequence.proofs.InOrderLaws.{work_cases, ends_none, ends_some, time_known, order_head, order_tail, finish_by}
use Rattle.sequence.proofs.OrderSufficiency.{takes_none, free_after}

-- without work there is no run, with work there is one
pub run_none : (job : Job) (w time : ℕ) (runs : List Run) → w ≡ 0 → with_run job w time runs ≡ runs
unfolding with_run
run_none job w time runs e = rw e

pub run_some : (job : Job) (w time : ℕ) (runs : List Run) → 0 < w → with_run job w time runs ≡ run_from job w time ∷ runs
unfolding with_run
run_some job w time runs l = rw (lt-ltb 0 w l)

-- the runs, latest first, say who has each tick below the end
runs_read : (jobs : List Job) (keeps : List Bool) → Reads (placed_in_order jobs keeps) (latest_runs jobs keeps) (finish jobs keeps)
unfolding finish latest_runs placed_in_order
runs_read [] keeps = λ tick l. refl
runs_read (job ∷ jobs) [] = λ tick l. refl
runs_read (job ∷ jobs) (keep ∷ keeps) =
    let w = work_with job keep in
    let time = finish jobs keeps in
    let runs = latest_runs jobs keeps in
    let run = run_from job w time in
    let before = placed_in_order jobs keeps in
    let after = placed_in_order (job ∷ jobs) (keep ∷ keeps) in
    work_cases w
    (λ z.
    rw (run_none job w time runs z, ends_none job w time z)
    (reads_under before after runs time time (runs_read jobs keeps) (omega arith) (λ tick l. rw (takes_none job w time tick z)) (λ tick l m. absurd (omega arith))))
    (λ p. rw (run_some job w time runs p, ends_some job w time p) (
      omega arith,
      omega arith,
      λ tick l m. absurd (omega arith),
      λ tick l m. rw (in_holds run tick l m),
      reads_under before after runs time run.start (runs_read jobs keeps) (omega arith)
          (λ tick l. rw (before_holds run tick (omega arith)))
          (λ tick l m. rw (before_holds run tick m) (free_after jobs keeps tick l)),
    ))

-- a position that no job has is no run's
other_task : (i : ℕ) (jobs : List Job) (keeps : List Bool) → All (λ k. i ≢ k) (positions jobs) → All (λ run. i ≢ run.task) (latest_runs jobs keeps)
unfolding latest_runs
other_task i [] keeps d = tt
other_task i (job ∷ jobs) [] d = tt
other_task i (job ∷ jobs) (keep ∷ keeps) d =
    let w = work_with job keep in
    let time = finish jobs keeps in
    work_cases w
    (λ z. rw (run_none job w time (latest_runs jobs keeps) z) (other_task i jobs keeps d.1))
    (λ p. rw (run_some job w time (latest_runs jobs keeps) p) (d.0, other_task i jobs keeps d.1))

-- a run before runs of other tasks makes none of them longer
longest_cons : (run : Run) (runs : List Run) → All (λ next. run.task ≢ next.task) runs → Longest runs → Longest (run ∷ runs)
longest_cons run [] d m = tt
longest_cons run (next ∷ runs) d m = (λ e f. d.0 (sym f), m)

-- no two runs make one
runs_longest : (jobs : List Job) (keeps : List Bool) → Distinct (positions jobs) → Longest (latest_runs jobs keeps)
unfolding latest_runs
runs_longest [] keeps d = tt
runs_longest (job ∷ jobs) [] d = tt
runs_longest (job ∷ jobs) (keep ∷ keeps) d =
    let w = work_with job keep in
    let time = finish jobs keeps in
    let runs = latest_runs jobs keeps in
    work_cases w
    (λ z. rw (run_none job w time runs z) (runs_longest jobs keeps d.1))
    (λ p.
    rw (run_some job w time runs p)
    (longest_cons (run_from job w time) runs (other_task job.position jobs keeps d.0) (runs_longest jobs keeps d.1)))

-- The runs listed are the longest stretches of the placing, below every tick from the end on,
pub listed_stretches : (jobs : List Job) (keeps : List Bool) → Distinct (positions jobs) → (b : ℕ) → finish jobs keeps ≤ b
    → stretches (placed_in_order jobs keeps) b ≡ listed_runs jobs keeps
listed_stretches jobs keeps d b l =
    let owner = placed_in_order jobs keeps in
    let reads = reads_under owner owner (latest_runs jobs keeps) (finish jobs keeps) b (runs_read jobs keeps) l (λ tick m. refl)
    (λ tick m n. free_after jobs keeps tick m) in
    ap reverse (reads_latest owner (latest_runs jobs keeps) b reads (runs_longest jobs keeps d))

-- and so the runs of the jobs.
pub runs_listed_are : (jobs : List Job) (keeps : List Bool) → Distinct (positions jobs) → runs_in_order jobs keeps ≡ listed_runs jobs keeps
runs_listed_are jobs keeps d = listed_stretches jobs keeps d (finish jobs keeps) (omega arith)

-- They are the same below every tick that no deadline is after.
pub order_longest : (jobs : List Job) (keeps : List Bool) → SimilarJobs jobs → fits_in_order jobs keeps ≡ true → (b : ℕ) → All (λ job. job.deadline ≤ b) jobs
    → stretches (placed_in_order jobs keeps) b ≡ runs_in_order jobs keeps
order_longest jobs keeps s e b a = listed_stretches jobs keeps s.distinct b (finish_by jobs keeps b e a) ∙ sym (runs_listed_are jobs keeps s.distinct)

-- the runs listed are at most one a job
pub latest_few : (jobs : List Job) (keeps : List Bool) → length (latest_runs jobs keeps) ≤ length jobs
unfolding latest_runs
latest_few [] keeps = omega arith
latest_few (job ∷ jobs) [] = omega arith
latest_few (job ∷ jobs) (keep ∷ keeps) =
    let w = work_with job keep in
    let time = finish jobs keeps in
    let h = latest_few jobs keeps in
    work_cases w
    (λ z. rw (run_none job w time (latest_runs jobs keeps) z) (omega arith))
    (λ p. rw (run_some job w time (latest_runs jobs keeps) p) (omega arith))

-- There are no more runs than jobs.
pub order_few : (jobs : List Job) (keeps : List Bool) → SimilarJobs jobs → length (runs_in_order jobs keeps) ≤ length jobs
order_few jobs keeps s =
    rw (runs_listed_are jobs keeps s.distinct) (omega (arith, latest_few jobs keeps, length-reverse (latest_runs jobs keeps)))

-- a run lies in the window of a job of its task
abbrev pub InWindowOf : List Job → Run → Type 0
InWindowOf jobs run = Any (λ job. (job.position ≡ run.task) × (job.release ≤ run.start) × (run.end ≤ job.deadline)) jobs

-- where the list fits, each run listed lies in the window of its job
latest_inside : (jobs : List Job) (keeps : List Bool) → fits_in_order jobs keeps ≡ true → All (InWindowOf jobs) (latest_runs jobs keeps)
unfolding latest_runs fits_in_order
latest_inside [] keeps e = tt
latest_inside (job ∷ jobs) [] e = tt
latest_inside (job ∷ jobs) (keep ∷ keeps) e =
    let w = work_with job keep in
    let time = finish jobs keeps in
    let runs = latest_runs jobs keeps in
    let rest = all_map (InWindowOf jobs) (InWindowOf (job ∷ jobs)) runs (λ run h. inr h) (latest_inside jobs keeps (order_tail job jobs keep keeps e)) in
    work_cases w
    (λ z. rw (run_none job w time runs z) rest)
    (λ p.
    let t = time_known job w time p (order_head job jobs keep keeps e) in
    rw (run_some job w time runs p) (inl (refl, omega arith, t), rest))

-- Each run lies in the window of its job.
pub order_windows : (jobs : List Job) (keeps : List Bool) → SimilarJobs jobs → fits_in_order jobs keeps ≡ true → All (InWindowOf jobs) (runs_in_order jobs keeps)
order_windows jobs keeps s e =
    rw (runs_listed_are jobs keeps s.distinct) (all_reverse (InWindowOf jobs) (latest_runs jobs keeps) (latest_inside jobs keeps e))

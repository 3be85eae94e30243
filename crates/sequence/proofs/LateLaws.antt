-- Laws of the first late job: there is none exactly where the mandatory parts alone fit, and what is found is the first.
use Prim.Native.Nat.{ℕ, ◌+◌, ◌≤◌, ◌<◌}
use mathlib.Core.Path.{◌≡◌, refl, ap, ◌∙◌}
use mathlib.Core.Logic.{◌↔◌}
use mathlib.Core.List.{List, [], ◌∷◌, ◌++◌}
use mathlib.Core.Bool.{Bool, true, false, not}
use native.Mathlib.Omega.{arith}
use lib.Dec.{ltb}
use borrow.Author.Tests.{ltb-true, ltb-false, lt-ltb, le-ltb}
use Rattle.base.specs.Tests.{pick, and}
use Rattle.base.proofs.TestLaws.{cases, pick_cases}
use Rattle.schedule.specs.declared.Job.{Job}
use Rattle.base.specs.Members.{All}
use Rattle.schedule.specs.Jobs.{work_with}
use Rattle.choice.specs.Choice.{keep_none}
use Rattle.sequence.specs.InOrder.{starts_at, in_time, finish, fits_in_order, first_late}
use Rattle.sequence.specs.Similar.{LateAt}
use Rattle.sequence.proofs.InOrderLaws.{late_known, time_known}

-- the work of a job that is not kept is its mandatory ticks
pub mandatory_work : (job : Job) → work_with job false ≡ job.mandatory
mandatory_work job = omega arith

-- a job more: when the mandatory ticks of all fit
pub fits_mandatory : (job : Job) (jobs : List Job) → fits_in_order (job ∷ jobs) (keep_none (job ∷ jobs))
    ≡ and (in_time job job.mandatory (finish jobs (keep_none jobs))) (fits_in_order jobs (keep_none jobs))
unfolding fits_in_order
fits_mandatory job jobs = rw (mandatory_work job)

-- of a search that goes on with one more job: it finds some place below n where either part does
one_more : (n place position : ℕ) (timely fit : Bool) → position < n → ltb place n ≡ not fit
    → ltb (pick (ltb place n) place (pick timely n position)) n ≡ not (and timely fit)
one_more n place position true true h e = rw (e, le-ltb n n (omega arith))
one_more n place position true false h e = rw (e, e)
one_more n place position false true h e = rw (e, lt-ltb position n h)
one_more n place position false false h e = rw (e, e)

-- Some job is late exactly where the mandatory parts alone do not fit.
pub late_test : (n : ℕ) (jobs : List Job) → All (λ job. job.position < n) jobs → ltb (first_late n jobs) n ≡ not (fits_in_order jobs (keep_none jobs))
unfolding first_late fits_in_order
late_test n [] h = le-ltb n n (omega arith)
late_test n (job ∷ jobs) h =
    rw (mandatory_work job)
    (one_more n (first_late n jobs) job.position (in_time job job.mandatory (finish jobs (keep_none jobs))) (fits_in_order jobs (keep_none jobs))
    h.0 (late_test n jobs h.1))

-- The search finds n or the position of a job.
pub late_most : (n : ℕ) (jobs : List Job) → All (λ job. job.position < n) jobs → first_late n jobs ≤ n
unfolding first_late
late_most n [] h = omega arith
late_most n (job ∷ jobs) h =
    let l = h.0 in
    pick_cases (λ place. place ≤ n) (ltb (first_late n jobs) n) (λ e. late_most n jobs h.1)
    (λ e. pick_cases (λ place. place ≤ n) (in_time job job.mandatory (finish jobs (keep_none jobs))) (λ t. omega arith) (λ t. omega arith))

-- No job is late exactly where the mandatory parts alone fit.
pub none_late : (n : ℕ) (jobs : List Job) → All (λ job. job.position < n) jobs → (first_late n jobs ≡ n) ↔ (fits_in_order jobs (keep_none jobs) ≡ true)
none_late n jobs h =
    let t = late_test n jobs h in
    let m = late_most n jobs h in (
      λ e. cases (fits_in_order jobs (keep_none jobs)) (λ f. f) (λ f. absurd (omega (arith, ltb-true (first_late n jobs) n (t ∙ rw f)))),
      λ f. omega (arith, ltb-false (first_late n jobs) n (t ∙ rw f)),
    )

-- one job more after the late one
late_later : (job : Job) (jobs : List Job) (place : ℕ) → LateAt jobs place → LateAt (job ∷ jobs) place
late_later job jobs place f =
    record {
      after = job ∷ f.after;
      late = f.late;
      before = f.before;
      split = ap (λ l. job ∷ l) f.split;
      named = f.named;
      fit = f.fit;
      nonzero = f.nonzero;
      over = f.over;
    }

-- What is found below n is the first late job.
pub late_found : (n : ℕ) (jobs : List Job) → All (λ job. job.position < n) jobs → first_late n jobs < n → LateAt jobs (first_late n jobs)
unfolding first_late
late_found n [] h l = absurd (omega arith)
late_found n (job ∷ jobs) h l =
    let time = finish jobs (keep_none jobs) in
    cases (ltb (first_late n jobs) n)
    (λ e. rw e (late_later job jobs (first_late n jobs) (late_found n jobs h.1 (ltb-true (first_late n jobs) n e))))
    (λ e.
    let fit = (none_late n jobs h.1).0 (omega (arith, ltb-false (first_late n jobs) n e, late_most n jobs h.1)) in
    let l₂ : pick (in_time job job.mandatory time) n job.position < n = rw e at l in
    cases (in_time job job.mandatory time)
    (λ t. let l₃ : n < n = rw t at l₂ in absurd (omega arith))
    (λ t.
    let k = late_known job job.mandatory time t in
    rw (e, t) (record { after = []; late = job; before = jobs; split = refl; named = refl; fit = fit; nonzero = k.0; over = k.1 })))

-- the late job at the head, or after others
found_after : (n place : ℕ) (after : List Job) (late : Job) (before : List Job) → All (λ job. job.position < n) (after ++ late ∷ before)
    → late.position ≡ place → fits_in_order before (keep_none before) ≡ true → 0 < late.mandatory
    → late.deadline < starts_at late (finish before (keep_none before)) + late.mandatory → first_late n (after ++ late ∷ before) ≡ place
unfolding first_late
found_after n place [] late before h e f s o =
    let time = finish before (keep_none before) in
    cases (in_time late late.mandatory time)
    (λ t. absurd (omega (arith, time_known late late.mandatory time s t)))
    (λ t. rw ((none_late n before h.1).1 f, le-ltb n n (omega arith), t) e)
found_after n place (job ∷ after) late before h e f s o =
    let q = found_after n place after late before h.1 e f s o in
    rw (q, lt-ltb place n (omega (arith, below after h.1))) refl
  where
    below : (after : List Job) → All (λ job. job.position < n) (after ++ late ∷ before) → late.position < n
    below [] h = h.0
    below (job ∷ after) h = below after h.1

-- A place that names the first late job is what is found.
pub late_only : (n place : ℕ) (jobs : List Job) → All (λ job. job.position < n) jobs → LateAt jobs place → first_late n jobs ≡ place
late_only n place jobs h f =
    rw f.split
    (found_after n place f.after f.late f.before (rw f.split at h) f.named f.fit f.nonzero f.over)

-- Necessity: the marks read off any running of similar jobs fit in order.
use Prim.Native.Nat.{ℕ, ◌+◌, ◌≤◌}
use mathlib.Core.Path.{◌≡◌, refl, sym}
use mathlib.Core.Logic.{◌≢◌}
use mathlib.Core.List.{List, [], ◌∷◌}
use mathlib.Core.Bool.{true}
use native.Mathlib.Omega.{arith}
use Rattle.schedule.specs.declared.Job.{Job}
use Rattle.schedule.specs.Ticks.{Owner}
use Rattle.base.specs.Members.{All}
use Rattle.base.specs.Arrays.{Distinct}
use Rattle.schedule.specs.Runnings.{Gets, Running, Whole}
use Rattle.base.proofs.MemberLaws.{all_map}
use Rattle.schedule.specs.Jobs.{work_with}
use Rattle.choice.specs.Choice.{works_of}
use Rattle.choice.specs.KeepLists.{total_work}
use Rattle.placement.specs.Chains.{Between, positions}
use Rattle.placement.proofs.Necessity.{is_kept, marks_of, work_fits}
use Rattle.sequence.specs.Similar.{NotAfter, Ordered, SimilarJobs}
use Rattle.sequence.specs.InOrder.{finish, fits_in_order}
use Rattle.sequence.proofs.InOrderLaws.{work_cases, ends_none, ends_some, time_none, time_some, order_cons}

-- a job has another position than later jobs, and is released no later than they
abbrev Before : List Job → Job → Type 0
Before later job = All (λ other. (job.position ≢ other.position) × (job.release ≤ other.release)) later

-- one later job more
before_more : (job : Job) (jobs later : List Job) → All (λ k. job.position ≢ k) (positions jobs) → All (NotAfter job) jobs → All (Before later) jobs
    → All (Before (job ∷ later)) jobs
before_more job [] later d o b = tt
before_more job (other ∷ jobs) later d o b =
    (((λ e. d.0 (sym e), o.0.0), b.0), before_more job jobs later d.1 o.1 b.1)

-- a job and the later ones have different positions
before_distinct : (job : Job) (later : List Job) → Before later job → All (λ k. job.position ≢ k) (positions later)
before_distinct job [] b = tt
before_distinct job (other ∷ later) b = (b.0.0, before_distinct job later b.1)

-- their windows lie between the job's release and any tick that no deadline is after
before_between : (job : Job) (later : List Job) (b : ℕ) → Before later job → All (λ other. other.deadline ≤ b) later
    → All (Between job.release b) later
before_between job [] b f a = tt
before_between job (other ∷ later) b f a = ((f.0.1, a.0), before_between job later b f.1 a.1)

-- windows lie between tick 0 and any tick that no deadline is after
from_zero : (jobs : List Job) (b : ℕ) → All (λ job. job.deadline ≤ b) jobs → All (Between 0 b) jobs
from_zero jobs b a = all_map _ _ jobs (λ job l. (omega arith, l)) a

-- What jobs end with, run in order under the marks read off, and the work of later jobs together come to no more than a tick that no deadline is
-- after. Where work waits for a release, the job and the later ones share the ticks from there on; where it does not, the job joins the later ones.
pub finish_later : (owner : Owner) (jobs later : List Job) (b : ℕ) → Ordered jobs → Distinct (positions jobs) → Distinct (positions later)
    → All (Before later) jobs → All (λ job. job.deadline ≤ b) jobs → All (λ job. job.deadline ≤ b) later
    → All (Gets Whole owner) jobs → All (Gets Whole owner) later
    → finish jobs (marks_of jobs owner) + total_work later (marks_of later owner) ≤ b
unfolding finish works_of
finish_later owner [] later b o d e f a c g h = omega (arith, work_fits owner later 0 b e (from_zero later b c) h)
finish_later owner (job ∷ jobs) later b o d e f a c g h =
    let w = work_with job (is_kept owner job) in
    let time = finish jobs (marks_of jobs owner) in
    let joined = finish_later owner jobs (job ∷ later) b o.1 d.1 (before_distinct job later f.0, e)
    (before_more job jobs later d.0 o.0 f.1) a.1 (a.0, c) g.1 (g.0, h) in
    let shared = work_fits owner (job ∷ later) job.release b (before_distinct job later f.0, e)
    ((omega arith, a.0), before_between job later b f.0 c) (g.0, h) in
    work_cases w
    (λ z. omega (arith, ends_none job w time z))
    (λ l. omega (arith, ends_some job w time l))

-- the deadlines of jobs before one are not after its own
deadlines_before : (job : Job) (jobs : List Job) → All (NotAfter job) jobs → All (λ other. other.deadline ≤ job.deadline) jobs
deadlines_before job jobs o = all_map _ _ jobs (λ other p. p.1) o

-- with one later job
before_one : (job : Job) (jobs : List Job) → All (λ k. job.position ≢ k) (positions jobs) → All (NotAfter job) jobs → All (Before (job ∷ [])) jobs
before_one job [] d o = tt
before_one job (other ∷ jobs) d o = (((λ e. d.0 (sym e), o.0.0), tt), before_one job jobs d.1 o.1)

-- the marks read off fit
marks_in_order : (owner : Owner) (jobs : List Job) → Ordered jobs → Distinct (positions jobs) → All (Gets Whole owner) jobs
    → fits_in_order jobs (marks_of jobs owner) ≡ true
unfolding fits_in_order works_of
marks_in_order owner [] o d g = refl
marks_in_order owner (job ∷ jobs) o d g =
    let w = work_with job (is_kept owner job) in
    let time = finish jobs (marks_of jobs owner) in
    let joined = finish_later owner jobs (job ∷ []) job.deadline o.1 d.1 (tt, tt) (before_one job jobs d.0 o.0)
    (deadlines_before job jobs o.0) (omega arith, tt) g.1 (g.0, tt) in
    let shared = work_fits owner (job ∷ []) job.release job.deadline (tt, tt) ((omega arith, omega arith), tt) (g.0, tt) in
    order_cons job jobs (is_kept owner job) (marks_of jobs owner)
    (work_cases w (λ z. time_none job w time z) (λ l. time_some job w time l (omega arith)))
    (marks_in_order owner jobs o.1 d.1 g.1)

-- Necessity: the marks read off a running of similar jobs fit in order.
pub running_in_order : (jobs : List Job) (owner : Owner) → SimilarJobs jobs → Running jobs owner → fits_in_order jobs (marks_of jobs owner) ≡ true
running_in_order jobs owner s r = marks_in_order owner jobs s.ordered s.distinct r.gets

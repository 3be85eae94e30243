-- What jobs get fits, whoever has the ticks; the marks read off a running fit, and discard what the running discards.
use Prim.Native.Nat.{ℕ, ◌+◌, ◌-◌, ◌≤◌}
use mathlib.Core.Path.{◌≡◌, refl, sym}
use mathlib.Core.Logic.{◌⊎◌, inl, inr}
use mathlib.Core.List.{List, [], ◌∷◌, map}
use mathlib.Core.Bool.{Bool, true, not}
use native.Mathlib.Omega.{arith}
use lib.Dec.{ltb, eqb}
use borrow.Author.Tests.{eqb-true, ne_eqb, eq-eqb, ltb-true}
use Rattle.base.specs.Tests.{and}
use Rattle.base.proofs.TestLaws.{cases}
use Rattle.schedule.specs.declared.Job.{Job}
use Rattle.schedule.specs.Ticks.{Owner, is_task, ticks_of}
use Rattle.schedule.specs.Runnings.{got, Gets, Running, discarded_weight, Whole}
use Rattle.base.specs.Members.{All}
use Rattle.base.specs.Arrays.{Distinct}
use Rattle.base.specs.Sums.{total}
use Rattle.schedule.proofs.TickLaws.{shares, count_grows, shares_fit}
use Rattle.choice.specs.Choice.{works_fit, works_of, fits, discarded_worth, weighed}
use Rattle.choice.specs.KeepLists.{total_work}
use Rattle.schedule.specs.Jobs.{work_with}
use Rattle.choice.proofs.WorkLaws.{works_cons}
use Rattle.choice.proofs.FitLaws.{discarded_cons}
use Rattle.placement.specs.Chains.{Between, positions, Chain}

-- the jobs after the first are a chain
pub chain_tail : (job : Job) (jobs : List Job) → Chain (job ∷ jobs) → Chain jobs
chain_tail job jobs c = record { nested = c.nested.1; distinct = c.distinct.1 }

-- the works read off an owner: what each job gets
abbrev pub got_works : List Job → Owner → List ℕ
got_works jobs owner = map (got owner) jobs

-- a job gets its ticks between any two ticks that its window lies between
got_between : (owner : Owner) (job : Job) (a b : ℕ) → Between a b job → got owner job ≤ ticks_of owner job.position a b
got_between owner job a b u =
    let test : ℕ → Bool = λ tick. is_task job.position (owner tick) in
    omega (arith, count_grows test a job.release u.0, count_grows test job.deadline b u.1)

-- what the jobs get are ticks of theirs between any two ticks that their windows lie between
got_shares : (owner : Owner) (jobs : List Job) (a b : ℕ) → All (Between a b) jobs → total (got_works jobs owner) ≤ shares owner (positions jobs) a b
unfolding shares
got_shares owner [] a b u = omega arith
got_shares owner (job ∷ jobs) a b u = omega (arith, got_between owner job a b u.0, got_shares owner jobs a b u.1)

-- Jobs of different positions whose windows lie between a and b, nested or not: together they get no more than the ticks there.
pub got_within : (owner : Owner) (jobs : List Job) (a b : ℕ) → Distinct (positions jobs) → All (Between a b) jobs → total (got_works jobs owner) ≤ b - a
got_within owner jobs a b d u = omega (arith, got_shares owner jobs a b u, shares_fit owner (positions jobs) d a b)

-- Necessity: what the jobs of a chain get fits, whoever has the ticks and however many each job may get.
pub got_fit : (jobs : List Job) (owner : Owner) → Chain jobs → works_fit jobs (got_works jobs owner) ≡ true
unfolding works_fit
got_fit [] owner c = refl
got_fit (job ∷ jobs) owner c =
    works_cons job jobs (got owner job) (got_works jobs owner)
    (got_within owner (job ∷ jobs) job.release job.deadline c.distinct ((omega arith, omega arith), c.nested.0))
    (got_fit jobs owner (chain_tail job jobs c))

-- the marks read off a running: a job is kept where it gets its mandatory and optional ticks together
abbrev pub is_kept : Owner → Job → Bool
is_kept owner job = eqb (got owner job) (job.mandatory + job.optional)

-- the marks of all jobs
abbrev pub marks_of : List Job → Owner → List Bool
marks_of jobs owner = map (is_kept owner) jobs

-- what a job gets is its work under the mark read off
work_got : (owner : Owner) (job : Job) → Gets Whole owner job → work_with job (is_kept owner job) ≡ got owner job
work_got owner job (inl e) = cases (is_kept owner job) (λ q. rw q (sym (eqb-true _ _ q))) (λ q. rw q (omega arith))
work_got owner job (inr e) = rw (eq-eqb (got owner job) (job.mandatory + job.optional) e) (sym e)

-- so the works under the marks read off are those read off
pub marks_works : (owner : Owner) (jobs : List Job) → All (Gets Whole owner) jobs → works_of jobs (marks_of jobs owner) ≡ got_works jobs owner
unfolding works_of
marks_works owner [] g = refl
marks_works owner (job ∷ jobs) g = rw (work_got owner job g.0, marks_works owner jobs g.1)

-- The work of such jobs under the marks read off is no more than the ticks there.
pub work_fits : (owner : Owner) (jobs : List Job) (a b : ℕ) → Distinct (positions jobs) → All (Between a b) jobs → All (Gets Whole owner) jobs
    → total_work jobs (marks_of jobs owner) ≤ b - a
work_fits owner jobs a b d u g = rw (marks_works owner jobs g) (got_within owner jobs a b d u)

-- for an optional part above 0 ticks: it is not kept exactly where its job gets its mandatory ticks alone
mark_discards : (g m o : ℕ) → (g ≡ m) ⊎ (g ≡ m + o) → and (ltb 0 o) (not (eqb g (m + o))) ≡ and (ltb 0 o) (eqb g m)
mark_discards g m o (inl e) =
    cases (ltb 0 o)
    (λ q. let p = ltb-true 0 o q in rw (q, eq-eqb g m e, ne_eqb g (m + o) (omega arith)))
    (λ q. rw q)
mark_discards g m o (inr e) =
    cases (ltb 0 o)
    (λ q. let p = ltb-true 0 o q in rw (q, eq-eqb g (m + o) e, ne_eqb g m (omega arith)))
    (λ q. rw q)

-- the marks read off discard what the running discards
marks_discard : (weight : ℕ → ℕ) (owner : Owner) (jobs : List Job) → All (Gets Whole owner) jobs
    → discarded_worth (weighed weight) jobs (marks_of jobs owner) ≡ discarded_weight weight jobs owner
unfolding discarded_worth discarded_weight
marks_discard weight owner [] g = refl
marks_discard weight owner (job ∷ jobs) g =
    rw (discarded_cons weight job jobs (is_kept owner job) (marks_of jobs owner), mark_discards (got owner job) job.mandatory job.optional g.0)
    (omega (arith, marks_discard weight owner jobs g.1))

-- The marks read off a running of a chain fit.
pub running_fits : (jobs : List Job) (owner : Owner) → Chain jobs → Running jobs owner → fits jobs (marks_of jobs owner) ≡ true
running_fits jobs owner c r = rw (marks_works owner jobs r.gets) (got_fit jobs owner c)

-- They discard what it discards; for this the jobs need not be a chain.
pub running_discards : (weight : ℕ → ℕ) (jobs : List Job) (owner : Owner) → Running jobs owner
    → discarded_worth (weighed weight) jobs (marks_of jobs owner) ≡ discarded_weight weight jobs owner
running_discards weight jobs owner r = marks_discard weight owner jobs r.gets

-- Works and keep lists of a chain that fit, placed, are runnings, and discard what the list discards.
use Prim.Native.Nat.{ℕ}
use mathlib.Core.Path.{◌≡◌, refl}
use mathlib.Core.Logic.{inl, inr}
use mathlib.Core.List.{List, [], ◌∷◌}
use mathlib.Core.Bool.{Bool, true, false, not}
use native.Mathlib.Omega.{arith}
use lib.Dec.{eqb}
use lib.ListN.{length}
use borrow.Author.Tests.{ne_eqb, eq-eqb, ltb-true}
use Rattle.base.specs.Tests.{and}
use Rattle.base.proofs.TestLaws.{cases}
use Rattle.schedule.specs.declared.Job.{Job}
use Rattle.schedule.specs.Jobs.{counts, work_with}
use Rattle.schedule.specs.Ticks.{Owner}
use Rattle.schedule.specs.Runnings.{got, RunningOf, Whole, Running, discarded_weight}
use Rattle.base.specs.Members.{All}
use Rattle.choice.specs.Choice.{works_fit, works_of, fits, discarded_worth, weighed}
use Rattle.choice.proofs.FitLaws.{fits_length, discarded_cons}
use Rattle.placement.specs.Chains.{Chain}
use Rattle.placement.specs.Placing.{works_placed, placed}
use Rattle.placement.specs.Outcomes.{GetsWorks, GetsWork, MayGet}
use Rattle.placement.proofs.Sufficiency.{works_placed_lem, fits_placed}

-- jobs that get their works, and may get them, get what they may
pub all_may : (May : Job → ℕ → Type 0) (owner : Owner) (jobs : List Job) (works : List ℕ) → GetsWorks jobs works owner → MayGet May jobs works
    → All (λ job. May job (got owner job)) jobs
all_may May owner [] works g m = tt
all_may May owner (job ∷ jobs) [] g m = absurd g
all_may May owner (job ∷ jobs) (work ∷ works) g m = (rw g.0 m.0, all_may May owner jobs works g.1 m.1)

-- Works that fit, placed, are a running, where each job may get its work.
pub works_running : (May : Job → ℕ → Type 0) (jobs : List Job) (works : List ℕ) → Chain jobs → works_fit jobs works ≡ true → MayGet May jobs works
    → RunningOf May jobs (works_placed jobs works)
works_running May jobs works c e m =
    let p = works_placed_lem jobs works c e in
    record { inside = p.inside; gets = all_may May (works_placed jobs works) jobs works p.work m }

-- the work under a mark is one of the two amounts of a job
mark_may : (job : Job) (keep : Bool) → Whole job (work_with job keep)
mark_may job true = inr refl
mark_may job false = inl (omega arith)

-- so are the works under a list of one mark a job
pub marks_may : (jobs : List Job) (keeps : List Bool) → length keeps ≡ length jobs → MayGet Whole jobs (works_of jobs keeps)
unfolding works_of
marks_may [] [] n = tt
marks_may [] (keep ∷ keeps) n = absurd (omega arith)
marks_may (job ∷ jobs) [] n = absurd (omega arith)
marks_may (job ∷ jobs) (keep ∷ keeps) n = (mark_may job keep, marks_may jobs keeps (omega arith))

-- for an optional part above 0 ticks: its job gets the mandatory ticks alone exactly where it is not kept
work_discards : (g : ℕ) (job : Job) (keep : Bool) → g ≡ work_with job keep → and (counts job) (eqb g job.mandatory) ≡ and (counts job) (not keep)
work_discards g job true e =
    cases (counts job) (λ q. let p = ltb-true 0 job.optional q in rw (q, ne_eqb g job.mandatory (omega arith))) (λ q. rw q)
work_discards g job false e = rw (eq-eqb g job.mandatory (omega arith))

-- jobs that get the work of a list discard what the list discards
pub list_discards : (weight : ℕ → ℕ) (owner : Owner) (jobs : List Job) (keeps : List Bool) → GetsWork jobs keeps owner
    → discarded_weight weight jobs owner ≡ discarded_worth (weighed weight) jobs keeps
unfolding works_of discarded_weight discarded_worth
list_discards weight owner [] keeps g = refl
list_discards weight owner (job ∷ jobs) [] g = absurd g
list_discards weight owner (job ∷ jobs) (keep ∷ keeps) g =
    rw (discarded_cons weight job jobs keep keeps, work_discards (got owner job) job keep g.0)
    (omega (arith, list_discards weight owner jobs keeps g.1))

-- A list that fits, placed, is a running.
pub placed_running : (jobs : List Job) (keeps : List Bool) → Chain jobs → fits jobs keeps ≡ true → Running jobs (placed jobs keeps)
placed_running jobs keeps c e = works_running Whole jobs (works_of jobs keeps) c e (marks_may jobs keeps (fits_length jobs keeps e))

-- In it each job gets its work under its mark.
pub placed_work : (jobs : List Job) (keeps : List Bool) → Chain jobs → fits jobs keeps ≡ true → GetsWork jobs keeps (placed jobs keeps)
placed_work jobs keeps c e = (fits_placed jobs keeps c e).work

-- It discards what the list discards.
pub placed_discards : (weight : ℕ → ℕ) (jobs : List Job) (keeps : List Bool) → Chain jobs → fits jobs keeps ≡ true
    → discarded_weight weight jobs (placed jobs keeps) ≡ discarded_worth (weighed weight) jobs keeps
placed_discards weight jobs keeps c e = list_discards weight (placed jobs keeps) jobs keeps (placed_work jobs keeps c e)

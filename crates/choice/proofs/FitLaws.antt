-- Laws of lists that fit: what they keep and discard, and how a fitting list begins.
use Prim.Native.Nat.{ℕ, suc, ◌+◌, ◌≤◌}
use mathlib.Core.Path.{◌≡◌, refl, ap}
use mathlib.Core.List.{List, [], ◌∷◌}
use mathlib.Core.Bool.{Bool, true, false, not}
use native.Mathlib.Omega.{arith}
use lib.ListN.{length}
use Rattle.base.specs.Tests.{pick, and}
use Rattle.base.proofs.TestLaws.{cases, both_absurd}
use Rattle.schedule.specs.declared.Job.{Job}
use Rattle.schedule.specs.Jobs.{work_of, counts, window_ticks, work_with}
use Rattle.schedule.specs.Ticks.{one_if}
use Rattle.choice.specs.Choice.{works_fit, works_of, fits, keep_none, kept_ticks, discarded_worth, kept_worth, weighed}
use Rattle.choice.specs.KeepLists.{total_work}
use Rattle.choice.specs.Programme.{mandatory_sum, outermost_ticks, all_worth}
use Rattle.choice.proofs.WorkLaws.{NoMore, SameWindows, works_head, works_tail, works_cons, works_less, works_windows}

-- the work under a Bool mark is the work under the mark as a number
pub work_mark : (job : Job) (keep : Bool) → work_of job (one_if keep) ≡ work_with job keep
work_mark job true = refl
work_mark job false = refl

-- where a list fits, the first window has room for all work
pub fits_head : (job : Job) (jobs : List Job) (keep : Bool) (keeps : List Bool) → fits (job ∷ jobs) (keep ∷ keeps) ≡ true
    → work_with job keep + total_work jobs keeps ≤ window_ticks job
unfolding works_of
fits_head job jobs keep keeps e = works_head job jobs (work_with job keep) (works_of jobs keeps) e

-- and the rest of the list fits
pub fits_tail : (job : Job) (jobs : List Job) (keep : Bool) (keeps : List Bool) → fits (job ∷ jobs) (keep ∷ keeps) ≡ true → fits jobs keeps ≡ true
unfolding works_of
fits_tail job jobs keep keeps e = works_tail job jobs (work_with job keep) (works_of jobs keeps) e

-- a list fits where the first window has room for all work and the rest fits
pub fits_cons : (job : Job) (jobs : List Job) (keep : Bool) (keeps : List Bool) → work_with job keep + total_work jobs keeps ≤ window_ticks job
    → fits jobs keeps ≡ true → fits (job ∷ jobs) (keep ∷ keeps) ≡ true
unfolding works_of
fits_cons job jobs keep keeps h e = works_cons job jobs (work_with job keep) (works_of jobs keeps) h e

-- a list that fits has one mark a job
pub fits_length : (jobs : List Job) (keeps : List Bool) → fits jobs keeps ≡ true → length keeps ≡ length jobs
unfolding works_fit works_of
fits_length [] [] e = refl
fits_length [] (keep ∷ keeps) e = both_absurd false e refl
fits_length (job ∷ jobs) [] e = both_absurd false e refl
fits_length (job ∷ jobs) (keep ∷ keeps) e = ap suc (fits_length jobs keeps (fits_tail job jobs keep keeps e))

-- all work is the mandatory ticks and the kept optional ones
pub work_split : (jobs : List Job) (keeps : List Bool) → fits jobs keeps ≡ true → total_work jobs keeps ≡ mandatory_sum jobs + kept_ticks jobs keeps
unfolding works_fit works_of kept_worth
work_split [] [] e = refl
work_split [] (keep ∷ keeps) e = both_absurd false e refl
work_split (job ∷ jobs) [] e = both_absurd false e refl
work_split (job ∷ jobs) (keep ∷ keeps) e = omega (arith, work_split jobs keeps (fits_tail job jobs keep keeps e))

-- where a list fits, the first window has room for all mandatory ticks and the kept ones
pub fits_room : (job : Job) (jobs : List Job) (keep : Bool) (keeps : List Bool) → fits (job ∷ jobs) (keep ∷ keeps) ≡ true
    → mandatory_sum (job ∷ jobs) + kept_ticks (job ∷ jobs) (keep ∷ keeps) ≤ window_ticks job
unfolding kept_worth
fits_room job jobs keep keeps e =
    omega (arith, fits_head job jobs keep keeps e, work_split jobs keeps (fits_tail job jobs keep keeps e))

-- and the other way round
pub room_fits : (job : Job) (jobs : List Job) (keep : Bool) (keeps : List Bool) → fits jobs keeps ≡ true
    → mandatory_sum (job ∷ jobs) + kept_ticks (job ∷ jobs) (keep ∷ keeps) ≤ window_ticks job → fits (job ∷ jobs) (keep ∷ keeps) ≡ true
unfolding kept_worth
room_fits job jobs keep keeps e h = fits_cons job jobs keep keeps (omega (arith, work_split jobs keeps e)) e

-- the list that keeps nothing keeps no worth
pub none_worth : (worth : Job → ℕ) (jobs : List Job) → kept_worth worth jobs (keep_none jobs) ≡ 0
unfolding kept_worth
none_worth worth [] = refl
none_worth worth (job ∷ jobs) = omega (arith, none_worth worth jobs)

-- if any list fits, the one that keeps nothing does
pub none_fits : (jobs : List Job) (keeps : List Bool) → fits jobs keeps ≡ true → fits jobs (keep_none jobs) ≡ true
unfolding works_fit works_of kept_worth
none_fits [] [] e = refl
none_fits [] (keep ∷ keeps) e = both_absurd false e refl
none_fits (job ∷ jobs) [] e = both_absurd false e refl
none_fits (job ∷ jobs) (keep ∷ keeps) e =
    room_fits job jobs false (keep_none jobs) (none_fits jobs keeps (fits_tail job jobs keep keeps e))
    (omega (arith, none_worth (λ job. job.optional) jobs, fits_room job jobs keep keeps e))

-- no list that fits keeps more than the ticks of the outermost window
pub ticks_outermost : (jobs : List Job) (keeps : List Bool) → fits jobs keeps ≡ true → kept_ticks jobs keeps ≤ outermost_ticks jobs
unfolding works_fit works_of kept_worth
ticks_outermost [] keeps e = omega arith
ticks_outermost (job ∷ jobs) [] e = omega arith
ticks_outermost (job ∷ jobs) (keep ∷ keeps) e = omega (arith, fits_room job jobs keep keeps e)

-- of a list of one mark a job, what is discarded and what is kept are all worth
pub worth_split : (worth : Job → ℕ) (jobs : List Job) (keeps : List Bool) → length keeps ≡ length jobs
    → discarded_worth worth jobs keeps + kept_worth worth jobs keeps ≡ all_worth worth jobs
unfolding discarded_worth kept_worth
worth_split worth [] keeps n = refl
worth_split worth (job ∷ jobs) [] n = absurd (omega arith)
worth_split worth (job ∷ jobs) (true ∷ keeps) n = omega (arith, worth_split worth jobs keeps (omega arith))
worth_split worth (job ∷ jobs) (false ∷ keeps) n = omega (arith, worth_split worth jobs keeps (omega arith))

-- what the first job adds to the weight discarded
pub discarded_cons : (weight : ℕ → ℕ) (job : Job) (jobs : List Job) (keep : Bool) (keeps : List Bool)
    → discarded_worth (weighed weight) (job ∷ jobs) (keep ∷ keeps)
    ≡ pick (and (counts job) (not keep)) (weight job.position) 0 + discarded_worth (weighed weight) jobs keeps
unfolding discarded_worth
discarded_cons weight job jobs true keeps = cases (counts job) (λ e. rw e) (λ e. rw e)
discarded_cons weight job jobs false keeps = cases (counts job) (λ e. rw e) (λ e. rw e)

-- jobs with the same windows and lesser lengths, one by one
abbrev pub Shorter : List Job → List Job → Type 0
Shorter [] [] = Unit {0}
Shorter [] (job ∷ jobs) = ⊥
Shorter (short ∷ shorts) [] = ⊥
Shorter (short ∷ shorts) (job ∷ jobs) =
    (window_ticks job ≡ window_ticks short) × (short.mandatory ≤ job.mandatory) × (short.optional ≤ job.optional) × Shorter shorts jobs

-- the work of a job grows with its lengths
work_less : (short job : Job) (keep : Bool) → short.mandatory ≤ job.mandatory → short.optional ≤ job.optional → work_with short keep ≤ work_with job keep
work_less short job true m o = omega arith
work_less short job false m o = omega arith

-- so do the works of a list that fits
shorter_works : (shorts jobs : List Job) (keeps : List Bool) → Shorter shorts jobs → fits jobs keeps ≡ true → NoMore (works_of shorts keeps) (works_of jobs keeps)
unfolding works_fit works_of
shorter_works [] [] [] s e = tt
shorter_works [] [] (keep ∷ keeps) s e = both_absurd false e refl
shorter_works [] (job ∷ jobs) keeps s e = absurd s
shorter_works (short ∷ shorts) [] keeps s e = absurd s
shorter_works (short ∷ shorts) (job ∷ jobs) [] s e = both_absurd false e refl
shorter_works (short ∷ shorts) (job ∷ jobs) (keep ∷ keeps) s e =
    (work_less short job keep s.1 s.2, shorter_works shorts jobs keeps s.3 (fits_tail job jobs keep keeps e))

-- the windows are the same
shorter_windows : (shorts jobs : List Job) → Shorter shorts jobs → SameWindows jobs shorts
shorter_windows [] [] s = tt
shorter_windows [] (job ∷ jobs) s = s
shorter_windows (short ∷ shorts) [] s = s
shorter_windows (short ∷ shorts) (job ∷ jobs) s = (s.0, shorter_windows shorts jobs s.3)

-- A list that fits jobs fits all that have the same windows and lesser lengths: one that fits the greatest lengths fits every choice of lengths.
pub fits_shorter : (shorts jobs : List Job) (keeps : List Bool) → Shorter shorts jobs → fits jobs keeps ≡ true → fits shorts keeps ≡ true
fits_shorter shorts jobs keeps s e =
    works_windows jobs shorts (works_of shorts keeps) (shorter_windows shorts jobs s)
    (works_less jobs (works_of shorts keeps) (works_of jobs keeps) (shorter_works shorts jobs keeps s e) e)

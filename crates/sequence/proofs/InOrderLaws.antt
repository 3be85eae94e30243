-- Laws of running in order: where work ends, when it is in time, and which lists fit.
use Prim.Native.Nat.{ℕ, zero, suc, ◌+◌, ◌≤◌, ◌<◌}
use mathlib.Core.Path.{◌≡◌, refl, ap}
use mathlib.Core.List.{List, [], ◌∷◌}
use mathlib.Core.Bool.{Bool, true, false}
use native.Mathlib.Omega.{arith}
use lib.ListN.{length}
use borrow.Author.Tests.{leb-true, leb-false, le-leb, lt-ltb}
use Rattle.base.proofs.TestLaws.{both_absurd, and_true, and_left, and_right}
use Rattle.schedule.specs.declared.Job.{Job}
use Rattle.base.specs.Members.{All}
use Rattle.schedule.specs.Jobs.{work_with}
use Rattle.choice.specs.Choice.{keep_none}
use Rattle.sequence.specs.InOrder.{starts_at, ends_at, in_time, finish, fits_in_order}

-- there is work, or none
pub work_cases : {C : Type 0} (w : ℕ) → (w ≡ 0 → C) → (0 < w → C) → C
work_cases zero f g = f refl
work_cases (suc w) f g = g (omega arith)

-- no ticks end at once, and are in time
pub ends_none : (job : Job) (w time : ℕ) → w ≡ 0 → ends_at job w time ≡ time
unfolding ends_at
ends_none job w time e = rw e

pub time_none : (job : Job) (w time : ℕ) → w ≡ 0 → in_time job w time ≡ true
unfolding in_time
time_none job w time e = rw e

-- where w ticks end, and when they are in time
pub ends_some : (job : Job) (w time : ℕ) → 0 < w → ends_at job w time ≡ starts_at job time + w
unfolding ends_at
ends_some job w time l = rw (lt-ltb 0 w l)

pub time_some : (job : Job) (w time : ℕ) → 0 < w → starts_at job time + w ≤ job.deadline → in_time job w time ≡ true
unfolding in_time
time_some job w time l h = rw (lt-ltb 0 w l, le-leb (starts_at job time + w) job.deadline h)

pub time_known : (job : Job) (w time : ℕ) → 0 < w → in_time job w time ≡ true → starts_at job time + w ≤ job.deadline
unfolding in_time
time_known job w time l e = leb-true (starts_at job time + w) job.deadline (rw (lt-ltb 0 w l) at e)

pub late_known : (job : Job) (w time : ℕ) → in_time job w time ≡ false → (0 < w) × (job.deadline < starts_at job time + w)
unfolding in_time
late_known job w time e =
    work_cases w
    (λ z. both_absurd (in_time job w time) (time_none job w time z) e)
    (λ l. (l, leb-false (starts_at job time + w) job.deadline (rw (lt-ltb 0 w l) at e)))

-- work does not end before it may begin
pub ends_after_lem : (job : Job) (w time : ℕ) → time ≤ ends_at job w time
ends_after_lem job w time =
    work_cases w (λ z. omega (arith, ends_none job w time z)) (λ l. omega (arith, ends_some job w time l))

-- less work that may begin earlier ends no later
pub ends_grows : (job : Job) (w v time later : ℕ) → w ≤ v → time ≤ later → ends_at job w time ≤ ends_at job v later
ends_grows job w v time later h l =
    work_cases w
    (λ z. omega (arith, ends_none job w time z, ends_after_lem job v later))
    (λ p. omega (arith, ends_some job w time p, ends_some job v later (omega arith)))

-- and is in time where more is
pub time_less : (job : Job) (w v time later : ℕ) → w ≤ v → time ≤ later → in_time job v later ≡ true → in_time job w time ≡ true
time_less job w v time later h l e =
    work_cases w
    (λ z. time_none job w time z)
    (λ p. time_some job w time p (omega (arith, time_known job v later (omega arith) e)))

-- where a list fits, the first job's work is in time
pub order_head : (job : Job) (jobs : List Job) (keep : Bool) (keeps : List Bool) → fits_in_order (job ∷ jobs) (keep ∷ keeps) ≡ true
    → in_time job (work_with job keep) (finish jobs keeps) ≡ true
unfolding fits_in_order
order_head job jobs keep keeps e = and_left (in_time job (work_with job keep) (finish jobs keeps)) (fits_in_order jobs keeps) e

-- and the rest of the list fits
pub order_tail : (job : Job) (jobs : List Job) (keep : Bool) (keeps : List Bool) → fits_in_order (job ∷ jobs) (keep ∷ keeps) ≡ true
    → fits_in_order jobs keeps ≡ true
unfolding fits_in_order
order_tail job jobs keep keeps e = and_right (in_time job (work_with job keep) (finish jobs keeps)) (fits_in_order jobs keeps) e

-- and the other way round
pub order_cons : (job : Job) (jobs : List Job) (keep : Bool) (keeps : List Bool) → in_time job (work_with job keep) (finish jobs keeps) ≡ true
    → fits_in_order jobs keeps ≡ true → fits_in_order (job ∷ jobs) (keep ∷ keeps) ≡ true
unfolding fits_in_order
order_cons job jobs keep keeps t e = and_true (in_time job (work_with job keep) (finish jobs keeps)) (fits_in_order jobs keeps) t e

-- a list that fits has one mark a job
pub order_length : (jobs : List Job) (keeps : List Bool) → fits_in_order jobs keeps ≡ true → length keeps ≡ length jobs
unfolding fits_in_order
order_length [] [] e = refl
order_length [] (keep ∷ keeps) e = both_absurd false e refl
order_length (job ∷ jobs) [] e = both_absurd false e refl
order_length (job ∷ jobs) (keep ∷ keeps) e = ap suc (order_length jobs keeps (order_tail job jobs keep keeps e))

-- discarded parts are less work
pub discard_less : (job : Job) (keep : Bool) → work_with job false ≤ work_with job keep
discard_less job true = omega arith
discard_less job false = omega arith

-- if any list fits, the one that keeps nothing does, and its work ends no later
pub none_earliest : (jobs : List Job) (keeps : List Bool) → fits_in_order jobs keeps ≡ true
    → (fits_in_order jobs (keep_none jobs) ≡ true) × (finish jobs (keep_none jobs) ≤ finish jobs keeps)
unfolding fits_in_order finish
none_earliest [] [] e = (refl, omega arith)
none_earliest [] (keep ∷ keeps) e = both_absurd false e refl
none_earliest (job ∷ jobs) [] e = both_absurd false e refl
none_earliest (job ∷ jobs) (keep ∷ keeps) e =
    let h = none_earliest jobs keeps (order_tail job jobs keep keeps e) in (
      order_cons job jobs false (keep_none jobs)
          (time_less job _ _ _ _ (discard_less job keep) h.1 (order_head job jobs keep keeps e))
          h.0,
      ends_grows job (work_with job false) (work_with job keep) (finish jobs (keep_none jobs)) (finish jobs keeps) (discard_less job keep) h.1,
    )

-- the work of a list that fits ends by every tick that no deadline is after
pub finish_by : (jobs : List Job) (keeps : List Bool) (b : ℕ) → fits_in_order jobs keeps ≡ true → All (λ job. job.deadline ≤ b) jobs
    → finish jobs keeps ≤ b
unfolding fits_in_order finish
finish_by [] keeps b e a = omega arith
finish_by (job ∷ jobs) [] b e a = both_absurd false e refl
finish_by (job ∷ jobs) (keep ∷ keeps) b e a =
    let rest = finish_by jobs keeps b (order_tail job jobs keep keeps e) a.1 in
    let d = a.0 in
    work_cases (work_with job keep)
    (λ z. omega (arith, ends_none job (work_with job keep) (finish jobs keeps) z))
    (λ l.
    omega (
      arith,
      ends_some job (work_with job keep) (finish jobs keeps) l,
      time_known job (work_with job keep) (finish jobs keeps) l (order_head job jobs keep keeps e),
    ))

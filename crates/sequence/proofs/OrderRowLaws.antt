-- Laws of the rows of similar jobs: each number of a row is the earliest end, and the marks read back with a bound end by it and follow the tie
-- rule. Nothing is asked of the jobs here.
use Prim.Native.Nat.{ℕ, zero, suc, ◌+◌, ◌-◌, ◌≤◌, ◌<◌, min}
use mathlib.Core.Path.{◌≡◌, refl}
use mathlib.Core.List.{List, [], ◌∷◌}
use mathlib.Core.Bool.{Bool, true, false}
use native.Mathlib.Nat.{add-sub_cancel_left}
use native.Mathlib.Omega.{arith}
use native.Mathlib.Decide.{dec_lt}
use lib.Dec.{leb}
use borrow.Author.Tests.{leb-true, leb-false, le-leb, lt-leb, lt-ltb}
use Rattle.base.proofs.TestLaws.{both_absurd, pick_true, pick_false, pick_cases, picked}
use Rattle.schedule.specs.declared.Job.{Job}
use Rattle.schedule.specs.Jobs.{work_with}
use Rattle.choice.specs.Choice.{discard_marks, kept_worth}
use Rattle.choice.specs.KeepLists.{ZeroKept}
use Rattle.choice.specs.Programme.{mandatory_sum, all_worth}
use Rattle.choice.proofs.LexLaws.{LexAtMost}
use Rattle.choice.proofs.ProgrammeLaws.{greatest_is}
use Rattle.sequence.specs.InOrder.{starts_at, ends_at, in_time, finish, fits_in_order}
use Rattle.sequence.specs.OrderRows.{ending, bound_before, keeping_end, discarding_end, earliest, read_back, most_worth}
use Rattle.sequence.proofs.InOrderLaws.{work_cases, ends_none, ends_some, time_none, time_some, time_known, ends_after_lem, ends_grows, time_less}
use Rattle.sequence.proofs.InOrderLaws.{order_head, order_tail, order_cons}

-- a list that fits, keeps the worth v and ends by a bound
pub record EndsBy (worth : Job → ℕ) (jobs : List Job) (v bound : ℕ) (keeps : List Bool) : Type 0 where
  pub fit : fits_in_order jobs keeps ≡ true
  pub value : kept_worth worth jobs keeps ≡ v
  pub ends : finish jobs keeps ≤ bound

-- The bound for the jobs before one.

-- without work it is the bound itself
pub bound_none : (job : Job) (w bound : ℕ) → w ≡ 0 → bound_before job w bound ≡ bound
unfolding bound_before
bound_none job w bound e = rw e

-- with work the time for it is taken off
pub bound_some : (job : Job) (w bound : ℕ) → 0 < w → bound_before job w bound ≡ min job.deadline bound - w
unfolding bound_before
bound_some job w bound l = rw (lt-ltb 0 w l)

-- it is no later than the bound
pub bound_less : (job : Job) (w bound : ℕ) → bound_before job w bound ≤ bound
bound_less job w bound =
    work_cases w (λ z. omega (arith, bound_none job w bound z)) (λ l. omega (arith, bound_some job w bound l))

-- work that is in time and ends by the bound may begin by the bound for the jobs before
bound_kept : (job : Job) (w time bound : ℕ) → in_time job w time ≡ true → ends_at job w time ≤ bound → time ≤ bound_before job w bound
bound_kept job w time bound e h =
    work_cases w
    (λ z. omega (arith, bound_none job w bound z, ends_none job w time z))
    (λ l. omega (arith, bound_some job w bound l, ends_some job w time l, time_known job w time l e))

-- where work is in time and ends by the bound from one time on, it does so from every time up to the bound for the jobs before
bound_enough : (job : Job) (w time other bound : ℕ) → in_time job w time ≡ true → ends_at job w time ≤ bound → other ≤ bound_before job w bound
    → (in_time job w other ≡ true) × (ends_at job w other ≤ bound)
bound_enough job w time other bound e h l =
    work_cases w
    (λ z. (time_none job w other z, omega (arith, bound_none job w bound z, ends_none job w other z)))
    (λ p.
    let a = bound_some job w bound p in
    let b = ends_some job w time p in
    let c = time_known job w time p e in
    (time_some job w other p (omega arith), omega (arith, ends_some job w other p)))

-- Where work ends, as it stands in a row.
module _ (huge : ℕ) where
  -- what stands there without work, with work that ends in time, and with work that is late
  pub ending_none : (job : Job) (w time : ℕ) → w ≡ 0 → ending huge job w time ≡ time
  unfolding ending
  ending_none job w time z = rw (time_none job w time z) (ends_none job w time z)

  pub ending_some : (job : Job) (w time : ℕ) → 0 < w → starts_at job time + w ≤ job.deadline → ending huge job w time ≡ starts_at job time + w
  unfolding ending
  ending_some job w time l h = rw (time_some job w time l h) (ends_some job w time l)

  pub ending_late : (job : Job) (w time : ℕ) → 0 < w → job.deadline < starts_at job time + w → ending huge job w time ≡ huge
  unfolding ending in_time
  ending_late job w time l h = rw (lt-ltb 0 w l, lt-leb (starts_at job time + w) job.deadline h)

  -- an end by a bound below huge is one in time
  ending-known : (job : Job) (w time bound : ℕ) → ending huge job w time ≤ bound → bound < huge → (in_time job w time ≡ true) × (ends_at job w time ≤ bound)
  unfolding ending
  ending-known job w time bound h l =
      picked (λ e. e ≤ bound) (in_time job w time) h (λ t e. (t, e)) (λ t e. absurd (omega arith))

  -- work that ends by a bound below huge has room before the deadline and the bound
  work-room : (job : Job) (w time bound : ℕ) → ending huge job w time ≤ bound → bound < huge → w ≤ min job.deadline bound
  work-room job w time bound h l =
      let k = ending-known job w time bound h l in
      let e = k.1 in
      work_cases w (λ z. omega arith) (λ p. omega (arith, ends_some job w time p, time_known job w time p k.0))

  -- in time, a time that is no later gives an end that is no later
  ending-least : (job : Job) (w time later : ℕ) → time ≤ later → in_time job w later ≡ true → ending huge job w time ≤ ends_at job w later
  unfolding ending
  ending-least job w time later l e =
      rw (time_less job w w time later (omega arith) l e) (ends_grows job w w time later (omega arith) l)

  -- an end has time for the work that was before and for the work itself, or is huge
  pub ending_mandatory : (job : Job) (w before time : ℕ) → min before huge ≤ time → min (before + w) huge ≤ ending huge job w time
  unfolding ending
  ending_mandatory job w before time l =
      pick_cases (λ e. min (before + w) huge ≤ e) (in_time job w time)
      (λ t. work_cases w (λ z. omega (arith, ends_none job w time z)) (λ p. omega (arith, ends_some job w time p)))
      (λ t. omega arith)

module _ (worth : Job → ℕ) (huge : ℕ) where
  -- with the job kept, where its worth is at most v, and where it is more
  pub keeping_enough : (job : Job) (before : ℕ → ℕ) (v : ℕ) → worth job ≤ v
      → keeping_end worth huge job before v ≡ ending huge job (work_with job true) (before (v - worth job))
  unfolding keeping_end
  keeping_enough job before v l = pick_true _ _ _ (le-leb (worth job) v l)

  pub keeping_short : (job : Job) (before : ℕ → ℕ) (v : ℕ) → v < worth job → keeping_end worth huge job before v ≡ huge
  unfolding keeping_end
  keeping_short job before v l = pick_false _ _ _ (lt-leb (worth job) v l)

  -- with the job kept, its worth is at most v where the end is below huge
  keeping-known : (job : Job) (before : ℕ → ℕ) (v bound : ℕ) → keeping_end worth huge job before v ≤ bound → bound < huge
      → (worth job ≤ v) × (ending huge job (work_with job true) (before (v - worth job)) ≤ bound)
  unfolding keeping_end
  keeping-known job before v bound h l =
      picked (λ e. e ≤ bound) (leb (worth job) v) h (λ t e. (leb-true (worth job) v t, e)) (λ t e. absurd (omega arith))

  -- with the job kept the end is no later than that of a list of the jobs before
  keeping-least : (job : Job) (before : ℕ → ℕ) (v time : ℕ) → before v ≤ time → in_time job (work_with job true) time ≡ true
      → keeping_end worth huge job before (worth job + v) ≤ ends_at job (work_with job true) time
  unfolding keeping_end
  keeping-least job before v time h e =
      pick_cases (λ x. x ≤ ends_at job (work_with job true) time) (leb (worth job) (worth job + v))
      (λ t. rw add-sub_cancel_left (ending-least huge job (work_with job true) (before v) time h e))
      (λ t. absurd (omega (arith, leb-false)))

  -- no list that fits ends earlier than the row says at its worth
  pub earliest_least : (jobs : List Job) (keeps : List Bool) → fits_in_order jobs keeps ≡ true
      → earliest worth huge jobs (kept_worth worth jobs keeps) ≤ finish jobs keeps
  unfolding fits_in_order earliest kept_worth finish discarding_end
  earliest_least [] [] e = omega arith
  earliest_least [] (keep ∷ keeps) e = both_absurd false e refl
  earliest_least (job ∷ jobs) [] e = both_absurd false e refl
  earliest_least (job ∷ jobs) (true ∷ keeps) e =
      let rest = earliest_least jobs keeps (order_tail job jobs true keeps e) in
      let h = keeping-least job (earliest worth huge jobs) (kept_worth worth jobs keeps) (finish jobs keeps) rest (order_head job jobs true keeps e) in
      omega arith
  earliest_least (job ∷ jobs) (false ∷ keeps) e =
      let rest = earliest_least jobs keeps (order_tail job jobs false keeps e) in
      let z : 0 + kept_worth worth jobs keeps ≡ kept_worth worth jobs keeps = omega arith in
      let h = ending-least huge job (work_with job false) _ (finish jobs keeps) rest (order_head job jobs false keeps e) in
      rw z (omega arith)

  -- a job more: the list of those before ends by their bound
  ends-cons : (job : Job) (jobs : List Job) (keep : Bool) (keeps : List Bool) (v bound time u : ℕ)
      → ending huge job (work_with job keep) time ≤ bound → bound < huge
      → EndsBy worth jobs u (bound_before job (work_with job keep) bound) keeps → kept_worth worth (job ∷ jobs) (keep ∷ keeps) ≡ v
      → EndsBy worth (job ∷ jobs) v bound (keep ∷ keeps)
  unfolding finish
  ends-cons job jobs keep keeps v bound time u h l f e =
      let k = ending-known huge job (work_with job keep) time bound h l in
      let g = bound_enough job (work_with job keep) time (finish jobs keeps) bound k.0 k.1 f.ends in
      record { fit = order_cons job jobs keep keeps g.0 f.fit; value = e; ends = g.1 }

  -- a job less
  ends-tail : (job : Job) (jobs : List Job) (keep : Bool) (keeps : List Bool) (v bound u : ℕ) → EndsBy worth (job ∷ jobs) v bound (keep ∷ keeps)
      → kept_worth worth jobs keeps ≡ u → EndsBy worth jobs u (bound_before job (work_with job keep) bound) keeps
  unfolding finish
  ends-tail job jobs keep keeps v bound u f e =
      record {
        fit = order_tail job jobs keep keeps f.fit;
        value = e;
        ends = bound_kept job (work_with job keep) (finish jobs keeps) bound (order_head job jobs keep keeps f.fit) f.ends;
      }

  -- the row of the jobs before is within their bound
  before-bound : (job : Job) (w time bound : ℕ) → ending huge job w time ≤ bound → bound < huge → time ≤ bound_before job w bound
  before-bound job w time bound h l =
      let k = ending-known huge job w time bound h l in
      bound_kept job w time bound k.0 k.1

  -- where a row is within a bound below huge, the marks read back keep the worth and end by the bound
  pub back_ends : (jobs : List Job) (v bound : ℕ) → earliest worth huge jobs v ≤ bound → bound < huge
      → EndsBy worth jobs v bound (read_back worth huge jobs v bound)
  unfolding earliest read_back fits_in_order kept_worth finish discarding_end
  back_ends [] zero bound h l = record { fit = refl; value = refl; ends = omega arith }
  back_ends [] (suc v) bound h l = absurd (omega arith)
  back_ends (job ∷ jobs) v bound h l =
      pick_cases (EndsBy worth (job ∷ jobs) v bound) (leb (keeping_end worth huge job (earliest worth huge jobs) v) bound)
      (λ t.
      let k = keeping-known job (earliest worth huge jobs) v bound (leb-true _ bound t) l in
      let w = work_with job true in
      let f = back_ends jobs (v - worth job) (bound_before job w bound) (before-bound job w _ bound k.1 l) (omega (arith, bound_less job w bound)) in
      ends-cons job jobs true _ v bound _ (v - worth job) k.1 l f (omega (arith, f.value)))
      (λ t.
      let w = work_with job false in
      let d : ending huge job w (earliest worth huge jobs v) ≤ bound = omega (arith, leb-false) in
      let f = back_ends jobs v (bound_before job w bound) (before-bound job w _ bound d l) (omega (arith, bound_less job w bound)) in
      ends-cons job jobs false _ v bound _ v d l f (omega (arith, f.value)))

  -- of the lists that keep as much and end by the bound they have the least marks: they keep at the last job where two differ
  pub back_first : (jobs : List Job) (v bound : ℕ) (keeps : List Bool) → EndsBy worth jobs v bound keeps
      → LexAtMost (discard_marks (read_back worth huge jobs v bound)) (discard_marks keeps)
  unfolding read_back fits_in_order kept_worth finish LexAtMost
  back_first [] v bound keeps f = tt
  back_first (job ∷ jobs) v bound [] f = both_absurd false f.fit refl
  back_first (job ∷ jobs) v bound (true ∷ keeps) f =
      let s = order_tail job jobs true keeps f.fit in
      pick_cases (λ ls. LexAtMost (discard_marks ls) (discard_marks (true ∷ keeps))) (leb (keeping_end worth huge job (earliest worth huge jobs) v) bound)
      (λ t. (
        omega arith,
        λ q.
            back_first jobs (v - worth job) (bound_before job (work_with job true) bound) keeps
            (ends-tail job jobs true keeps v bound (v - worth job) f (omega (arith, f.value))),
      ))
      (λ t.
      let h = keeping-least job (earliest worth huge jobs) (kept_worth worth jobs keeps) (finish jobs keeps) (earliest_least jobs keeps s)
      (order_head job jobs true keeps f.fit) in
      absurd (omega (arith, leb-false, rw f.value at h, f.ends)))
  back_first (job ∷ jobs) v bound (false ∷ keeps) f =
      pick_cases (λ ls. LexAtMost (discard_marks ls) (discard_marks (false ∷ keeps))) (leb (keeping_end worth huge job (earliest worth huge jobs) v) bound)
      (λ t. (omega arith, λ q. absurd (omega arith)))
      (λ t. (
        omega arith,
        λ q.
            back_first jobs v (bound_before job (work_with job false) bound) keeps
            (ends-tail job jobs false keeps v bound v f (omega (arith, f.value))),
      ))

  -- an optional part of 0 ticks that is worth nothing is marked as kept
  pub back_zero : ((job : Job) → job.optional ≡ 0 → worth job ≡ 0) → (jobs : List Job) (v bound : ℕ) → earliest worth huge jobs v ≤ bound → bound < huge
      → ZeroKept jobs (read_back worth huge jobs v bound)
  unfolding earliest read_back keeping_end discarding_end
  back_zero free [] v bound h l = tt
  back_zero free (job ∷ jobs) v bound h l =
      pick_cases (ZeroKept (job ∷ jobs)) (leb (keeping_end worth huge job (earliest worth huge jobs) v) bound)
      (λ t.
      let k = keeping-known job (earliest worth huge jobs) v bound (leb-true _ bound t) l in
      let w = work_with job true in
      (λ z. refl, back_zero free jobs (v - worth job) (bound_before job w bound) (before-bound job w _ bound k.1 l) (omega (arith, bound_less job w bound))))
      (λ t.
      let w = work_with job false in
      let d : ending huge job w (earliest worth huge jobs v) ≤ bound = omega (arith, leb-false) in (
        λ z.
            let e : worth job ≡ 0 = free job z in
            let s : work_with job true ≡ w = omega arith in
            let r : v - worth job ≡ v = omega arith in
            let k : keeping_end worth huge job (earliest worth huge jobs) v ≤ bound = rw (le-leb (worth job) v (omega arith), r, s) d in
            absurd (omega (arith, leb-false)),
        back_zero free jobs v (bound_before job w bound) (before-bound job w _ bound d l) (omega (arith, bound_less job w bound)),
      ))

  -- work that begins at huge or later does not end below huge
  ending-huge : (job : Job) (w time : ℕ) → huge ≤ time → huge ≤ ending huge job w time
  unfolding ending
  ending-huge job w time l =
      pick_cases (λ e. huge ≤ e) (in_time job w time) (λ t. omega (arith, ends_after_lem job w time)) (λ t. omega arith)

  -- where the row of the jobs before is huge or above beyond some worth, the next is beyond that and the worth of the job
  pub next_beyond : (job : Job) (jobs : List Job) (most : ℕ) → ((v : ℕ) → most < v → huge ≤ earliest worth huge jobs v)
      → (v : ℕ) → worth job + most < v → huge ≤ earliest worth huge (job ∷ jobs) v
  unfolding earliest keeping_end discarding_end
  next_beyond job jobs most h v l =
      let k : huge ≤ keeping_end worth huge job (earliest worth huge jobs) v =
      pick_cases (λ e. huge ≤ e) (leb (worth job) v)
      (λ t. ending-huge job (work_with job true) _ (h (v - worth job) (omega arith)))
      (λ t. omega arith) in
      omega (arith, ending-huge job (work_with job false) _ (h v (omega arith)))

  -- beyond the worth of all optional parts a row is huge or above
  earliest-beyond : (jobs : List Job) (v : ℕ) → all_worth worth jobs < v → huge ≤ earliest worth huge jobs v
  unfolding earliest
  earliest-beyond [] zero l = absurd (omega arith)
  earliest-beyond [] (suc v) l = omega arith
  earliest-beyond (job ∷ jobs) v l = next_beyond job jobs (all_worth worth jobs) (earliest-beyond jobs) v l

  -- so where it is below huge, the worth is no more than that
  earliest-below : (jobs : List Job) (v : ℕ) → earliest worth huge jobs v < huge → v ≤ all_worth worth jobs
  earliest-below jobs v l =
      elim (dec_lt (all_worth worth jobs) v) [
        | yes m ↦ absurd (omega (arith, earliest-beyond jobs v m))
        | no m ↦ omega arith
      ]

  -- and it is huge or above beyond the most worth of a list that fits
  pub most_beyond : (jobs : List Job) (v : ℕ) → most_worth worth huge jobs < v → huge ≤ earliest worth huge jobs v
  most_beyond jobs v l =
      elim (dec_lt (earliest worth huge jobs v) huge) [
        | yes m ↦ absurd (omega (arith, (greatest_is huge (earliest worth huge jobs) (all_worth worth jobs) v (earliest-below jobs v m) m).1))
        | no m ↦ omega arith
      ]

  -- a number of a row has time for all mandatory ticks, or is huge
  pub earliest_mandatory : (jobs : List Job) (v : ℕ) → min (mandatory_sum jobs) huge ≤ earliest worth huge jobs v
  unfolding earliest keeping_end discarding_end
  earliest_mandatory [] zero = omega arith
  earliest_mandatory [] (suc v) = omega arith
  earliest_mandatory (job ∷ jobs) v =
      let k : min (job.mandatory + mandatory_sum jobs) huge ≤ keeping_end worth huge job (earliest worth huge jobs) v =
      pick_cases (λ e. min (job.mandatory + mandatory_sum jobs) huge ≤ e) (leb (worth job) v)
      (λ t. omega (arith, ending_mandatory huge job (work_with job true) (mandatory_sum jobs) _ (earliest_mandatory jobs (v - worth job))))
      (λ t. omega arith) in
      omega (arith, ending_mandatory huge job (work_with job false) (mandatory_sum jobs) _ (earliest_mandatory jobs v))

  -- One step of the way back, where the row is within the bound. The job is kept: its worth is at most v, its work has room before the deadline
  -- and the bound, and the row of the jobs before is within their bound.
  pub back_kept : (job : Job) (jobs : List Job) (v bound : ℕ) → bound < huge → leb (keeping_end worth huge job (earliest worth huge jobs) v) bound ≡ true
      → (read_back worth huge (job ∷ jobs) v bound ≡ true ∷ read_back worth huge jobs (v - worth job) (bound_before job (work_with job true) bound))
      × (worth job ≤ v) × (work_with job true ≤ min job.deadline bound)
      × (earliest worth huge jobs (v - worth job) ≤ bound_before job (work_with job true) bound)
  unfolding read_back
  back_kept job jobs v bound l t =
      let w = work_with job true in
      let k = keeping-known job (earliest worth huge jobs) v bound (leb-true _ bound t) l in
      (rw t, k.0, work-room huge job w _ bound k.1 l, before-bound job w _ bound k.1 l)

  -- the job is discarded
  pub back_discarded : (job : Job) (jobs : List Job) (v bound : ℕ) → earliest worth huge (job ∷ jobs) v ≤ bound → bound < huge
      → leb (keeping_end worth huge job (earliest worth huge jobs) v) bound ≡ false
      → (read_back worth huge (job ∷ jobs) v bound ≡ false ∷ read_back worth huge jobs v (bound_before job (work_with job false) bound))
      × (work_with job false ≤ min job.deadline bound)
      × (earliest worth huge jobs v ≤ bound_before job (work_with job false) bound)
  unfolding read_back earliest discarding_end
  back_discarded job jobs v bound h l t =
      let w = work_with job false in
      let k = leb-false (keeping_end worth huge job (earliest worth huge jobs) v) bound t in
      let d : ending huge job w (earliest worth huge jobs v) ≤ bound = omega arith in
      (rw t, work-room huge job w _ bound d l, before-bound job w _ bound d l)

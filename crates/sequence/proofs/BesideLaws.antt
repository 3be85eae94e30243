-- Laws of the times that the code holds in its rows, without the mandatory ticks that were run by then: what a job makes of one is what it makes of
-- the real end.
use Prim.Native.Nat.{ℕ, zero, suc, ◌+◌, ◌-◌, ◌≤◌, ◌<◌, min, max}
use mathlib.Core.Path.{◌≡◌, refl, sym, ◌∙◌}
use mathlib.Core.List.{List, ◌∷◌}
use mathlib.Core.Bool.{Bool, true, false}
use native.Mathlib.Omega.{arith}
use native.Mathlib.Decide.{dec_lt, dec_le}
use native.Mathlib.Numerals.{add-one}
use lib.Dec.{leb, ltb}
use borrow.Author.Tests.{leb-true, le-leb, lt-leb, lt-ltb, le-ltb}
use Rattle.base.specs.Tests.{pick}
use Rattle.base.proofs.TestLaws.{pick_true, pick_false, pick_cases, same_test}
use Rattle.schedule.specs.declared.Job.{Job}
use Rattle.schedule.specs.Jobs.{counts, work_with}
use Rattle.choice.specs.Choice.{keep_none, kept_worth, count_one}
use Rattle.choice.specs.Programme.{mandatory_sum}
use Rattle.choice.specs.Decisions.{huge_ticks}
use Rattle.sequence.specs.InOrder.{starts_at, finish, fits_in_order}
use Rattle.sequence.specs.OrderRows.{ending, bound_before, keeping_end, discarding_end, earliest}
use Rattle.sequence.specs.KeptRows.{earliest_of, beside, limited_end, free_from, free_room, row_without, row_with, next_row, kept_beside, bound_beside}
use Rattle.sequence.proofs.InOrderLaws.{work_cases, time_known, order_head, order_tail}
use Rattle.sequence.proofs.OrderRowLaws.{bound_none, bound_some, ending_none, ending_some, ending_late, ending_mandatory}
use Rattle.sequence.proofs.OrderRowLaws.{earliest_least, earliest_mandatory, keeping_enough, keeping_short}

-- An end without the mandatory ticks: below huge, and at huge.
pub beside_below : (mandatory end : ℕ) → end < huge_ticks → beside mandatory end ≡ end - mandatory
unfolding beside
beside_below mandatory end l = pick_true _ _ _ (lt-ltb end huge_ticks l)

pub beside_huge : (mandatory end : ℕ) → huge_ticks ≤ end → beside mandatory end ≡ huge_ticks
unfolding beside
beside_huge mandatory end l = pick_false _ _ _ (le-ltb end huge_ticks l)

-- it is never above huge
pub beside_most : (mandatory end : ℕ) → beside mandatory end ≤ huge_ticks
beside_most mandatory end =
    elim (dec_lt end huge_ticks) [
      | yes l ↦ omega (arith, beside_below mandatory end l)
      | no l ↦ omega (arith, beside_huge mandatory end (omega arith))
    ]

-- two comparisons hold where each does if the other does
same_order : (a b c d : ℕ) → (a ≤ b → c ≤ d) → (c ≤ d → a ≤ b) → leb a b ≡ leb c d
same_order a b c d f g = same_test (leb a b) (leb c d) (λ t. le-leb c d (f (leb-true a b t))) (λ t. le-leb a b (g (leb-true c d t)))

-- it is by a bound where the end is by the bound and the mandatory ticks
beside_by : (mandatory end bound : ℕ) → min mandatory huge_ticks ≤ end → bound + mandatory < huge_ticks
    → leb (beside mandatory end) bound ≡ leb end (bound + mandatory)
beside_by mandatory end bound least low =
    elim (dec_lt end huge_ticks) [
      | yes l ↦ rw (beside_below mandatory end l) (same_order (end - mandatory) bound end (bound + mandatory) (λ h. omega arith) (λ h. omega arith))
      | no l ↦ rw (beside_huge mandatory end (omega arith)) (same_order huge_ticks bound end (bound + mandatory) (λ h. omega arith) (λ h. omega arith))
    ]

-- an end that is no later stays so
beside_ordered : (mandatory a b : ℕ) → a ≤ b → beside mandatory a ≤ beside mandatory b
beside_ordered mandatory a b l =
    elim (dec_lt b huge_ticks) [
      | yes m ↦ omega (arith, beside_below mandatory b m, beside_below mandatory a (omega arith))
      | no m ↦ omega (arith, beside_huge mandatory b (omega arith), beside_most mandatory a)
    ]

-- the lesser of two ends
beside_min : (mandatory a b : ℕ) → beside mandatory (min a b) ≡ min (beside mandatory a) (beside mandatory b)
beside_min mandatory a b =
    elim (dec_lt a b) [
      | yes l ↦
          let e : min a b ≡ a = omega arith in
          rw e (omega (arith, beside_ordered mandatory a b (omega arith)))
      | no l ↦
          let e : min a b ≡ b = omega arith in
          rw e (omega (arith, beside_ordered mandatory b a (omega arith)))
    ]

-- What ends within the limits of a job, and what does not.
pub limited_in : (from room ticks time : ℕ) → max time from + ticks ≤ room → limited_end from room ticks time ≡ max time from + ticks
unfolding limited_end
limited_in from room ticks time l = pick_true _ _ _ (le-leb (max time from + ticks) room l)

pub limited_over : (from room ticks time : ℕ) → room < max time from + ticks → limited_end from room ticks time ≡ huge_ticks
unfolding limited_end
limited_over from room ticks time l = pick_false _ _ _ (lt-leb (max time from + ticks) room l)

-- an end within the limits is by a bound where it is no later than the lesser of the room and the bound
limited_by : (from room ticks time bound : ℕ) → bound < huge_ticks
    → leb (max time from + ticks) (min room bound) ≡ leb (limited_end from room ticks time) bound
limited_by from room ticks time bound low =
    let end = max time from + ticks in
    elim (dec_le end room) [
      | yes l ↦ rw (limited_in from room ticks time l) (same_order end (min room bound) end bound (λ h. omega arith) (λ h. omega arith))
      | no l ↦ rw (limited_over from room ticks time (omega arith)) (same_order end (min room bound) huge_ticks bound (λ h. omega arith) (λ h. omega arith))
    ]

-- The limits of a discarded job, without work and with it.
pub free_none : (job : Job) (from room : ℕ) → job.mandatory ≡ 0 → (free_from job from ≡ 0) × (free_room job room ≡ huge_ticks)
unfolding free_from free_room
free_none job from room z = (rw z, rw z)

pub free_some : (job : Job) (from room : ℕ) → 0 < job.mandatory → (free_from job from ≡ from) × (free_room job room ≡ room)
unfolding free_from free_room
free_some job from room l = (pick_true _ _ _ (lt-ltb 0 job.mandatory l), pick_true _ _ _ (lt-ltb 0 job.mandatory l))

-- a discarded job may start no later than a kept one
pub free_most : (job : Job) (from : ℕ) → free_from job from ≤ from
unfolding free_from
free_most job from = pick_cases (λ start. start ≤ from) (ltb 0 job.mandatory) (λ e. omega arith) (λ e. omega arith)

-- a job with an optional part, and one without
part_some : (job : Job) → 0 < job.optional → (counts job ≡ true) × (count_one job ≡ 1)
part_some job l = (lt-ltb 0 job.optional l, rw (lt-ltb 0 job.optional l))

part_none : (job : Job) → job.optional ≡ 0 → (counts job ≡ false) × (count_one job ≡ 0)
part_none job z = (rw z, rw z)

-- whether a job is kept, without a part, at 0 parts, and at more
module _ (job : Job) (from room : ℕ) (before : ℕ → ℕ) (v : ℕ) where
  pub kept_none : job.optional ≡ 0 → kept_beside job from room before v ≡ true
  unfolding kept_beside
  kept_none z = rw (part_none job z).0

  pub kept_first : 0 < job.optional → v ≡ 0 → kept_beside job from room before v ≡ false
  unfolding kept_beside
  kept_first p z = rw ((part_some job p).0, z)

  pub kept_more : 0 < job.optional → 0 < v → kept_beside job from room before v ≡ leb (max (before (v - 1)) from + job.optional) room
  unfolding kept_beside
  kept_more p l = rw ((part_some job p).0, lt-ltb 0 v l)

-- a number of the row of a job with a part, at 0 parts and at more
module _ (optional from room free freeTo : ℕ) (before : ℕ → ℕ) where
  pub with_first : row_with optional from room free freeTo before 0 ≡ limited_end free freeTo 0 (before 0)
  unfolding row_with
  with_first = refl

  pub with_made : (v with without r : ℕ) → with ≡ limited_end from room optional (before v) → without ≡ limited_end free freeTo 0 (before (v + 1))
      → r ≡ min with without → r ≡ row_with optional from room free freeTo before (v + 1)
  unfolding row_with
  with_made v with without r k d e = rw add-one (e ∙ rw (k, d, add-one))

-- the row is made by one of two rules
pub next_with : (job : Job) (from room : ℕ) → 0 < job.optional
    → next_row job from room ≡ row_with job.optional from room (free_from job from) (free_room job room)
unfolding next_row
next_with job from room l = pick_true _ _ _ (part_some job l).0

pub next_without : (job : Job) (from room : ℕ) → job.optional ≡ 0 → next_row job from room ≡ row_without (free_from job from) (free_room job room)
unfolding next_row
next_without job from room z = pick_false _ _ _ (part_none job z).0

-- the greater of two numbers, less a third that is no more than the first
both_less : (a b c : ℕ) → c ≤ a → max (a - c) (b - c) ≡ max a b - c
both_less a b c l = omega arith

-- the bound for the jobs before, where a job has no work, and where it has
pub next_bound_none : (job : Job) (keep : Bool) (room bound : ℕ) → work_with job keep ≡ 0 → bound_beside job keep room bound ≡ bound
unfolding bound_beside
next_bound_none job keep room bound z = pick_false _ _ _ (le-ltb 0 (work_with job keep) (omega arith))

pub next_bound_some : (job : Job) (keep : Bool) (room bound : ℕ) → 0 < work_with job keep
    → bound_beside job keep room bound ≡ room - pick keep job.optional 0
unfolding bound_beside
next_bound_some job keep room bound l = pick_true _ _ _ (lt-ltb 0 (work_with job keep) l)

-- the room by a bound, less some ticks, with the mandatory ticks taken off in one or the other order
room_less : (deadline before mandatory ticks bound : ℕ)
    → min (deadline - (before + mandatory)) bound - ticks ≡ min deadline (bound + (before + mandatory)) - (mandatory + ticks) - before
room_less deadline before mandatory ticks bound = omega arith

-- The bound for the jobs before is the real one without their mandatory ticks.
pub bound_is : (job : Job) (keep : Bool) (before bound : ℕ)
    → bound_beside job keep (min (job.deadline - (before + job.mandatory)) bound) bound
    ≡ bound_before job (work_with job keep) (bound + (before + job.mandatory)) - before
bound_is job keep before bound =
    let w = work_with job keep in
    let room = min (job.deadline - (before + job.mandatory)) bound in
    let all = bound + (before + job.mandatory) in
    work_cases w
    (λ z. rw (next_bound_none job keep room bound z, bound_none job w all z) (omega arith))
    (λ p.
    rw (next_bound_some job keep room bound p, bound_some job w all p)
    (room_less job.deadline before job.mandatory (pick keep job.optional 0) bound))

-- One job, after jobs with `before` mandatory ticks. Its limits are its release without these, and the room beside these and its own.
module _ (job : Job) (before from room : ℕ) (small : job.deadline < huge_ticks) (from_is : from ≡ job.release - before)
    (room-is : room ≡ job.deadline - (before + job.mandatory)) where
  -- what is started from a time below huge on, and ends `ticks` later
  started : (ticks time : ℕ) → min before huge_ticks ≤ time → time < huge_ticks
      → max (beside before time) from + ticks ≡ starts_at job time + (job.mandatory + ticks) - (before + job.mandatory)
  started ticks time least l =
      rw (beside_below before time l, from_is, both_less time job.release before (omega arith)) (omega arith)

  -- what ends after the deadline is over the room
  late-over : (ticks time : ℕ) → min before huge_ticks ≤ time → job.deadline < starts_at job time + (job.mandatory + ticks)
      → (ticks ≡ 0 → before + job.mandatory ≤ job.deadline) → room < max (beside before time) from + ticks
  late-over ticks time least l fit =
      elim (dec_lt time huge_ticks) [
        | yes m ↦
            let t = beside_below before time m in
            let b : before ≤ time = omega arith in
            work_cases ticks (λ z. let f = fit z in omega arith) (λ p. omega arith)
        | no m ↦ omega (arith, beside_huge before time (omega arith))
      ]

  -- Work of the mandatory ticks and `ticks` more ends, without the mandatory ticks, where the `ticks` end within the limits.
  limited-is : (ticks time : ℕ) → min before huge_ticks ≤ time → 0 < job.mandatory + ticks → (ticks ≡ 0 → before + job.mandatory ≤ job.deadline)
      → limited_end from room ticks (beside before time) ≡ beside (before + job.mandatory) (ending huge_ticks job (job.mandatory + ticks) time)
  limited-is ticks time least work fit =
      let w = job.mandatory + ticks in
      elim (dec_le (starts_at job time + w) job.deadline) [
        | yes l ↦
            let e = ending_some huge_ticks job w time work l in
            let k = started ticks time least (omega arith) in
            limited_in from room ticks (beside before time) (omega arith)
            ∙ (k ∙ sym (rw e (beside_below (before + job.mandatory) (starts_at job time + w) (omega arith))))
        | no l ↦
            let e = ending_late huge_ticks job w time work (omega arith) in
            limited_over from room ticks (beside before time) (late-over ticks time least (omega arith) fit)
            ∙ sym (rw e (beside_huge (before + job.mandatory) huge_ticks (omega arith)))
      ]

  -- so does that of a discarded job; where it has no work, the time stays
  free-is : (time : ℕ) → min before huge_ticks ≤ time → (0 < job.mandatory → before + job.mandatory ≤ job.deadline)
      → limited_end (free_from job from) (free_room job room) 0 (beside before time)
      ≡ beside (before + job.mandatory) (ending huge_ticks job (work_with job false) time)
  free-is time least fit =
      work_cases job.mandatory
      (λ z.
      let f = free_none job from room z in
      let same : before + job.mandatory ≡ before = omega arith in
      let most = beside_most before time in
      rw (f.0, f.1, same, ending_none huge_ticks job (work_with job false) time (omega arith))
      (limited_in 0 huge_ticks 0 (beside before time) (omega arith) ∙ omega arith))
      (λ p.
      let f = free_some job from room p in
      rw (f.0, f.1) (limited-is 0 time least (omega arith) (λ z. fit p)))

  -- On the way back: the part of a job ends within its limits, of which the room is by a bound as well, where the real end is by the bound.
  reached-is : (time bound : ℕ) → min before huge_ticks ≤ time → bound + (before + job.mandatory) < huge_ticks → 0 < job.optional
      → leb (max (beside before time) from + job.optional) (min room bound)
      ≡ leb (ending huge_ticks job (work_with job true) time) (bound + (before + job.mandatory))
  reached-is time bound least low p =
      limited_by from room job.optional (beside before time) bound (omega arith)
      ∙ rw (limited-is job.optional time least (omega arith) (λ z. absurd (omega arith)))
      (beside_by (before + job.mandatory) (ending huge_ticks job (work_with job true) time) bound
      (omega (arith, ending_mandatory huge_ticks job (work_with job true) before time least)) low)

-- The real row of one job more, where the job has no part, and where it has one.
module _ (job : Job) (jobs : List Job) where
  -- the mandatory ticks of all
  pub sum_cons : mandatory_sum (job ∷ jobs) ≡ mandatory_sum jobs + job.mandatory
  sum_cons = omega arith

  -- without a part it is the same to keep the job and to discard it
  keeping_none : (v : ℕ) → job.optional ≡ 0
      → keeping_end count_one huge_ticks job (earliest_of jobs) v ≡ ending huge_ticks job (work_with job false) (earliest_of jobs v)
  keeping_none v z =
      let n = (part_none job z).1 in
      let e : v - count_one job ≡ v = omega arith in
      let w : work_with job true ≡ work_with job false = omega arith in
      rw (keeping_enough count_one huge_ticks job (earliest_of jobs) v (omega arith), e, w)

  earliest-none : (v : ℕ) → job.optional ≡ 0 → earliest_of (job ∷ jobs) v ≡ ending huge_ticks job (work_with job false) (earliest_of jobs v)
  unfolding earliest discarding_end
  earliest-none v z = rw (keeping_none v z) (omega arith)

  -- with a part, at 0 parts it is discarded
  keeping-first : 0 < job.optional → keeping_end count_one huge_ticks job (earliest_of jobs) 0 ≡ huge_ticks
  keeping-first p = keeping_short count_one huge_ticks job (earliest_of jobs) 0 (omega (arith, (part_some job p).1))

  -- and at more it is kept after one part less
  keeping-next : (v : ℕ) → 0 < job.optional
      → keeping_end count_one huge_ticks job (earliest_of jobs) (suc v) ≡ ending huge_ticks job (work_with job true) (earliest_of jobs v)
  keeping-next v p =
      let n = (part_some job p).1 in
      let e : suc v - count_one job ≡ v = omega arith in
      rw (keeping_enough count_one huge_ticks job (earliest_of jobs) (suc v) (omega arith), e)

  -- the row with a part, at 0 parts and at more
  earliest-first : 0 < job.optional → earliest_of (job ∷ jobs) 0 ≡ min huge_ticks (ending huge_ticks job (work_with job false) (earliest_of jobs 0))
  unfolding earliest discarding_end
  earliest-first p = rw (keeping-first p)

  earliest-next : (v : ℕ) → 0 < job.optional
      → earliest_of (job ∷ jobs) (suc v)
      ≡ min (ending huge_ticks job (work_with job true) (earliest_of jobs v)) (ending huge_ticks job (work_with job false) (earliest_of jobs (suc v)))
  unfolding earliest discarding_end
  earliest-next v p = rw (keeping-next v p)

  -- The test of the way back, on times without the mandatory ticks, is the real one.
  module _ (before : ℕ → ℕ) (from room bound : ℕ) (small : job.deadline < huge_ticks) (from_is : from ≡ job.release - mandatory_sum jobs)
      (room-is : room ≡ min (job.deadline - (mandatory_sum jobs + job.mandatory)) bound) (low : bound + (mandatory_sum jobs + job.mandatory) < huge_ticks) where
    -- where the job has a part
    keep-part : (v : ℕ) → ((k : ℕ) → k ≤ v → before k ≡ beside (mandatory_sum jobs) (earliest_of jobs k)) → 0 < job.optional
        → kept_beside job from room before v
        ≡ leb (keeping_end count_one huge_ticks job (earliest_of jobs) v) (bound + (mandatory_sum jobs + job.mandatory))
    keep-part zero same p =
        rw (kept_first job from room before 0 p refl, keeping-first p) (sym (lt-leb huge_ticks (bound + (mandatory_sum jobs + job.mandatory)) low))
    keep-part (suc v) same p =
        let e : suc v - 1 ≡ v = omega arith in
        rw (kept_more job from room before (suc v) p (omega arith), e, same v (omega arith), room-is, keeping-next v p)
        (reached-is job (mandatory_sum jobs) from _ small from_is refl (earliest_of jobs v) bound (earliest_mandatory count_one huge_ticks jobs v) low p)

    -- where it has none, it is kept, since the row is by the bound
    pub keep-is : (v : ℕ) → earliest_of (job ∷ jobs) v ≤ bound + (mandatory_sum jobs + job.mandatory)
        → ((k : ℕ) → k ≤ v → before k ≡ beside (mandatory_sum jobs) (earliest_of jobs k))
        → kept_beside job from room before v
        ≡ leb (keeping_end count_one huge_ticks job (earliest_of jobs) v) (bound + (mandatory_sum jobs + job.mandatory))
    keep-is v by same =
        work_cases job.optional
        (λ z.
        rw (kept_none job from room before v z)
        (sym (le-leb (keeping_end count_one huge_ticks job (earliest_of jobs) v) (bound + (mandatory_sum jobs + job.mandatory))
        (omega (arith, keeping_none v z, earliest-none v z)))))
        (λ p. keep-part v same p)

-- One job more, where the list that keeps nothing fits.
module _ (job : Job) (jobs : List Job) (small : job.deadline < huge_ticks) (fit : fits_in_order (job ∷ jobs) (keep_none (job ∷ jobs)) ≡ true) where
  -- where the job has mandatory ticks, those of all jobs up to it have room before its deadline
  none-room : 0 < job.mandatory → mandatory_sum jobs + job.mandatory ≤ job.deadline
  none-room p =
      omega (
        arith,
        earliest_mandatory count_one (mandatory_sum jobs) jobs (kept_worth count_one jobs (keep_none jobs)),
        earliest_least count_one (mandatory_sum jobs) jobs (keep_none jobs) (order_tail job jobs false (keep_none jobs) fit),
        time_known job (work_with job false) (finish jobs (keep_none jobs)) (omega arith) (order_head job jobs false (keep_none jobs) fit),
      )

  module _ (from room : ℕ) (from_is : from ≡ job.release - mandatory_sum jobs) (room-is : room ≡ job.deadline - (mandatory_sum jobs + job.mandatory)) where
    -- an end, without the mandatory ticks, with the job's part kept and with it discarded
    with_part : (v : ℕ) → 0 < job.optional
        → limited_end from room job.optional (beside (mandatory_sum jobs) (earliest_of jobs v))
        ≡ beside (mandatory_sum jobs + job.mandatory) (ending huge_ticks job (work_with job true) (earliest_of jobs v))
    with_part v p =
        limited-is job (mandatory_sum jobs) from room small from_is room-is job.optional (earliest_of jobs v)
        (earliest_mandatory count_one huge_ticks jobs v) (omega arith) (λ z. absurd (omega arith))

    without-part : (v : ℕ)
        → limited_end (free_from job from) (free_room job room) 0 (beside (mandatory_sum jobs) (earliest_of jobs v))
        ≡ beside (mandatory_sum jobs + job.mandatory) (ending huge_ticks job (work_with job false) (earliest_of jobs v))
    without-part v =
        free-is job (mandatory_sum jobs) from room small from_is room-is (earliest_of jobs v) (earliest_mandatory count_one huge_ticks jobs v) none-room

    -- the row of the job, from the row before, where it has no part, and where it has one
    row-without : (before : ℕ → ℕ) (v : ℕ) → before v ≡ beside (mandatory_sum jobs) (earliest_of jobs v) → job.optional ≡ 0
        → row_without (free_from job from) (free_room job room) before v ≡ beside (mandatory_sum jobs + job.mandatory) (earliest_of (job ∷ jobs) v)
    row-without before v same z = rw (same, without-part v, earliest-none job jobs v z)

    row-with : (before : ℕ → ℕ) (v : ℕ) → ((k : ℕ) → k ≤ v → before k ≡ beside (mandatory_sum jobs) (earliest_of jobs k)) → 0 < job.optional
        → row_with job.optional from room (free_from job from) (free_room job room) before v
        ≡ beside (mandatory_sum jobs + job.mandatory) (earliest_of (job ∷ jobs) v)
    unfolding row_with
    row-with before zero same p =
        let all = mandatory_sum jobs + job.mandatory in
        let end = ending huge_ticks job (work_with job false) (earliest_of jobs 0) in
        rw (same 0 (omega arith), without-part 0, earliest-first job jobs p, beside_min all huge_ticks end)
        (omega (arith, beside_huge all huge_ticks (omega arith), beside_most all end))
    row-with before (suc v) same p =
        let all = mandatory_sum jobs + job.mandatory in
        rw (
          same v (omega arith),
          same (suc v) (omega arith),
          with_part v p,
          without-part (suc v),
          earliest-next job jobs v p,
          beside_min all (ending huge_ticks job (work_with job true) (earliest_of jobs v)) (ending huge_ticks job (work_with job false) (earliest_of jobs (suc v))),
        )

    -- The row of a job and those before it is made from the row of those before.
    pub row_is : (before : ℕ → ℕ) (v : ℕ) → ((k : ℕ) → k ≤ v → before k ≡ beside (mandatory_sum jobs) (earliest_of jobs k))
        → next_row job from room before v ≡ beside (mandatory_sum (job ∷ jobs)) (earliest_of (job ∷ jobs) v)
    row_is before v same =
        let all = sum_cons job jobs in
        work_cases job.optional
        (λ z. rw (next_without job from room z, all) (row-without before v (same v (omega arith)) z))
        (λ p. rw (next_with job from room p, all) (row-with before v same p))

-- Laws of the first task in nest order whose mandatory ticks exceed its window: there is none exactly when the mandatory parts alone fit.
use Prim.Native.Nat.{ℕ, zero, suc, ◌+◌, ◌-◌, ◌≤◌, ◌<◌}
use mathlib.Core.Path.{◌≡◌, refl}
use mathlib.Core.Bool.{Bool, true, false, not}
use mathlib.Core.List.{List, [], ◌∷◌, ◌++◌, reverse, reverse-cons}
use native.Mathlib.Omega.{arith}
use native.Mathlib.Decide.{dec_le}
use lib.Dec.{leb, ltb}
use borrow.Author.Tests.{lt-ltb, le-ltb, le-leb, lt-leb}
use Rattle.base.specs.Tests.{pick, and}
use Rattle.base.specs.Places.{places_from, places}
use Rattle.base.proofs.TestLaws.{cases}
use Rattle.base.proofs.PlaceLaws.{reverse_places}
use Rattle.schedule.specs.declared.Job.{Job}
use Rattle.schedule.specs.Jobs.{window_ticks, work_with}
use Rattle.base.specs.Members.{All}
use Rattle.base.proofs.MemberLaws.{all_reverse}
use Rattle.choice.specs.Choice.{works_fit, works_of, fits, keep_none}
use Rattle.choice.specs.KeepLists.{total_work}
use Rattle.choice.specs.Programme.{mandatory_sum}
use Rattle.plans.specs.Planning.{exceeding_after}

-- the search goes on in a second list where it finds nothing in the first
pub exceeding_append : (n sum : ℕ) (xs ys : List Job) → All (λ job. job.position < n) xs
    → exceeding_after n sum (xs ++ ys)
    ≡ pick (ltb (exceeding_after n sum xs) n) (exceeding_after n sum xs) (exceeding_after n (sum + mandatory_sum xs) ys)
unfolding exceeding_after
exceeding_append n sum [] ys h = let e : sum + 0 ≡ sum = omega arith in rw (le-ltb n n (omega arith), e)
exceeding_append n sum (job ∷ xs) ys h =
    cases (ltb (window_ticks job) (sum + job.mandatory))
    (λ e. rw (e, lt-ltb job.position n h.0))
    (λ e.
    let q : sum + (job.mandatory + mandatory_sum xs) ≡ sum + job.mandatory + mandatory_sum xs = omega arith in
    rw (e, q) (exceeding_append n (sum + job.mandatory) xs ys h.1))

-- A walk over jobs that stand outermost first, from the last place downwards: the job at the last place exceeds its window, or the search goes
-- on with the places before it, or there is none left.
module _ (at : ℕ → Job) (n sum : ℕ) where
  pub exceeding_found : (i : ℕ) → 0 < i → window_ticks (at (i - 1)) < sum + (at (i - 1)).mandatory
      → exceeding_after n sum (reverse (places at i)) ≡ (at (i - 1)).position
  unfolding exceeding_after
  exceeding_found zero z h = absurd (omega arith)
  exceeding_found (suc i) z h =
      let e : suc i - 1 ≡ i = omega arith in
      let h₂ : window_ticks (at i) < sum + (at i).mandatory = rw e at h in
      rw (e, reverse_places at i, lt-ltb (window_ticks (at i)) (sum + (at i).mandatory) h₂)

  pub exceeding_passed : (i : ℕ) → 0 < i → sum + (at (i - 1)).mandatory ≤ window_ticks (at (i - 1))
      → exceeding_after n (sum + (at (i - 1)).mandatory) (reverse (places at (i - 1))) ≡ exceeding_after n sum (reverse (places at i))
  unfolding exceeding_after
  exceeding_passed zero z h = absurd (omega arith)
  exceeding_passed (suc i) z h =
      let e : suc i - 1 ≡ i = omega arith in
      let h₂ : sum + (at i).mandatory ≤ window_ticks (at i) = rw e at h in
      rw (e, reverse_places at i, le-ltb (window_ticks (at i)) (sum + (at i).mandatory) h₂)

  pub exceeding_none : (i : ℕ) → i ≡ 0 → exceeding_after n sum (reverse (places at i)) ≡ n
  unfolding exceeding_after places places_from
  exceeding_none i e = rw e

-- sums over a list that is turned round
sum_append : (xs ys : List Job) → mandatory_sum (xs ++ ys) ≡ mandatory_sum xs + mandatory_sum ys
sum_append [] ys = omega arith
sum_append (job ∷ xs) ys = omega (arith, sum_append xs ys)

pub sum_reverse : (jobs : List Job) → mandatory_sum (reverse jobs) ≡ mandatory_sum jobs
sum_reverse [] = refl
sum_reverse (job ∷ jobs) = rw (reverse-cons job jobs) (omega (arith, sum_append (reverse jobs) (job ∷ []), sum_reverse jobs))

-- a list that keeps nothing has the mandatory ticks for its work
none_work : (jobs : List Job) → total_work jobs (keep_none jobs) ≡ mandatory_sum jobs
unfolding works_of
none_work [] = refl
none_work (job ∷ jobs) = omega (arith, none_work jobs)

-- a sum is within a window where the window is not below it
within_test : (a b w : ℕ) → a ≡ b → leb a w ≡ not (ltb w b)
within_test a b w e =
    elim (dec_le a w) [
      | yes h ↦ rw (le-leb a w h, le-ltb w b (omega arith))
      | no h ↦ rw (lt-leb a w (omega arith), lt-ltb w b (omega arith))
    ]

-- of a search that goes on with one more job: it finds some place below n where either part does
one_more : (n place position : ℕ) (over fit : Bool) → position < n → ltb place n ≡ not fit
    → ltb (pick (ltb place n) place (pick over position n)) n ≡ not (and (not over) fit)
one_more n place position true true h e = rw (e, lt-ltb position n h)
one_more n place position true false h e = rw (e, e)
one_more n place position false true h e = rw (e, le-ltb n n (omega arith))
one_more n place position false false h e = rw (e, e)

-- some task exceeds its window exactly where the mandatory parts do not fit
pub exceeding_test : (n : ℕ) (jobs : List Job) → All (λ job. job.position < n) jobs
    → ltb (exceeding_after n 0 (reverse jobs)) n ≡ not (fits jobs (keep_none jobs))
unfolding exceeding_after works_fit works_of
exceeding_test n [] h = le-ltb n n (omega arith)
exceeding_test n (job ∷ jobs) h =
    let split = exceeding_append n 0 (reverse jobs) (job ∷ []) (all_reverse (λ job. job.position < n) jobs h.1) in
    let sums : 0 + mandatory_sum (reverse jobs) ≡ mandatory_sum jobs = omega (arith, sum_reverse jobs) in
    rw (
      reverse-cons job jobs,
      split,
      sums,
      none_work jobs,
      within_test (work_with job false + mandatory_sum jobs) (mandatory_sum jobs + job.mandatory) (window_ticks job) (omega arith),
    )
    (one_more n (exceeding_after n 0 (reverse jobs)) job.position (ltb (window_ticks job) (mandatory_sum jobs + job.mandatory)) (fits jobs (keep_none jobs))
    h.0 (exceeding_test n jobs h.1))

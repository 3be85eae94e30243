-- Laws of the check of a run list: what it answers, by index and in the words of the judge. The busy count and the queries rest on them.
use Prim.Native.Nat.{ℕ, zero, suc, ◌≤◌, ◌<◌}
use mathlib.Core.Path.{◌≡◌, refl, ap}
use mathlib.Core.Logic.{◌↔◌}
use mathlib.Core.List.{List, [], ◌∷◌}
use mathlib.Core.Bool.{true, false, not}
use native.Mathlib.Omega.{arith}
use native.Mathlib.Decide.{dec_lt, le_ind}
use lib.Dec.{leb, ltb}
use lib.ListN.{length, get_or}
use borrow.Author.Tests.{ltb-true, ltb-false, lt-ltb, le-ltb, le-leb, not-false}
use Rattle.std.specs.Prelude.{Ok, Err}
use Rattle.base.specs.Members.{All}
use Rattle.base.proofs.TestLaws.{cases, both_absurd, and_true, or_false, or_left, or_right}
use Rattle.base.proofs.LowestLaws.{before, none_passes, lowest_bound}
use Rattle.base.proofs.MemberLaws.{all_at}
use Rattle.schedule.specs.declared.Run.{Run}
use Rattle.schedule.specs.declared.RunsRefusal.TheVariants.{TooMany, OutOfOrder}
use Rattle.schedule.specs.Runs.{no_run, too_many}
use Rattle.schedule.specs.Judging.{none_empty, follow_from, each_follows}
use Rattle.schedule.specs.RunCheck.{RunsChecked, Accepted, previous_end, out_of_order, first_out_of_order, check_answer, runs_number, runs_accepted}
use Rattle.schedule.proofs.RunLaws.{first_follows, rest_follow}
use Rattle.schedule.proofs.JudgeLaws.{nonempty_each}

-- The three answers.

-- too many runs are refused first, whatever they are
pub many_refused : (runs : List Run) → too_many runs ≡ true → check_answer runs ≡ Err TooMany
unfolding check_answer
many_refused runs e = rw e

-- then the first index that is out of order
pub order_refused : (runs : List Run) → too_many runs ≡ false → first_out_of_order runs < length runs
    → check_answer runs ≡ Err (OutOfOrder (first_out_of_order runs))
unfolding check_answer
order_refused runs e l = rw (e, lt-ltb (first_out_of_order runs) (length runs) l)

-- and where no index is, the list is accepted
pub accepts : (runs : List Run) → too_many runs ≡ false → length runs ≤ first_out_of_order runs → check_answer runs ≡ Accepted
unfolding check_answer
accepts runs e l = rw (e, le-ltb (first_out_of_order runs) (length runs) l)

-- only there
pub accepted_known : (runs : List Run) → check_answer runs ≡ Accepted → (too_many runs ≡ false) × (first_out_of_order runs ≡ length runs)
unfolding first_out_of_order
accepted_known runs h =
    cases (too_many runs)
    (λ e. let q = many_refused runs e in let z : ◌≡◌ {A = ℕ} 0 1 = cc in absurd (omega arith))
    (λ e.
    elim (dec_lt (first_out_of_order runs) (length runs)) [
      | yes l ↦ let q = order_refused runs e l in let z : ◌≡◌ {A = ℕ} 0 1 = cc in absurd (omega arith)
      | no l ↦ (e, omega (arith, lowest_bound (out_of_order runs) (length runs)))
    ])

-- the one answer that accepts, and the one whose number is 0
pub accepted_is : (answer : RunsChecked) → runs_accepted answer ≡ true → answer ≡ Accepted
accepted_is (Ok done) e = refl
accepted_is (Err refusal) e = both_absurd false e refl

pub number_accepted : (answer : RunsChecked) → runs_number answer ≡ 0 → answer ≡ Accepted
number_accepted (Ok done) e = refl
number_accepted (Err TooMany) e = absurd (omega arith)
number_accepted (Err (OutOfOrder index)) e = absurd (omega arith)

-- Each run of a list starts below its end, and none starts before the one listed before it ends.
pub record OrderedRuns (runs : List Run) : Type 0 where
  pub nonempty : (k : ℕ) → k < length runs → (get_or runs k no_run).start < (get_or runs k no_run).end
  pub follow : (k : ℕ) → suc k < length runs → (get_or runs k no_run).end ≤ (get_or runs (suc k) no_run).start

-- an index is not out of order exactly where this holds there
in_place : (runs : List Run) (k : ℕ)
    → (out_of_order runs k ≡ false) ↔ (((get_or runs k no_run).start < (get_or runs k no_run).end) × (previous_end runs k ≤ (get_or runs k no_run).start))
unfolding out_of_order
in_place runs k =
    let start = (get_or runs k no_run).start in
    let end = (get_or runs k no_run).end in
    let late = not (ltb start end) in
    let early = ltb start (previous_end runs k) in (
      λ e. (
        ltb-true start end (not-false (ltb start end) (or_left late early e)),
        ltb-false start (previous_end runs k) (or_right late early e),
      ),
      λ h. or_false late early (ap not (lt-ltb start end h.0)) (le-ltb start (previous_end runs k) h.1),
    )

-- so no index is out of order exactly where the list is ordered: the first start has no end before it
pub ordered_exactly : (runs : List Run) → (first_out_of_order runs ≡ length runs) ↔ OrderedRuns runs
unfolding first_out_of_order
ordered_exactly runs = (
  λ e.
      let each : (k : ℕ) → k < length runs → ((get_or runs k no_run).start < (get_or runs k no_run).end) × (previous_end runs k ≤ (get_or runs k no_run).start)
      = λ k l. (in_place runs k).0 (before (out_of_order runs) (length runs) k (omega arith)) in
      record { nonempty = λ k l. (each k l).0; follow = λ k l. (each (suc k) l).1 },
  λ o. none_passes (out_of_order runs) (length runs) (λ k l. (in_place runs k).1 (o.nonempty k l, previous-ended runs o k l)),
)
  where
    previous-ended : (runs : List Run) → OrderedRuns runs → (k : ℕ) → k < length runs → previous_end runs k ≤ (get_or runs k no_run).start
    previous-ended runs o zero l = omega arith
    previous-ended runs o (suc k) l = o.follow k l

-- an accepted list is ordered
pub accepted_order : (runs : List Run) → check_answer runs ≡ Accepted → OrderedRuns runs
accepted_order runs h = (ordered_exactly runs).0 (accepted_known runs h).1

-- Of an ordered list starts and ends do not fall with the index.
module _ (runs : List Run) (o : OrderedRuns runs) where
  -- a run ends by the start of every later one
  pub ends_before : (i k : ℕ) → i < k → k < length runs → (get_or runs i no_run).end ≤ (get_or runs k no_run).start
  ends_before i k l =
      le_ind (λ m. m < length runs → (get_or runs i no_run).end ≤ (get_or runs m no_run).start)
      (λ h. o.follow i h)
      (λ m g f h. omega (arith, f (omega arith), o.nonempty m (omega arith), o.follow m h))
      k l

  -- so starts do not fall,
  pub starts_rise : (i k : ℕ) → i ≤ k → k < length runs → (get_or runs i no_run).start ≤ (get_or runs k no_run).start
  starts_rise i k l h =
      elim (dec_lt i k) [
        | yes m ↦ omega (arith, o.nonempty i (omega arith), ends_before i k m h)
        | no m ↦ let e : i ≡ k = omega arith in rw e (omega arith)
      ]

  -- and ends do not
  pub ends_rise : (i k : ℕ) → i ≤ k → k < length runs → (get_or runs i no_run).end ≤ (get_or runs k no_run).end
  ends_rise i k l h =
      elim (dec_lt i k) [
        | yes m ↦ omega (arith, ends_before i k m h, o.nonempty k h)
        | no m ↦ let e : i ≡ k = omega arith in rw e (omega arith)
      ]

-- what holds at each index holds of all members
pub all_indices : (P : Run → Type 0) (runs : List Run) → ((k : ℕ) → k < length runs → P (get_or runs k no_run)) → All P runs
all_indices P [] h = tt
all_indices P (run ∷ runs) h = (h 0 (omega arith), all_indices P runs (λ k l. h (suc k) (omega arith)))

-- The same in the words of the judge.

-- in order, no run starts before the one before it ends, and a list of which this holds is in order
follow_index : (from : ℕ) (runs : List Run) → follow_from from runs ≡ true
    → (k : ℕ) → suc k < length runs → (get_or runs k no_run).end ≤ (get_or runs (suc k) no_run).start
follow_index from [] e k l = absurd (omega arith)
follow_index from (run ∷ []) e k l = absurd (omega arith)
follow_index from (run ∷ next ∷ runs) e zero l = first_follows run.end next runs (rest_follow from run (next ∷ runs) e)
follow_index from (run ∷ next ∷ runs) e (suc k) l =
    follow_index run.end (next ∷ runs) (rest_follow from run (next ∷ runs) e) k (omega arith)

index_follow : (from : ℕ) (runs : List Run) → (0 < length runs → from ≤ (get_or runs 0 no_run).start)
    → ((k : ℕ) → suc k < length runs → (get_or runs k no_run).end ≤ (get_or runs (suc k) no_run).start) → follow_from from runs ≡ true
unfolding follow_from
index_follow from [] f h = refl
index_follow from (run ∷ runs) f h =
    and_true (leb from run.start) (follow_from run.end runs) (le-leb from run.start (f (omega arith)))
    (index_follow run.end runs (λ l. h 0 (omega arith)) (λ k l. h (suc k) (omega arith)))

-- a list is ordered by index exactly where the judge's first two conditions hold
pub judge_order : (runs : List Run) → OrderedRuns runs ↔ ((none_empty runs ≡ true) × (each_follows runs ≡ true))
unfolding each_follows
judge_order runs = (
  λ o. (
    (nonempty_each runs).1 (all_indices (λ run. run.start < run.end) runs o.nonempty),
    index_follow 0 runs (λ l. omega arith) o.follow,
  ),
  λ h. record {
    nonempty = λ k l. all_at (λ run. run.start < run.end) no_run runs k l ((nonempty_each runs).0 h.0);
    follow = follow_index 0 runs h.1;
  },
)

-- so the check of 15 is these two conditions, said once more by index
pub order_conditions : (runs : List Run) → (first_out_of_order runs ≡ length runs) ↔ ((none_empty runs ≡ true) × (each_follows runs ≡ true))
order_conditions runs = (
  λ e. (judge_order runs).0 ((ordered_exactly runs).0 e),
  λ h. (ordered_exactly runs).1 ((judge_order runs).1 h),
)

-- they hold of every accepted list, and a list of which they hold is accepted, if its runs are not too many
pub accepted_ordered : (runs : List Run) → check_answer runs ≡ Accepted → (none_empty runs ≡ true) × (each_follows runs ≡ true)
accepted_ordered runs h = (judge_order runs).0 (accepted_order runs h)

pub ordered_accepted : (runs : List Run) → too_many runs ≡ false → (none_empty runs ≡ true) × (each_follows runs ≡ true) → check_answer runs ≡ Accepted
ordered_accepted runs few h = let e = (order_conditions runs).1 h in accepts runs few (omega arith)

-- Similar tables: a task that stands before another in similar order has no later release and no later deadline, so the jobs of an accepted table that is
-- not nested stand in similar order in ticks too.
use Prim.Native.Nat.{ℕ, ◌≤◌, ◌<◌}
use mathlib.Core.Path.{◌≡◌, sym, subst⁻¹, ◌∙◌}
use mathlib.Core.List.{List, [], ◌∷◌, map}
use mathlib.Core.Bool.{Bool, true, false}
use native.Mathlib.Omega.{arith}
use native.Mathlib.Decide.{dec_lt}
use lib.Dec.{leb}
use borrow.Author.Tests.{leb-true, le-leb, lt-leb}
use Rattle.base.specs.Tests.{and}
use Rattle.base.proofs.TestLaws.{and_true, and_left, and_right, or_second}
use Rattle.clock.proofs.ClockLaws.{release_monotone, deadline_monotone}
use Rattle.table.specs.declared.Task.{Task}
use Rattle.table.specs.declared.Table.{Table}
use Rattle.table.specs.Tables.{task_at}
use Rattle.table.specs.Windows.{no_later, similar}
use Rattle.table.specs.Kinds.{is_nested, is_similar}
use Rattle.table.specs.Writing.{Legal}
use Rattle.table.proofs.KindLaws.{similar_sym, any_pairs, legal_similar}
use Rattle.schedule.specs.Jobs.{job_of, job_at}
use Rattle.choice.proofs.LexLaws.{LexAtMost, less_at_most}
use Rattle.sequence.specs.Similar.{NotAfter, Ordered, SimilarJobs}
use Rattle.orders.specs.Sorting.{last_first}
use Rattle.orders.specs.SimilarOrder.{similar_key, similar_before}
use Rattle.orders.specs.KindOrder.{order_last_first, jobs_last_first}
use Rattle.orders.proofs.SortLaws.{Sorted, falls_by}
use Rattle.orders.proofs.BeforeLaws.{similar_strict, order_similar}
use Rattle.orders.proofs.OrderLaws.{jobs_all, jobs_distinct}

-- of two similar windows the one released earlier has no later deadline
similar_known : (a b : Task) → similar a b ≡ true → a.release < b.release → a.deadline ≤ b.deadline
unfolding similar no_later
similar_known a b e l =
    leb-true a.deadline b.deadline
    (sym (or_second (leb b.release a.release) (leb a.deadline b.deadline) (lt-leb b.release a.release l)) ∙ and_left (no_later a b) (no_later b a) e)

-- What stands before in similar order has no later release and, in a similar table, no later deadline: among equal releases the deadline decides.
pub similar_frames : (t : Table) → is_similar t ≡ true → (a b : ℕ) → a < t.count → b < t.count → similar_before t a b ≡ true
    → ((task_at t a).release ≤ (task_at t b).release) × ((task_at t a).deadline ≤ (task_at t b).deadline)
unfolding similar_before is_similar LexAtMost
similar_frames t s a b la lb before =
    let less = less_at_most (similar_key t a) (similar_key t b) before in (
      less.0,
      elim (dec_lt (task_at t a).release (task_at t b).release) [
        | yes l ↦ similar_known (task_at t a) (task_at t b) (any_pairs similar similar_sym (task_at t) t.count s a b la lb (λ same. let self : (task_at t b).release < (task_at t b).release = rw same at l in omega arith)) l
        | no l ↦ (less.1 (omega (arith, less.0))).0
      ],
    )

-- the task at position a has no later release and no later deadline than that at b
abbrev pub not_after : Table → ℕ → ℕ → Bool
not_after t a b = and (leb (task_at t a).release (task_at t b).release) (leb (task_at t a).deadline (task_at t b).deadline)

-- what stands before another in similar order is so
similar-not_after : (t : Table) → is_similar t ≡ true → (a b : ℕ) → a < t.count → b < t.count → similar_before t a b ≡ true → not_after t a b ≡ true
similar-not_after t s a b la lb before =
    let f = similar_frames t s a b la lb before in
    and_true (leb (task_at t a).release (task_at t b).release) (leb (task_at t a).deadline (task_at t b).deadline)
    (le-leb (task_at t a).release (task_at t b).release f.0)
    (le-leb (task_at t a).deadline (task_at t b).deadline f.1)

-- Last first, each task of a similar table has no later release and no later deadline than those before it.
pub similar_falls : (t : Table) → is_similar t ≡ true → Sorted (not_after t) (last_first (similar_before t) t.count)
similar_falls t s = falls_by (similar_before t) (not_after t) t.count (similar_strict t) (similar-not_after t s)

-- so it is in ticks
not_after-ticks : (launch : ℕ) (t : Table) (a b : ℕ) → not_after t a b ≡ true → NotAfter (job_at launch t b) (job_at launch t a)
unfolding job_at job_of
not_after-ticks launch t a b e =
    let r : Bool = leb (task_at t a).release (task_at t b).release in
    let d : Bool = leb (task_at t a).deadline (task_at t b).deadline in (
      release_monotone launch t.p t.q (task_at t a).release (task_at t b).release (leb-true (task_at t a).release (task_at t b).release (and_left r d e)),
      deadline_monotone launch t.p t.q (task_at t a).deadline (task_at t b).deadline (leb-true (task_at t a).deadline (task_at t b).deadline (and_right r d e)),
    )

-- jobs of positions that are each no later than those before them
jobs_ordered : (launch : ℕ) (t : Table) (js : List ℕ) → Sorted (not_after t) js → Ordered (map (job_at launch t) js)
jobs_ordered launch t [] o = tt
jobs_ordered launch t (k ∷ js) o = (
  jobs_all launch t (λ j. not_after t j k ≡ true) (NotAfter (job_at launch t k)) js (λ j e. not_after-ticks launch t j k e) o.0,
  jobs_ordered launch t js o.1,
)

-- The jobs of an accepted table that is not nested, last first, are similar jobs.
pub similar_jobs : (launch : ℕ) (t : Table) → Legal t → is_nested t ≡ false → SimilarJobs (jobs_last_first launch t)
unfolding jobs_last_first
similar_jobs launch t l e =
    record {
      ordered = jobs_ordered launch t (order_last_first t)
          (subst⁻¹ (Sorted (not_after t)) (order_similar t e) (similar_falls t (legal_similar t l e)));
      distinct = jobs_distinct launch t;
    }

-- Nested tables: of two windows the one that stands before the other in nest order lies inside it, so the jobs, outermost first, are a chain.
use Prim.Native.Nat.{ℕ, ◌-◌, ◌≤◌, ◌<◌}
use mathlib.Core.Path.{◌≡◌, sym, subst⁻¹, ◌∙◌}
use mathlib.Core.List.{List, [], ◌∷◌, map}
use mathlib.Core.Bool.{Bool, true, false}
use native.Mathlib.Omega.{arith}
use lib.Dec.{leb}
use borrow.Author.Tests.{leb-true, leb-false, le-leb}
use Rattle.base.proofs.TestLaws.{cases, and_true, and_left, and_right, or_second, both_absurd}
use Rattle.clock.proofs.ClockLaws.{release_monotone, deadline_monotone}
use Rattle.table.specs.declared.Task.{Task}
use Rattle.table.specs.declared.Table.{Table}
use Rattle.table.specs.Tables.{task_at}
use Rattle.table.specs.Windows.{bad_window, contains, nested}
use Rattle.table.specs.Kinds.{is_nested}
use Rattle.table.specs.Writing.{Legal}
use Rattle.table.proofs.KindLaws.{nested_sym, any_pairs, legal_windows}
use Rattle.schedule.specs.Jobs.{job_of, job_at}
use Rattle.choice.proofs.LexLaws.{LexAtMost, less_at_most}
use Rattle.placement.specs.Chains.{Between, NestedJobs, Chain}
use Rattle.orders.specs.Sorting.{last_first}
use Rattle.orders.specs.NestOrder.{frames_at, nest_key, nest_before}
use Rattle.orders.specs.KindOrder.{order_last_first, jobs_last_first}
use Rattle.orders.proofs.SortLaws.{Sorted, falls_by}
use Rattle.orders.proofs.BeforeLaws.{nest_strict, order_nested}
use Rattle.orders.proofs.OrderLaws.{jobs_all, jobs_distinct}

-- what a window that contains another tells of their frames, and the test from that
contains_known : (a b : Task) → contains a b ≡ true → (a.release ≤ b.release) × (b.deadline ≤ a.deadline)
unfolding contains
contains_known a b e = (
  leb-true a.release b.release (and_left (leb a.release b.release) (leb b.deadline a.deadline) e),
  leb-true b.deadline a.deadline (and_right (leb a.release b.release) (leb b.deadline a.deadline) e),
)

contains_test : (a b : Task) → a.release ≤ b.release → b.deadline ≤ a.deadline → contains a b ≡ true
unfolding contains
contains_test a b l m =
    and_true (leb a.release b.release) (leb b.deadline a.deadline) (le-leb a.release b.release l) (le-leb b.deadline a.deadline m)

-- of two nested windows the one with no more frames lies inside the other
inside_frames : (a b : Task) → nested a b ≡ true → bad_window a ≡ false → bad_window b ≡ false → a.deadline - a.release ≤ b.deadline - b.release
    → contains b a ≡ true
unfolding nested bad_window
inside_frames a b e fa fb l =
    cases (contains a b)
    (λ f.
    let w = contains_known a b f in
    let x = leb-false a.deadline a.release fa in
    let y = leb-false b.deadline b.release fb in
    contains_test b a (omega arith) (omega arith))
    (λ f. sym (or_second (contains a b) (contains b a) f) ∙ e)

-- the window at position a lies inside that at b
abbrev pub inside : Table → ℕ → ℕ → Bool
inside t a b = contains (task_at t b) (task_at t a)

-- What stands before in nest order has no more frames.
pub nest_frames : (t : Table) (a b : ℕ) → nest_before t a b ≡ true → frames_at t a ≤ frames_at t b
unfolding nest_before LexAtMost
nest_frames t a b e = (less_at_most (nest_key t a) (nest_key t b) e).0

-- in a nested table it lies inside
nest_inside : (t : Table) → ((k : ℕ) → k < t.count → bad_window (task_at t k) ≡ false) → is_nested t ≡ true → (a b : ℕ) → a < t.count → b < t.count → nest_before t a b ≡ true → inside t a b ≡ true
unfolding is_nested
nest_inside t ahead e a b la lb before =
    let near = any_pairs nested nested_sym (task_at t) t.count e a b la lb (λ same.
    let self : nest_before t b b ≡ true = rw same at before in
    both_absurd (nest_before t b b) self ((nest_strict t).once b b self)) in
    inside_frames (task_at t a) (task_at t b) near (ahead a la) (ahead b lb) (nest_frames t a b before)

-- Outermost first, each window of a nested table lies inside those before it.
pub nest_falls : (t : Table) → ((k : ℕ) → k < t.count → bad_window (task_at t k) ≡ false) → is_nested t ≡ true → Sorted (inside t) (last_first (nest_before t) t.count)
nest_falls t ahead e = falls_by (nest_before t) (inside t) t.count (nest_strict t) (nest_inside t ahead e)

-- Chains of jobs.

-- a window that lies inside in frames lies inside in ticks
inside_ticks : (launch : ℕ) (t : Table) (a b : ℕ) → inside t a b ≡ true → Between (job_at launch t b).release (job_at launch t b).deadline (job_at launch t a)
unfolding job_at job_of
inside_ticks launch t a b e =
    let w = contains_known (task_at t b) (task_at t a) e in (
      release_monotone launch t.p t.q (task_at t b).release (task_at t a).release w.0,
      deadline_monotone launch t.p t.q (task_at t a).deadline (task_at t b).deadline w.1,
    )

-- jobs of positions whose windows lie each inside those before it
jobs_nested : (launch : ℕ) (t : Table) (js : List ℕ) → Sorted (inside t) js → NestedJobs (map (job_at launch t) js)
jobs_nested launch t [] o = tt
jobs_nested launch t (k ∷ js) o = (
  jobs_all launch t (λ j. inside t j k ≡ true) (Between (job_at launch t k).release (job_at launch t k).deadline) js (λ j e. inside_ticks launch t j k e) o.0,
  jobs_nested launch t js o.1,
)

-- The jobs of an accepted table that is nested, last first, are a chain.
pub nest_chain : (launch : ℕ) (t : Table) → Legal t → is_nested t ≡ true → Chain (jobs_last_first launch t)
unfolding jobs_last_first
nest_chain launch t l e =
    record {
      nested = jobs_nested launch t (order_last_first t) (subst⁻¹ (Sorted (inside t)) (order_nested t e) (nest_falls t (legal_windows t l) e));
      distinct = jobs_distinct launch t;
    }

-- The rules of placing, on ticks: each task of a nested table has the latest ticks that were still free, each of a similar one runs in order as early as it
-- can, and each run is a longest stretch of one task.
use Prim.Native.Nat.{ℕ, zero, suc, ◌≤◌, ◌<◌}
use mathlib.Core.Path.{◌≡◌}
use mathlib.Core.Logic.{◌≢◌, inl, inr}
use mathlib.Core.Bool.{Bool, true, false}
use mathlib.Core.List.{List, [], ◌∷◌, map}
use mathlib.Core.Option.{none, some}
use native.Mathlib.Omega.{arith}
use native.Mathlib.Decide.{dec_le, dec_lt}
use lib.ListN.{length, get_or}
use Rattle.base.specs.Members.{All, Any}
use Rattle.base.proofs.TestLaws.{both_absurd}
use Rattle.base.proofs.MemberLaws.{all_map, all_reverse}
use Rattle.table.specs.declared.Table.{Table}
use Rattle.table.specs.Kinds.{is_nested}
use Rattle.table.specs.Writing.{Legal}
use Rattle.table.proofs.FileLaws.{legal_count}
use Rattle.schedule.specs.declared.Job.{Job}
use Rattle.schedule.specs.declared.Run.{Run}
use Rattle.schedule.specs.Jobs.{job_at}
use Rattle.schedule.specs.Ticks.{Owner}
use Rattle.schedule.specs.Runs.{no_run, owner_of}
use Rattle.schedule.specs.Judging.{none_empty, follow_from, each_follows}
use Rattle.schedule.proofs.RunLaws.{first_nonempty, rest_nonempty, first_follows, rest_follow}
use Rattle.schedule.proofs.JudgeLaws.{job_position}
use Rattle.choice.specs.Choice.{works_of}
use Rattle.placement.specs.Placing.{placed, latest_first, stretches, outermost_deadline}
use Rattle.placement.proofs.RunTicks.{Reads, Longest, longest_tail, free_beyond}
use Rattle.placement.proofs.RunOrder.{latest_reads}
use Rattle.placement.proofs.Sufficiency.{works_placed_lem}
use Rattle.placement.proofs.FilledPlaces.{chain_deadlines}
use Rattle.placement.proofs.LatestTicks.{Latest, works_latest}
use Rattle.sequence.specs.InOrder.{finish, placed_in_order}
use Rattle.sequence.proofs.OrderSufficiency.{free_after}
use Rattle.orders.specs.KindOrder.{kind_before, order_last_first, jobs_last_first}
use Rattle.orders.proofs.SortLaws.{Sorted}
use Rattle.orders.proofs.OrderLaws.{jobs_positions}
use Rattle.orders.proofs.BeforeLaws.{kind_once, kind_falls, among_order}
use Rattle.plans.specs.Planning.{runs_by, plan_runs_by, plan_runs}
use Rattle.plans.specs.PlanParts.{fits_by, placed_by, chosen_marks, mandatory_fit}
use Rattle.plans.specs.KindJobs.{JobsOfKind}
use Rattle.plans.specs.Rules.{PlacedAs, LongestStretch, LongestRuns}
use Rattle.plans.proofs.TableJobs.{kind_jobs}
use Rattle.plans.proofs.PlanLaws.{keeps_fit, plan_listed, plan_owner, plan_few}
use Rattle.plans.proofs.EarlyTicks.{held_ordered, held_early}

-- what holds of jobs last first, by position: the jobs after that of task i are those before it in the order
latest_at : (launch : ℕ) (t : Table) (owner : Owner) (i : ℕ) (js : List ℕ) → Sorted (kind_before t) js → Any (λ j. j ≡ i) js
    → Latest (map (job_at launch t) js) owner
    → (u v : ℕ) → (job_at launch t i).release ≤ u → u < (job_at launch t i).deadline → owner u ≢ some i
    → ((j : ℕ) → owner u ≡ some j → kind_before t i j ≡ true) → owner v ≡ some i → u < v
latest_at launch t owner i [] s x3 h = absurd x3
latest_at launch t owner i (k ∷ js) s (inr m) h = latest_at launch t owner i js s.1 m h.1
latest_at launch t owner i (k ∷ js) s (inl e) h =
    rw (← e)
    (λ u v a b left outer has.
    h.0 u v a b (rw (job_position launch t k) left)
    (λ j q.
    rw (jobs_positions launch t js)
    (all_map (λ n. kind_before t n k ≡ true) (λ n. j ≢ n) js
    (λ n before same.
    let other : kind_before t k n ≡ true = rw same at (outer j q) in
    both_absurd (kind_before t n k) before (kind_once t k n other))
    s.0))
    (rw (job_position launch t k) has))

-- The stretches of an owner. Runs, latest first, that say who has each tick below a top, of which no two make one, and of which none goes on at the top, are longest
-- stretches.
module _ (owner : Owner) where
  -- the latest run, where it ends at the top, does not go on there
  abbrev EndsAt : List Run → ℕ → Type 0
  EndsAt [] top = Unit {0}
  EndsAt (run ∷ runs) top = run.end ≡ top → owner top ≢ some run.task

  -- the tick before a run is not its task's
  none_before : (run : Run) (runs : List Run) → Reads owner runs run.start → Longest (run ∷ runs) → (tick : ℕ) → suc tick ≡ run.start
      → owner tick ≢ some run.task
  none_before run [] d m tick e has =
      let free : owner tick ≡ none = d tick (omega arith) in
      let z : ◌≡◌ {A = ℕ} 0 1 = cc in
      omega arith
  none_before run (next ∷ runs) d m tick e has =
      elim (dec_le next.end tick) [
        | yes l ↦
            let free : owner tick ≡ none = d.2 tick l (omega arith) in
            let z : ◌≡◌ {A = ℕ} 0 1 = cc in
            omega arith
        | no l ↦
            let first = d.0 in
            let held : owner tick ≡ some next.task = d.3 tick (omega arith) (omega arith) in
            m.0 (omega (arith, d.1)) (cc)
      ]

  -- the run before one does not go on in it
  next-ends : (run : Run) (runs : List Run) → owner run.start ≡ some run.task → Longest (run ∷ runs) → EndsAt runs run.start
  next-ends run [] e m = tt
  next-ends run (next ∷ runs) e m = λ q has. m.0 q (cc)

  -- each run is a longest stretch
  reads-longest : (runs : List Run) (top : ℕ) → Reads owner runs top → Longest runs → EndsAt runs top → All (LongestStretch owner) runs
  reads-longest [] top d m a = tt
  reads-longest (run ∷ runs) top d m a = (
    record {
      nonempty = d.0;
      owns = d.3;
      before = none_before run runs d.4 m;
      after = elim (dec_lt run.end top) [
        | yes l ↦ λ has.
            let free : owner run.end ≡ none = d.2 run.end (omega arith) l in
            let z : ◌≡◌ {A = ℕ} 0 1 = cc in
            omega arith
        | no l ↦ let e : run.end ≡ top = omega (arith, d.1) in rw e (a e)
      ];
    },
    reads-longest runs run.start d.4 (longest_tail run runs m) (next-ends run runs (d.3 run.start (omega arith) d.0) m),
  )

  -- no run goes on at a free tick
  ends-free : (runs : List Run) (top : ℕ) → owner top ≡ none → EndsAt runs top
  ends-free [] top e = tt
  ends-free (run ∷ runs) top e = λ q has. let z : ◌≡◌ {A = ℕ} 0 1 = cc in omega arith

  -- the stretches of an owner are longest ones
  pub stretches_longest : (n : ℕ) → owner n ≡ none → All (LongestStretch owner) (stretches owner n)
  stretches_longest n e =
      let r = latest_reads owner n in
      all_reverse (LongestStretch owner) (latest_first owner n)
      (reads-longest (latest_first owner n) n r.0 r.1 (ends-free (latest_first owner n) n e))

-- in order, and with none empty, runs stand by start
starts_rise : (from : ℕ) (runs : List Run) → none_empty runs ≡ true → follow_from from runs ≡ true
    → (k : ℕ) → suc k < length runs → (get_or runs k no_run).start < (get_or runs (suc k) no_run).start
starts_rise from [] ne fo k l = absurd (omega arith)
starts_rise from (run ∷ []) ne fo k l = absurd (omega arith)
starts_rise from (run ∷ (next ∷ runs)) ne fo zero l =
    omega (arith, first_nonempty run (next ∷ runs) ne, first_follows run.end next runs (rest_follow from run (next ∷ runs) fo))
starts_rise from (run ∷ (next ∷ runs)) ne fo (suc k) l =
    starts_rise run.end (next ∷ runs) (rest_nonempty run (next ∷ runs) ne) (rest_follow from run (next ∷ runs) fo) k (omega arith)

-- What the runs of a list that fits are: longest stretches of the placing.
longest_by : (nested : Bool) (jobs : List Job) (keeps : List Bool) → JobsOfKind nested jobs → fits_by nested jobs keeps ≡ true
    → All (LongestStretch (placed_by nested jobs keeps)) (runs_by nested jobs keeps)
unfolding fits_by placed_by runs_by
longest_by true jobs keeps c e =
    stretches_longest (placed jobs keeps) (outermost_deadline jobs)
    (free_beyond (placed jobs keeps) jobs (outermost_deadline jobs) (outermost_deadline jobs) (works_placed_lem jobs (works_of jobs keeps) c e).inside
    (chain_deadlines jobs c) (omega arith))
longest_by false jobs keeps s e =
    stretches_longest (placed_in_order jobs keeps) (finish jobs keeps) (free_after jobs keeps (finish jobs keeps) (omega arith))

-- How the jobs of a table are placed, by position.
placed_as : (launch : ℕ) (nested : Bool) (t : Table) (keeps : List Bool) → JobsOfKind nested (jobs_last_first launch t)
    → fits_by nested (jobs_last_first launch t) keeps ≡ true
    → PlacedAs launch nested t (placed_by nested (jobs_last_first launch t) keeps)
unfolding fits_by placed_by jobs_last_first
placed_as launch true t keeps c e =
    λ i u v l.
    latest_at launch t (placed (jobs_last_first launch t) keeps) i (order_last_first t) (kind_falls t) (among_order t i l)
    (works_latest (jobs_last_first launch t) (works_of (jobs_last_first launch t) keeps) c e) u v
placed_as launch false t keeps s e =
    record {
      ordered = λ i j u v b. held_ordered launch t (order_last_first t) keeps (kind_falls t) i j u v b;
      early = λ i u v r l has left. held_early launch t (order_last_first t) keeps (kind_falls t) i u v r l has left;
    }

-- The plan of an accepted table whose mandatory parts fit.
module _ (launch : ℕ) (weight : ℕ → ℕ) (t : Table) (legal : Legal t) (none : mandatory_fit launch t ≡ true) where
  -- Its work is placed as the rules of its kind say.
  pub plan_placed : PlacedAs launch (is_nested t) t (owner_of (plan_runs launch weight t))
  plan_placed = rw (plan_owner launch weight t legal none) (placed_as launch (is_nested t) t (chosen_marks launch weight t) (kind_jobs launch t legal) (keeps_fit launch weight t legal none))

  -- its runs are longest stretches
  plan-stretches : All (LongestStretch (placed_by (is_nested t) (jobs_last_first launch t) (chosen_marks launch weight t))) (plan_runs launch weight t)
  unfolding plan_runs plan_runs_by chosen_marks
  plan-stretches = longest_by (is_nested t) (jobs_last_first launch t) (chosen_marks launch weight t) (kind_jobs launch t legal) (keeps_fit launch weight t legal none)

  -- Its runs are longest stretches, by start, and never more than 2n − 1.
  pub plan_longest : LongestRuns t (plan_runs launch weight t)
  unfolding each_follows
  plan_longest =
      record {
        stretches = rw (plan_owner launch weight t legal none) plan-stretches;
        by_start = starts_rise 0 (plan_runs launch weight t) (plan_listed launch weight t legal none).nonempty (plan_listed launch weight t legal none).ordered;
        few = omega (arith, plan_few launch weight t legal none, legal_count legal);
      }

-- The runs of a placing are the longest stretches of its ticks.
use Prim.Native.Nat.{ℕ, zero, suc, ◌+◌, ◌-◌, ◌≤◌, ◌<◌, min}
use mathlib.Core.Path.{◌≡◌, refl, ap, ◌∙◌}
use mathlib.Core.Logic.{inl, inr, ◌≢◌}
use mathlib.Core.List.{List, [], ◌∷◌, reverse}
use mathlib.Core.Bool.{true, false}
use mathlib.Core.Option.{none, some}
use native.Mathlib.Nat.{sub-zero}
use native.Mathlib.Omega.{arith}
use native.Mathlib.Decide.{le_ind, dec_le}
use lib.Dec.{leb, ltb, eqb}
use borrow.Author.Tests.{eqb-true, ne_eqb, eq-eqb, ltb-true, leb-true, le-leb, lt-ltb, le-ltb}
use Rattle.base.specs.Tests.{and}
use Rattle.base.proofs.TestLaws.{cases, both_absurd, same_test}
use Rattle.schedule.specs.declared.Job.{Job}
use Rattle.schedule.specs.Ticks.{Owner, count_below, sum_below}
use Rattle.schedule.specs.Runnings.{WindowHolds}
use Rattle.base.specs.Members.{All, Any}
use Rattle.schedule.specs.declared.Run.{Run}
use Rattle.schedule.proofs.TickLaws.{count_grows}
use Rattle.schedule.proofs.RunLaws.{owner_cases}
use Rattle.choice.specs.Choice.{works_fit}
use Rattle.choice.proofs.WorkLaws.{works_tail}
use Rattle.placement.specs.Chains.{Between, positions, Chain}
use Rattle.placement.specs.Placing.{is_free, free_in, give, place_job, works_placed, join_task, latest_first, stretches}
use Rattle.placement.specs.GapFilling.{add_run, fill, works_filled}
use Rattle.placement.proofs.Necessity.{chain_tail}
use Rattle.placement.proofs.Sufficiency.{Inside, works_placed_lem}

-- runs, latest first, say who has each tick below `top`: none is empty, each ends where the one listed before it starts, or earlier, and ticks
-- in no run are free
abbrev pub Reads : Owner → List Run → ℕ → Type 0
Reads owner [] top = (tick : ℕ) → tick < top → owner tick ≡ none
Reads owner (run ∷ runs) top =
    (run.start < run.end)
    × (run.end ≤ top)
    × ((tick : ℕ) → run.end ≤ tick → tick < top → owner tick ≡ none)
    × ((tick : ℕ) → run.start ≤ tick → tick < run.end → owner tick ≡ some run.task)
    × Reads owner runs run.start

-- two runs that touch are of two tasks
abbrev pub Longest : List Run → Type 0
Longest [] = Unit {0}
Longest (run ∷ []) = Unit {0}
Longest (run ∷ (next ∷ runs)) = (next.end ≡ run.start → next.task ≢ run.task) × Longest (next ∷ runs)

-- free ticks change no stretch
latest_free : (owner : Owner) (a b : ℕ) → a ≤ b → ((tick : ℕ) → a ≤ tick → tick < b → owner tick ≡ none) → latest_first owner b ≡ latest_first owner a
unfolding latest_first
latest_free owner a b h f =
    le_ind (λ n. n ≤ b → latest_first owner n ≡ latest_first owner a) (λ l. refl) (λ n (k : a ≤ n) e l. rw (f n k l) (e (omega arith))) b h (omega arith)

-- the first tick of a run that continues none begins a stretch
start_run : (run : Run) (runs : List Run) → Longest (run ∷ runs)
    → join_task run.start run.task runs ≡ record { start = run.start; end = suc run.start; task = run.task } ∷ runs
start_run run [] m = refl
start_run run (next ∷ runs) m =
    cases (eqb next.end run.start)
    (λ e. rw (e, ne_eqb next.task run.task (m.0 (eqb-true next.end run.start e))))
    (λ e. rw e)

-- its further ticks make the stretch longer
latest_run : (owner : Owner) (run : Run) (runs : List Run) → latest_first owner run.start ≡ runs → Longest (run ∷ runs)
    → ((tick : ℕ) → run.start ≤ tick → tick < run.end → owner tick ≡ some run.task) → (n : ℕ) → run.start < n → n ≤ run.end
    → latest_first owner n ≡ record { start = run.start; end = n; task = run.task } ∷ runs
unfolding latest_first
latest_run owner run runs e m f n h l =
    le_ind (λ n. n ≤ run.end → latest_first owner n ≡ record { start = run.start; end = n; task = run.task } ∷ runs)
    (λ l. rw (f run.start (omega arith) l, e) (start_run run runs m))
    (λ n (k : run.start < n) q l. rw (f n (omega arith) l, q (omega arith), eq-eqb n n refl, eq-eqb run.task run.task refl))
    n h l

-- what holds of two runs that touch holds in the rest of the list
pub longest_tail : (run : Run) (runs : List Run) → Longest (run ∷ runs) → Longest runs
longest_tail run [] m = tt
longest_tail run (next ∷ runs) m = m.1

-- Runs of which no two make one, and that say who has each tick below a top, are its longest stretches.
pub reads_latest : (owner : Owner) (runs : List Run) (top : ℕ) → Reads owner runs top → Longest runs → latest_first owner top ≡ runs
unfolding latest_first
reads_latest owner [] top d m = latest_free owner 0 top (omega arith) (λ tick _ h. d tick h)
reads_latest owner (run ∷ runs) top d m =
    latest_free owner run.end top d.1 d.2
    ∙ latest_run owner run runs (reads_latest owner runs run.start d.4 (longest_tail run runs m)) m d.3 run.end d.0 (omega arith)

-- how many ticks are free where all are
all_free : (owner : Owner) (a b : ℕ) → a ≤ b → ((tick : ℕ) → a ≤ tick → tick < b → owner tick ≡ none)
    → count_below (λ tick. is_free (owner tick)) b ≡ count_below (λ tick. is_free (owner tick)) a + (b - a)
unfolding sum_below
all_free owner a b h f =
    le_ind (λ n. n ≤ b → count_below (λ tick. is_free (owner tick)) n ≡ count_below (λ tick. is_free (owner tick)) a + (n - a))
    (λ l. omega arith)
    (λ n (k : a ≤ n) e (l : suc n ≤ b). let q = e (omega arith) in rw (f n k l) (omega arith)) b h (omega arith)

-- and where none is
none_free : (owner : Owner) (k a b : ℕ) → a ≤ b → ((tick : ℕ) → a ≤ tick → tick < b → owner tick ≡ some k)
    → count_below (λ tick. is_free (owner tick)) b ≡ count_below (λ tick. is_free (owner tick)) a
unfolding sum_below
none_free owner k a b h f =
    le_ind (λ n. n ≤ b → count_below (λ tick. is_free (owner tick)) n ≡ count_below (λ tick. is_free (owner tick)) a)
    (λ l. refl)
    (λ n (k : a ≤ n) e (l : suc n ≤ b). let q = e (omega arith) in rw (f n k l) (omega arith)) b h (omega arith)

-- two comparisons that follow from one another are the same test
less_same : (a b c d : ℕ) → (a < b → c < d) → (c < d → a < b) → ltb a b ≡ ltb c d
less_same a b c d f g = same_test (ltb a b) (ltb c d) (λ e. lt-ltb c d (f (ltb-true a b e))) (λ e. lt-ltb a b (g (ltb-true c d e)))

-- Task i is filled in: `after` is `owner` with the last w free ticks from `release` to the top given to i. Whoever had a tick had it from
-- `release` on and is not task i.
module _ (owner after : Owner) (i release : ℕ) (own : (tick k : ℕ) → owner tick ≡ some k → (release ≤ tick) × (i ≢ k)) where
  -- what `after` says below the top
  abbrev Follows : ℕ → ℕ → Type 0
  Follows top w = (tick : ℕ) → tick < top → after tick ≡ give i (and (leb release tick) (ltb (free_in owner (suc tick) top) w)) (owner tick)

  -- a free tick from `release` on, with fewer than w free ticks after it, goes to task i
  take-yes : (top w tick : ℕ) → Follows top w → tick < top → owner tick ≡ none → release ≤ tick → free_in owner (suc tick) top < w
      → after tick ≡ some i
  take-yes top w tick f h e l q = f tick h ∙ rw (le-leb release tick l, lt-ltb (free_in owner (suc tick) top) w q, e)

  -- a free tick before `release`, or with w free ticks after it, stays free
  take_no : (top w tick : ℕ) → Follows top w → tick < top → owner tick ≡ none → (release ≤ tick → w ≤ free_in owner (suc tick) top)
      → after tick ≡ none
  take_no top w tick f h e l =
      f tick h
      ∙ cases (leb release tick)
      (λ q. rw (q, le-ltb (free_in owner (suc tick) top) w (l (leb-true release tick q)), e))
      (λ q. rw (q, e))

  -- a tick that a task has stays with it
  take-busy : (top w tick k : ℕ) → Follows top w → tick < top → owner tick ≡ some k → after tick ≡ some k
  take-busy top w tick k f h e = f tick h ∙ rw e

  -- n ticks of task i up to the top, above runs that say who has each tick below them
  reads-add : (top n : ℕ) (runs : List Run) → n ≤ top → Reads after runs (top - n)
      → ((tick : ℕ) → top - n ≤ tick → tick < top → after tick ≡ some i) → Reads after (add_run i top n runs) top
  reads-add top zero runs h d f = rw sub-zero at d
  reads-add top (suc n) runs h d f = (omega arith, omega arith, λ tick a b. absurd (omega arith), f, d)

  -- what is left of w below a run, after the gap above it
  below-run : (top w : ℕ) (run : Run) (runs : List Run) → Reads owner (run ∷ runs) top → (tick : ℕ) → tick < run.start
      → ltb (free_in owner (suc tick) top) w ≡ ltb (free_in owner (suc tick) run.start) (w - (top - run.end))
  below-run top w run runs d tick h =
      let x = none_free owner run.task run.start run.end (omega arith) d.3 in
      let y = all_free owner run.end top d.1 d.2 in
      let z = count_grows (λ tick. is_free (owner tick)) (suc tick) run.start h in
      less_same (free_in owner (suc tick) top) w (free_in owner (suc tick) run.start) (w - (top - run.end)) (λ q. omega arith) (λ q. omega arith)

  -- the filled list says who has each tick after
  reads-fill : (runs : List Run) (top w : ℕ) → Reads owner runs top → Follows top w → Reads after (fill i release runs top w) top
  unfolding fill
  reads-fill [] top w d f =
      reads-add top (min w (top - release)) [] (omega arith)
      (λ tick h.
      take_no top w tick f (omega arith) (d tick (omega arith))
      (λ l. omega (arith, all_free owner (suc tick) top (omega arith) (λ s _ k. d s k))))
      (λ tick a b. take-yes top w tick f b (d tick b) (omega arith) (omega (arith, all_free owner (suc tick) top b (λ s _ k. d s k))))
  reads-fill (run ∷ runs) top w d f =
      let l : release ≤ run.start = (own run.start run.task (d.3 run.start (omega arith) d.0)).0 in
      let s = d.0 in
      reads-add top (min w (top - run.end)) (run ∷ fill i release runs run.start (w - (top - run.end))) (omega arith) (
        d.0,
        omega arith,
        λ tick a b.
            take_no top w tick f (omega arith) (d.2 tick a (omega arith))
            (λ _. omega (arith, all_free owner (suc tick) top (omega arith) (λ n k. d.2 n (omega arith)))),
        λ tick a b. take-busy top w tick run.task f (omega arith) (d.3 tick a b),
        reads-fill runs run.start (w - (top - run.end)) d.4 (λ tick h. f tick (omega arith) ∙ rw (below-run top w run runs d tick h)),
      )
      (λ tick a b.
      take-yes top w tick f b (d.2 tick (omega arith) b) (omega arith)
      (omega (arith, all_free owner (suc tick) top b (λ n k. d.2 n (omega arith)))))

  -- no run before is of task i
  others : (runs : List Run) (top : ℕ) → Reads owner runs top → All (λ run. i ≢ run.task) runs
  others [] top d = tt
  others (run ∷ runs) top d = ((own run.start run.task (d.3 run.start (omega arith) d.0)).1, others runs run.start d.4)

-- a new run touches none of its own task
longest_add : (i top n : ℕ) (run : Run) (runs : List Run) → i ≢ run.task → Longest (run ∷ runs) → Longest (add_run i top n (run ∷ runs))
longest_add i top zero run runs d m = m
longest_add i top (suc n) run runs d m = (λ _. omega arith, m)

-- nor does one that comes below a run of another task
longest_after : (i top n : ℕ) (run : Run) (runs : List Run) → i ≢ run.task → Longest (run ∷ runs) → Longest (add_run i top n runs)
    → Longest (run ∷ add_run i top n runs)
longest_after i top zero run runs d m l = m
longest_after i top (suc n) run runs d m l = (λ _. d, l)

-- nor does one that stands alone
longest_last : (i top n : ℕ) → Longest (add_run i top n [])
longest_last i top zero = tt
longest_last i top (suc n) = tt

-- filling in below a run makes no two runs of one task touch
longest_below : (i release : ℕ) (run : Run) (runs : List Run) (top w : ℕ) → i ≢ run.task → Longest (run ∷ runs)
    → All (λ next. i ≢ next.task) runs → Longest (run ∷ fill i release runs top w)
unfolding fill
longest_below i release run [] top w d m a =
    longest_after i top (min w (top - release)) run [] d tt (longest_last i top (min w (top - release)))
longest_below i release run (next ∷ runs) top w d m a =
    let rest = fill i release runs next.start (w - (top - next.end)) in
    let l = longest_below i release next runs next.start (w - (top - next.end)) a.0 m.1 a.1 in
    longest_after i top (min w (top - next.end)) run (next ∷ rest) d (m.0, l) (longest_add i top (min w (top - next.end)) next rest a.0 l)

-- nor does filling in from the top
longest_fill : (i release : ℕ) (runs : List Run) (top w : ℕ) → Longest runs → All (λ run. i ≢ run.task) runs → Longest (fill i release runs top w)
unfolding fill
longest_fill i release [] top w m a = longest_last i top (min w (top - release))
longest_fill i release (run ∷ runs) top w m a =
    longest_add i top (min w (top - run.end)) run (fill i release runs run.start (w - (top - run.end))) a.0
    (longest_below i release run runs run.start (w - (top - run.end)) a.0 m a.1)

-- nobody has a tick after the windows
pub free_beyond : (owner : Owner) (jobs : List Job) (b tick : ℕ) → Inside jobs owner → All (λ job. job.deadline ≤ b) jobs → b ≤ tick → owner tick ≡ none
free_beyond owner jobs b tick h a l = owner_cases (owner tick) (λ e. e) (λ k e. absurd (out jobs k (h tick k e) a))
  where
    out : (jobs : List Job) (k : ℕ) → Any (WindowHolds tick k) jobs → All (λ job. job.deadline ≤ b) jobs → ⊥
    out [] k x'' a = absurd x''
    out (job ∷ jobs) k (inl q) a = let z = a.0 in omega arith
    out (job ∷ jobs) k (inr q) a = out jobs k q a.1

-- runs that say who has each tick below a top say so for another owner below a later one, where the two agree up to the first and the ticks from
-- there on are free
pub reads_under : (owner other : Owner) (runs : List Run) (a b : ℕ) → Reads owner runs a → a ≤ b → ((tick : ℕ) → tick < a → other tick ≡ owner tick)
    → ((tick : ℕ) → a ≤ tick → tick < b → other tick ≡ none) → Reads other runs b
reads_under owner other [] a b d h same free =
    λ tick l. elim (dec_le a tick) [ yes k ↦ free tick k l | no k ↦ same tick (omega arith) ∙ d tick (omega arith) ]
reads_under owner other (run ∷ runs) a b d h same free =
    let s = d.0 in
    let e = d.1 in (
      s,
      omega arith,
      λ tick l m. elim (dec_le a tick) [ yes k ↦ free tick k m | no k ↦ same tick (omega arith) ∙ d.2 tick l (omega arith) ],
      λ tick l m. same tick (omega arith) ∙ d.3 tick l m,
      reads_under owner other runs run.start run.start d.4 (omega arith) (λ tick l. same tick (omega arith)) (λ tick l m. absurd (omega arith)),
    )

-- what is placed before a job has its ticks from the job's release on and is not the job's
placed_inner : (owner : Owner) (job : Job) (jobs : List Job) → Chain (job ∷ jobs) → Inside jobs owner
    → (tick k : ℕ) → owner tick ≡ some k → (job.release ≤ tick) × (job.position ≢ k)
placed_inner owner job jobs c h tick k e = go jobs c.nested.0 c.distinct.0 (h tick k e)
  where
    go : (jobs : List Job) → All (Between job.release job.deadline) jobs → All (λ n. job.position ≢ n) (positions jobs) → Any (WindowHolds tick k) jobs
        → (job.release ≤ tick) × (job.position ≢ k)
    go [] n d x3 = absurd x3
    go (other ∷ jobs) n d (inl q) = let x = n.0 in let y = d.0 in omega arith
    go (other ∷ jobs) n d (inr q) = go jobs n.1 d.1 q

-- windows between a and b have no deadline after b
pub deadlines : (a b : ℕ) (jobs : List Job) → All (Between a b) jobs → All (λ job. job.deadline ≤ b) jobs
deadlines a b [] u = tt
deadlines a b (job ∷ jobs) u = (u.0.1, deadlines a b jobs u.1)

-- The filled runs say who has each tick below any tick that no window passes, and no two of them make one.
pub filled_reads : (jobs : List Job) (works : List ℕ) → Chain jobs → works_fit jobs works ≡ true → (b : ℕ) → All (λ job. job.deadline ≤ b) jobs
    → Reads (works_placed jobs works) (works_filled jobs works) b × Longest (works_filled jobs works)
unfolding works_placed works_filled works_fit
filled_reads [] [] c e b a = (λ n h. refl, tt)
filled_reads [] (work ∷ works) c e b a = both_absurd false e refl
filled_reads (job ∷ jobs) [] c e b a = both_absurd false e refl
filled_reads (job ∷ jobs) (w ∷ works) c e b a =
    let i = job.position in
    let owner : Owner = works_placed jobs works in
    let after : Owner = place_job owner job w in
    let inner = chain_tail job jobs c in
    let fit = works_tail job jobs w works e in
    let own = placed_inner owner job jobs c (works_placed_lem jobs works inner fit).inside in
    let ends = deadlines job.release job.deadline jobs c.nested.0 in
    let ih = filled_reads jobs works inner fit job.deadline ends in (
      reads_under after after (fill i job.release (works_filled jobs works) job.deadline w) job.deadline b
          (reads-fill owner after i job.release own (works_filled jobs works) job.deadline w ih.0 (λ n h. rw (lt-ltb n job.deadline h)))
          a.0
          (λ n h. refl)
          (λ n h _. free_beyond after (job ∷ jobs) job.deadline n (works_placed_lem (job ∷ jobs) (w ∷ works) c e).inside (omega arith, ends) h),
      longest_fill i job.release (works_filled jobs works) job.deadline w ih.1
          (others owner after i job.release own (works_filled jobs works) job.deadline ih.0),
    )

-- Filling gives the longest stretches of the placing, the latest first,
pub filled_latest : (jobs : List Job) (works : List ℕ) → Chain jobs → works_fit jobs works ≡ true → (b : ℕ) → All (λ job. job.deadline ≤ b) jobs
    → latest_first (works_placed jobs works) b ≡ works_filled jobs works
filled_latest jobs works c e b a =
    let r = filled_reads jobs works c e b a in
    reads_latest (works_placed jobs works) (works_filled jobs works) b r.0 r.1

-- and, turned round, by start.
pub filled_stretches : (jobs : List Job) (works : List ℕ) → Chain jobs → works_fit jobs works ≡ true → (b : ℕ) → All (λ job. job.deadline ≤ b) jobs
    → stretches (works_placed jobs works) b ≡ reverse (works_filled jobs works)
filled_stretches jobs works c e b a = ap reverse (filled_latest jobs works c e b a)

-- The rules of choosing and placing, stated on positions and ticks: with no sorted list, no search and no walk over the ticks. Where the two kinds of
-- tables have different rules, they stand one after the other. The theorems in proofs/ say that the plan of an accepted table follows them, and that
-- they settle its keep list, its runs and the place of an 8. `launch` is the launch tick: what knows windows in ticks takes it. `weight k` is what the
-- optional part of position k weighs, 1 for every one where the table has no weights.
use Rattle.std.specs.Prelude.{ℕ, zero, suc, ◌+◌, ◌≤◌, ◌<◌, ◌≡◌, ◌≢◌, ◌⊎◌, Bool, true, false, List, [], ◌∷◌, eqb, length, get_or}
use Rattle.std.proofs.Math.Option.{some}
use Rattle.base.specs.Tests.{pick, or}
use Rattle.base.specs.Members.{All}
use Rattle.table.specs.declared.Table.{Table}
use Rattle.table.specs.Tables.{task_at}
use Rattle.table.specs.Kinds.{is_nested}
use Rattle.table.specs.Reading.{ReadTable}
use Rattle.schedule.specs.declared.Job.{Job}
use Rattle.schedule.specs.declared.Run.{Run}
use Rattle.schedule.specs.Jobs.{job_at, jobs_of, window_ticks, work_of}
use Rattle.schedule.specs.Ticks.{Owner, sum_below}
use Rattle.schedule.specs.Runnings.{Running}
use Rattle.schedule.specs.Runs.{no_run, owner_of, Together}
use Rattle.schedule.specs.Judging.{marked_weight}
use Rattle.orders.specs.KindOrder.{kind_before}
use Rattle.plans.specs.declared.Planned.{Planned}
use Rattle.plans.specs.Planning.{LentLists}
use Rattle.base.specs.Limits.{most_runs}
use Rattle.plans.specs.Demands.{marks_in, runs_in}

-- Up to a task, in the order of the table's kind.

-- the task at j is the one at k or stands before it
unfoldable pub up_to : Table → ℕ → ℕ → Bool
up_to t j k = or (eqb j k) (kind_before t j k)

-- the ticks of the task at k and of all tasks before it, where the task at j has `ticks j`
unfoldable pub ticks_up_to : Table → (ℕ → ℕ) → ℕ → ℕ
ticks_up_to t ticks k = sum_below (λ j. pick (up_to t j k) (ticks j) 0) t.count

-- the jobs of the positions below n that pass a test, and of the task at k and all tasks before it
unfoldable pub jobs_that : ℕ → Table → (ℕ → Bool) → ℕ → List Job
jobs_that launch t test zero = []
jobs_that launch t test (suc n) = pick (test n) (job_at launch t n ∷ jobs_that launch t test n) (jobs_that launch t test n)

unfoldable pub jobs_up_to : ℕ → Table → ℕ → List Job
jobs_up_to launch t k = jobs_that launch t (λ j. up_to t j k) t.count

-- Fitting.

-- 'A keep list has one mark a task, 1 kept, 0 discarded.'
pub record KeepList (t : Table) (marks : List ℕ) : Type 0 where
  pub size : length marks ≡ t.count
  pub low : (k : ℕ) → k < t.count → get_or marks k 0 ≤ 1

-- Nested tables: the ticks of the task at k 'and that of all tasks before it come to no more than the ticks of its window'.
abbrev pub Within : ℕ → Table → (ℕ → ℕ) → ℕ → Type 0
Within launch t ticks k = ticks_up_to t ticks k ≤ window_ticks (job_at launch t k)

-- Similar tables: 'Each task runs in that order, as early as it can; a list fits if all its work then ends by the deadlines.'

-- the task at k has work, where the task at j has `work j` ticks of it; one without has nothing that could end late
abbrev pub HasWork : Table → (ℕ → ℕ) → ℕ → Type 0
HasWork t work k = (k < t.count) × (0 < work k)

-- `start` says where each task that has work starts: not before its release, nor before the work of a task before it ends, and at one of these ticks.
-- There is one such start for each (`starts_settled`).
pub record StartsEarly (launch : ℕ) (t : Table) (work start : ℕ → ℕ) : Type 0 where
  pub released : (k : ℕ) → HasWork t work k → (job_at launch t k).release ≤ start k
  pub after : (j k : ℕ) → HasWork t work j → HasWork t work k → kind_before t j k ≡ true → start j + work j ≤ start k
  pub early : (k : ℕ) → HasWork t work k
      → (start k ≡ (job_at launch t k).release) ⊎ ((j : ℕ) × HasWork t work j × (kind_before t j k ≡ true) × (start k ≡ start j + work j))

-- all work then ends by the deadlines
pub record EndsInTime (launch : ℕ) (t : Table) (work : ℕ → ℕ) : Type 0 where
  pub start : ℕ → ℕ
  pub starts : StartsEarly launch t work start
  pub ends : (k : ℕ) → HasWork t work k → start k + work k ≤ (job_at launch t k).deadline

-- what a table asks of works, nested or not
abbrev pub WorksFitBy : ℕ → Bool → Table → (ℕ → ℕ) → Type 0
WorksFitBy launch true t work = (k : ℕ) → k < t.count → Within launch t work k
WorksFitBy launch false t work = EndsInTime launch t work

-- a list fits
pub record Fitting (launch : ℕ) (t : Table) (marks : List ℕ) : Type 0 where
  pub list : KeepList t marks
  pub works : WorksFitBy launch (is_nested t) t (λ j. work_of (job_at launch t j) (get_or marks j 0))

-- Choosing.

-- 'the .. total of kept optional ticks'
unfoldable pub kept_ticks_of : Table → List ℕ → ℕ
kept_ticks_of t marks = sum_below (λ k. pick (eqb (get_or marks k 0) 1) (task_at t k).optional 0) t.count

-- 'the last task in that order where two differ', of a nested table 'the outermost', is the one at k: all tasks that it stands before have equal marks
pub record LastDiffering (t : Table) (a b : List ℕ) (k : ℕ) : Type 0 where
  pub known : k < t.count
  pub differ : get_or a k 0 ≢ get_or b k 0
  pub later : (j : ℕ) → j < t.count → kind_before t k j ≡ true → get_or a j 0 ≡ get_or b j 0

-- Nested tables: 'Among fitting lists the planner takes: one that discards fewest optional parts; then the least total of kept optional ticks; then, at
-- the outermost task where two lists differ, the one that keeps.' Similar tables: 'Among fitting lists the one chosen discards fewest, then at the last
-- task in that order where two differ it keeps.' Both: 'An optional part of 0 ticks is marked 1 and enters neither count.' Weighted tables: 'The least total
-- weight is discarded, then the two tie rules of document 01'; where each part weighs 1, that is to discard fewest.
pub record ByRules (launch : ℕ) (weight : ℕ → ℕ) (t : Table) (marks : List ℕ) : Type 0 where
  pub fit : Fitting launch t marks
  pub fewest : (other : List ℕ) → Fitting launch t other → marked_weight 0 weight t marks ≤ marked_weight 0 weight t other
  pub least : is_nested t ≡ true → (other : List ℕ) → Fitting launch t other → marked_weight 0 weight t other ≡ marked_weight 0 weight t marks
      → kept_ticks_of t marks ≤ kept_ticks_of t other
  pub last : (other : List ℕ) → Fitting launch t other → marked_weight 0 weight t other ≡ marked_weight 0 weight t marks
      → (is_nested t ≡ true → kept_ticks_of t other ≡ kept_ticks_of t marks) → (k : ℕ) → LastDiffering t marks other k → get_or marks k 0 ≡ 1
  pub no_length : (k : ℕ) → k < t.count → (task_at t k).optional ≡ 0 → get_or marks k 0 ≡ 1

-- The place of an 8.

-- the 'first task in its kind's order where the mandatory ticks up to and with it can't be met': no running of the tasks up to and with it completes
-- them, and for each task before it there is one
pub record FirstUnmet (launch : ℕ) (t : Table) (place : ℕ) : Type 0 where
  pub known : place < t.count
  pub unmet : (owner : Owner) → Running (jobs_up_to launch t place) owner → ⊥
  pub first : (k : ℕ) → k < t.count → kind_before t k place ≡ true → (owner : Owner) × Running (jobs_up_to launch t k) owner

-- of a nested table: 'first task in nest order where the mandatory ticks up to and with it exceed its window'
pub record FirstExceeding (launch : ℕ) (t : Table) (place : ℕ) : Type 0 where
  pub known : place < t.count
  pub exceeds : window_ticks (job_at launch t place) < ticks_up_to t (λ j. (job_at launch t j).mandatory) place
  pub first : (k : ℕ) → k < t.count → kind_before t k place ≡ true → Within launch t (λ j. (job_at launch t j).mandatory) k

-- Placing. How many ticks each task takes is said by `together` below; here which ones.

-- Nested tables: 'Placing goes in nest order. Each task takes the latest ticks of its window that are still free': a tick u of its window that task i
-- has not taken, though no task before it has it, lies before every tick v that it has.
abbrev pub TakesLatest : ℕ → Table → Owner → Type 0
TakesLatest launch t owner =
    (i u v : ℕ) → i < t.count → (job_at launch t i).release ≤ u → u < (job_at launch t i).deadline → owner u ≢ some i
    → ((j : ℕ) → owner u ≡ some j → kind_before t i j ≡ true) → owner v ≡ some i → u < v

-- Similar tables: 'Each task runs in that order': its ticks lie after those of every task before it; 'as early as it can': a tick u from its release on
-- that it has not taken, though it has a later tick v, is one by which some task before it has not ended.
pub record RunsEarly (launch : ℕ) (t : Table) (owner : Owner) : Type 0 where
  pub ordered : (i j u v : ℕ) → kind_before t j i ≡ true → owner u ≡ some j → owner v ≡ some i → u < v
  pub early : (i u v : ℕ) → (job_at launch t i).release ≤ u → u < v → owner v ≡ some i → owner u ≢ some i
      → (j : ℕ) × (w : ℕ) × (kind_before t j i ≡ true) × (owner w ≡ some j) × (u ≤ w)

-- how a table is placed, nested or not
abbrev pub PlacedAs : ℕ → Bool → Table → Owner → Type 0
PlacedAs launch true t owner = TakesLatest launch t owner
PlacedAs launch false t owner = RunsEarly launch t owner

-- 'A run is (start, end, task), end excluded; in a plan it is a longest stretch of one task': its ticks are its task's, and neither the tick
-- before its start nor the one at its end is
pub record LongestStretch (owner : Owner) (run : Run) : Type 0 where
  pub nonempty : run.start < run.end
  pub owns : (tick : ℕ) → run.start ≤ tick → tick < run.end → owner tick ≡ some run.task
  pub before : (tick : ℕ) → suc tick ≡ run.start → owner tick ≢ some run.task
  pub after : owner run.end ≢ some run.task

-- each run is a longest stretch. 'Runs are listed by start. For n tasks there are never more than 2n − 1.'
pub record LongestRuns (t : Table) (runs : List Run) : Type 0 where
  pub stretches : All (LongestStretch (owner_of runs)) runs
  pub by_start : (k : ℕ) → suc k < length runs → (get_or runs k no_run).start < (get_or runs (suc k) no_run).start
  pub few : length runs ≤ most_runs t.count

-- The rules as clauses of the plan call.

-- a plan by the rules: its marks are those that they take, each task gets ticks of its window, as many as its work, and its runs are placed as they say
pub record PlanByRules (launch : ℕ) (weight : ℕ → ℕ) (t : Table) (marks : List ℕ) (runs : List Run) : Type 0 where
  pub chosen : ByRules launch weight t marks
  pub together : Together (jobs_of launch t) marks runs
  pub placed : PlacedAs launch (is_nested t) t (owner_of runs)
  pub longest : LongestRuns t runs

-- of every table that was planned
abbrev pub PlannedByRules : ℕ → ReadTable → Planned → LentLists → Type 0
PlannedByRules launch read reply after =
    reply.number ≡ 0 → PlanByRules launch read.weight read.table (marks_in read.table after) (runs_in reply after)

-- an 8 names the first task where the mandatory ticks can't be met, and in a nested table the first that exceeds its window
abbrev pub EightFirst : ℕ → ReadTable → Planned → Type 0
EightFirst launch read reply =
    reply.number ≡ 8
    → FirstUnmet launch read.table reply.place × (is_nested read.table ≡ true → FirstExceeding launch read.table reply.place)

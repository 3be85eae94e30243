-- Planning a table: the keep list, the runs, the reply, and what the lent lists hold afterwards.
use Rattle.std.specs.Prelude.{ℕ, ◌+◌, List, [], ◌∷◌, map, reverse, Bool, ltb, eqb, length, replicate}
use Rattle.base.specs.Tests.{pick, or}
use Rattle.base.specs.Limits.{most_runs}
use Rattle.base.specs.Places.{places}
use Rattle.base.specs.Lent.{WrittenParameter, written_front}
use Rattle.clock.specs.Clock.{bad_launch}
use Rattle.table.specs.declared.Table.{Table}
use Rattle.table.specs.Kinds.{is_nested}
use Rattle.table.specs.Reading.{ReadTable, reply_on_read}
use Rattle.schedule.specs.declared.Job.{Job}
use Rattle.schedule.specs.declared.Run.{Run}
use Rattle.schedule.specs.Jobs.{window_ticks}
use Rattle.schedule.specs.Ticks.{one_if}
use Rattle.schedule.specs.Runs.{starts_of, ends_of, tasks_of}
use Rattle.choice.specs.Choice.{chosen_over, weighed, kept, discarded}
use Rattle.placement.specs.Placing.{runs_placed}
use Rattle.placement.specs.ByPosition.{number_at}
use Rattle.sequence.specs.InOrder.{runs_in_order, first_late}
use Rattle.sequence.specs.OrderChoice.{chosen_in_order_over}
use Rattle.orders.specs.KindOrder.{jobs_last_first}
use Rattle.plans.specs.declared.Planned.{Planned}

-- The plan of jobs, of a nested table or of a similar one. They stand in the order of the table's kind, last first: of a nested table outermost first. What
-- the optional part of position k weighs is `weight k`, 1 for every one where the table has no weights.

-- 8 'names the first task in its kind's order where the mandatory ticks up to and with it can't be met'. Of a nested table it is the 'first task in nest
-- order where the mandatory ticks up to and with it exceed its window': its position, among jobs in nest order that come after others of `sum` mandatory
-- ticks, and n where there is none.
unfoldable pub exceeding_after : ℕ → ℕ → List Job → ℕ
exceeding_after n sum [] = n
exceeding_after n sum (job ∷ jobs) =
    pick (ltb (window_ticks job) (sum + job.mandatory)) job.position (exceeding_after n (sum + job.mandatory) jobs)

-- the place of an 8 among jobs of a kind, and n where there is none: of similar jobs it is the first that is late where all run in order, as early as they
-- can
unfoldable pub unmet_by : Bool → ℕ → List Job → ℕ
unmet_by nested n jobs = pick nested (exceeding_after n 0 (reverse jobs)) (first_late n jobs)

-- the keep list that is taken
unfoldable pub chosen_by : Bool → (ℕ → ℕ) → List Job → List Bool
chosen_by nested weight jobs = pick nested (chosen_over (weighed weight) jobs) (chosen_in_order_over (weighed weight) jobs)

-- the runs of that placing
unfoldable pub runs_by : Bool → List Job → List Bool → List Run
runs_by nested jobs keeps = pick nested (runs_placed jobs keeps) (runs_in_order jobs keeps)

-- the mark of a position in a keep list of jobs: 1 kept, 0 discarded
abbrev pub mark_at : List Job → List Bool → ℕ → ℕ
mark_at jobs keeps = number_at jobs (map one_if keeps)

-- the marks of a plan of n jobs: the keep list by position
unfoldable pub marks_by : Bool → (ℕ → ℕ) → ℕ → List Job → List ℕ
marks_by nested weight n jobs = places (mark_at jobs (chosen_by nested weight jobs)) n

-- the runs of a plan, by start
unfoldable pub plan_runs_by : Bool → (ℕ → ℕ) → List Job → List Run
plan_runs_by nested weight jobs = runs_by nested jobs (chosen_by nested weight jobs)

-- the reply of a refusal, and of a plan: parts that are not named are 0
abbrev pub plan_declined : ℕ → ℕ → Planned
plan_declined number place = record { number = number; place = place; kept = 0; discarded = 0; runs = 0 }

abbrev pub plan_made : ℕ → ℕ → ℕ → Planned
plan_made kept discarded runs = record { number = 0; place = 0; kept = kept; discarded = discarded; runs = runs }

-- the reply of a plan of jobs: kept and discarded are counts, whatever the parts weigh
unfoldable pub made_by : Bool → (ℕ → ℕ) → List Job → Planned
made_by nested weight jobs =
    plan_made (kept jobs (chosen_by nested weight jobs)) (discarded jobs (chosen_by nested weight jobs)) (length (plan_runs_by nested weight jobs))

-- The lists that a caller lends to planning: the marks, and the columns of the runs.
pub record LentLists : Type 0 where
  pub marks : List ℕ
  pub starts : List ℕ
  pub ends : List ℕ
  pub tasks : List ℕ

-- such lists by their contents
abbrev pub lent : List ℕ → List ℕ → List ℕ → List ℕ → LentLists
lent marks starts ends tasks = record { marks = marks; starts = starts; ends = ends; tasks = tasks }

-- the lists that are lent to a call, as it begins and as it returns: for contracts
abbrev pub lent_before : WrittenParameter → WrittenParameter → WrittenParameter → WrittenParameter → LentLists
lent_before marks starts ends tasks = lent marks.entry.now starts.entry.now ends.entry.now tasks.entry.now

abbrev pub lent_after : WrittenParameter → WrittenParameter → WrittenParameter → WrittenParameter → LentLists
lent_after marks starts ends tasks = lent marks.exit.now starts.exit.now ends.exit.now tasks.exit.now

-- lists that are just long enough for n tasks
abbrev pub lists_for : ℕ → LentLists
lists_for n = lent (replicate n 0) (replicate (most_runs n) 0) (replicate (most_runs n) 0) (replicate (most_runs n) 0)

-- 9: 'a lent list is too short: n marks, 2n − 1 runs'; from the lengths of the lists
unfoldable pub too_short : ℕ → ℕ → ℕ → ℕ → ℕ → Bool
too_short n marks starts ends tasks = or (ltb marks n) (or (ltb starts (most_runs n)) (or (ltb ends (most_runs n)) (ltb tasks (most_runs n))))

-- the same of lent lists
abbrev pub short_lists : ℕ → LentLists → Bool
short_lists n lists = too_short n (length lists.marks) (length lists.starts) (length lists.ends) (length lists.tasks)

-- what planning replies on n jobs: 8, then 9, then the plan
unfoldable pub reply_by : Bool → (ℕ → ℕ) → ℕ → List Job → LentLists → Planned
reply_by nested weight n jobs lists =
    pick (ltb (unmet_by nested n jobs) n) (plan_declined 8 (unmet_by nested n jobs))
    (pick (short_lists n lists) (plan_declined 9 0) (made_by nested weight jobs))

-- the lists with the marks and the runs of their plan written at the fronts
unfoldable pub written_by : Bool → (ℕ → ℕ) → ℕ → List Job → LentLists → LentLists
written_by nested weight n jobs lists =
    record {
      marks = written_front (marks_by nested weight n jobs) lists.marks;
      starts = written_front (starts_of (plan_runs_by nested weight jobs)) lists.starts;
      ends = written_front (ends_of (plan_runs_by nested weight jobs)) lists.ends;
      tasks = written_front (tasks_of (plan_runs_by nested weight jobs)) lists.tasks;
    }

-- what they hold after planning n jobs that got a reply: a refusal leaves them as they were
unfoldable pub after_by : Bool → (ℕ → ℕ) → ℕ → List Job → Planned → LentLists → LentLists
after_by nested weight n jobs reply lists = pick (eqb reply.number 0) (written_by nested weight n jobs lists) lists

-- The plan of a table at a launch tick, which is that of its jobs in the order of its kind, last first.

-- the marks: the keep list by position
unfoldable pub plan_marks : ℕ → (ℕ → ℕ) → Table → List ℕ
plan_marks launch weight t = marks_by (is_nested t) weight t.count (jobs_last_first launch t)

-- the runs, by start
unfoldable pub plan_runs : ℕ → (ℕ → ℕ) → Table → List Run
plan_runs launch weight t = plan_runs_by (is_nested t) weight (jobs_last_first launch t)

-- what planning replies on the table of an accepted file: 14, then 8 and 9, then the plan
unfoldable pub plan_table : ℕ → (ℕ → ℕ) → Table → LentLists → Planned
plan_table launch weight t lists = pick (bad_launch launch) (plan_declined 14 0) (reply_by (is_nested t) weight t.count (jobs_last_first launch t) lists)

-- the reply of planning what was read of a file: reading's refusals, then 14, 8 and 9
unfoldable pub plan_reply : ℕ → ReadTable → LentLists → Planned
plan_reply launch read lists = reply_on_read plan_declined (λ t. plan_table launch read.weight t lists) read

-- what the lists hold after planning a table that got a reply
unfoldable pub lists_after : ℕ → (ℕ → ℕ) → Table → Planned → LentLists → LentLists
lists_after launch weight t reply lists = after_by (is_nested t) weight t.count (jobs_last_first launch t) reply lists

-- the same of what was read
abbrev pub lists_left : ℕ → ReadTable → Planned → LentLists → LentLists
lists_left launch read reply lists = lists_after launch read.weight read.table reply lists

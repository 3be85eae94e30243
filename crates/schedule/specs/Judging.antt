-- Judging a keep list and a run list, whoever made them.
use Rattle.std.specs.Prelude.{ℕ, ◌-◌, ◌≡◌, ◌↔◌, List, [], ◌∷◌, Bool, true, false, not, leb, ltb, eqb, length, get_or}
use Rattle.base.specs.Tests.{pick, and}
use Rattle.base.specs.Lowest.{lowest, every_below}
use Rattle.base.specs.Members.{every_member}
use Rattle.clock.specs.Clock.{bad_launch}
use Rattle.table.specs.declared.Table.{Table}
use Rattle.table.specs.Tables.{task_at}
use Rattle.table.specs.Reading.{ReadTable, one_each, reply_on_read}
use Rattle.schedule.specs.declared.Job.{Job}
use Rattle.schedule.specs.declared.Judged.{Judged}
use Rattle.schedule.specs.Jobs.{job_at, jobs_of, work_of}
use Rattle.schedule.specs.Ticks.{sum_below}
use Rattle.schedule.specs.declared.Run.{Run}
use Rattle.schedule.specs.Runs.{sum_runs, Together, too_many}

-- The five conditions of a yes, for the jobs of n positions.

-- every start is below its end
abbrev pub none_empty : List Run → Bool
none_empty runs = every_member (λ run. ltb run.start run.end) runs

-- no run starts before the one listed before it ends; the first starts at tick `from` or later
unfoldable pub follow_from : ℕ → List Run → Bool
follow_from from [] = true
follow_from from (run ∷ runs) = and (leb from run.start) (follow_from run.end runs)

-- the same of a whole list: before its first run there is no end
unfoldable pub each_follows : List Run → Bool
each_follows runs = follow_from 0 runs

-- every task number is in the table
abbrev pub known_tasks : ℕ → List Run → Bool
known_tasks n runs = every_member (λ run. ltb run.task n) runs

-- a run is inside the window of a job, and every run of a list is inside its own
abbrev pub inside_window : Job → Run → Bool
inside_window job run = and (leb job.release run.start) (leb run.end job.deadline)

abbrev pub in_windows : (ℕ → Job) → List Run → Bool
in_windows job runs = every_member (λ run. inside_window (job run.task) run) runs

-- the ticks that the runs of task i total
abbrev pub total_of : List Run → ℕ → ℕ
total_of runs i = sum_runs (λ run. pick (eqb run.task i) (run.end - run.start) 0) runs

-- each task's runs total its work exactly
abbrev pub exact_totals : (ℕ → Job) → List ℕ → ℕ → List Run → Bool
exact_totals job marks n runs = every_below (λ k. eqb (total_of runs k) (work_of (job k) (get_or marks k 0))) n

-- the verdict: yes where all five hold, for the jobs of n positions, and on a table at a launch tick
unfoldable pub verdict_by_jobs : (ℕ → Job) → ℕ → List ℕ → List Run → Bool
verdict_by_jobs job n marks runs =
    and (none_empty runs) (and (each_follows runs) (and (known_tasks n runs) (and (in_windows job runs) (exact_totals job marks n runs))))

unfoldable pub verdict : ℕ → Table → List ℕ → List Run → Bool
verdict launch t marks runs = verdict_by_jobs (job_at launch t) t.count marks runs

-- what the optional parts above 0 ticks that have this mark weigh together, where `weight k` is what the one of position k weighs
unfoldable pub marked_weight : ℕ → (ℕ → ℕ) → Table → List ℕ → ℕ
marked_weight mark weight t marks =
    sum_below (λ k. pick (and (ltb 0 (task_at t k).optional) (eqb (get_or marks k 0) mark)) (weight k) 0) t.count

-- how many there are: each weighs 1
abbrev pub count_marked : ℕ → Table → List ℕ → ℕ
count_marked mark t marks = marked_weight mark one_each t marks

-- the counts that come with a yes
abbrev pub kept_count : Table → List ℕ → ℕ
kept_count t marks = count_marked 1 t marks

abbrev pub discarded_count : Table → List ℕ → ℕ
discarded_count t marks = count_marked 0 t marks

-- the first mark above 1 of n, and n where there is none
unfoldable pub first_bad_mark : List ℕ → ℕ → ℕ
first_bad_mark marks n = lowest (λ k. ltb 1 (get_or marks k 0)) n

-- the reply of a refusal, of a no, and of a yes with its counts: parts that are not named are 0
abbrev pub judge_declined : ℕ → ℕ → Judged
judge_declined number place = record { number = number; place = place; yes = false; kept = 0; discarded = 0 }

abbrev pub judge_says : Bool → ℕ → ℕ → Judged
judge_says accepts kept discarded =
    record { number = 0; place = 0; yes = accepts; kept = pick accepts kept 0; discarded = pick accepts discarded 0 }

-- what the judge replies on a table where the verdict is so: 11, the length first, then 13, then the verdict with its counts
unfoldable pub judge_by_verdict : Bool → Table → List ℕ → List Run → Judged
judge_by_verdict accepts t marks runs =
    pick (not (eqb (length marks) t.count)) (judge_declined 11 t.count)
    (pick (ltb (first_bad_mark marks t.count) t.count) (judge_declined 11 (first_bad_mark marks t.count))
    (pick (too_many runs) (judge_declined 13 0)
    (judge_says accepts (kept_count t marks) (discarded_count t marks))))

-- what it replies on the table of an accepted file at a launch tick: 14 first
unfoldable pub judge_table : ℕ → Table → List ℕ → List Run → Judged
judge_table launch t marks runs =
    pick (bad_launch launch) (judge_declined 14 0) (judge_by_verdict (verdict launch t marks runs) t marks runs)

-- the reply of judging on what was read of a file: reading's refusals, then 14, 11 and 13
unfoldable pub judge_reply : ℕ → ReadTable → List ℕ → List Run → Judged
judge_reply launch read marks runs = reply_on_read judge_declined (λ t. judge_table launch t marks runs) read

-- what demand 2 asks of a keep list and runs that the judge accepts: the runs follow one another in time, none is empty, and list and runs together
-- are a running of the table
pub record Acceptable (launch : ℕ) (t : Table) (marks : List ℕ) (runs : List Run) : Type 0 where
  pub follow : each_follows runs ≡ true
  pub nonempty : none_empty runs ≡ true
  pub together : Together (jobs_of launch t) marks runs

-- Demand 2: where the judge refuses nothing, it says yes exactly when list and runs are so
abbrev pub Sound : ℕ → ReadTable → List ℕ → List Run → Judged → Type 0
Sound launch read marks runs reply = reply.number ≡ 0 → (reply.yes ≡ true) ↔ Acceptable launch read.table marks runs

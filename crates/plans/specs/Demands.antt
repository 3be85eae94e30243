-- What demands 2 and 3 ask of a plan, in terms of the runnings of its table at a launch tick.
use Rattle.std.specs.Prelude.{ℕ, ◌≤◌, ◌≡◌, ◌↔◌, true, false, List, take}
use Rattle.clock.specs.Clock.{bad_launch}
use Rattle.table.specs.declared.Table.{Table}
use Rattle.table.specs.Answers.{Accepted}
use Rattle.table.specs.Reading.{ReadTable, one_each, table_in}
use Rattle.schedule.specs.declared.Run.{Run}
use Rattle.schedule.specs.Jobs.{jobs_of}
use Rattle.schedule.specs.Ticks.{Owner}
use Rattle.schedule.specs.Runnings.{Running, discarded_weight, discards, LeastWeight}
use Rattle.schedule.specs.Runs.{runs_of, owner_of, Together}
use Rattle.schedule.specs.Judging.{judge_reply, judge_says, marked_weight}
use Rattle.plans.specs.declared.Planned.{Planned}
use Rattle.plans.specs.Planning.{LentLists}

-- Demand 2, refusal 8: no running of the table completes all mandatory parts. Every running does by its definition, so there is none.
abbrev pub NoRunning : ℕ → Table → Type 0
NoRunning launch t = (owner : Owner) → Running (jobs_of launch t) owner → ⊥

-- Demand 3, where `weight k` is what the optional part of position k weighs: marks and runs are together a running of the table, it discards the weight `lost`,
-- no running of the table discards less, and a running discards just as much exactly when no running of the table discards less than it.
pub record OptimalBy (weight : ℕ → ℕ) (launch : ℕ) (t : Table) (marks : List ℕ) (runs : List Run) (lost : ℕ) : Type 0 where
  pub together : Together (jobs_of launch t) marks runs
  pub discarded : discarded_weight weight (jobs_of launch t) (owner_of runs) ≡ lost
  pub least : (owner : Owner) → Running (jobs_of launch t) owner → lost ≤ discarded_weight weight (jobs_of launch t) owner
  pub exactly : (owner : Owner) → Running (jobs_of launch t) owner
      → (discarded_weight weight (jobs_of launch t) owner ≡ lost) ↔ LeastWeight weight (jobs_of launch t) owner

-- the same where each weighs 1: it discards as many optional parts as reported, and no running of the table discards fewer
abbrev pub Optimal : ℕ → Table → List ℕ → List Run → ℕ → Type 0
Optimal = OptimalBy one_each

-- The demands as clauses of the plan call: on its file, its reply, and what the lent lists hold afterwards.

-- the marks and the runs that a call which replied with a plan left in the lists
abbrev pub marks_in : Table → LentLists → List ℕ
marks_in t after = take t.count after.marks

abbrev pub runs_in : Planned → LentLists → List Run
runs_in reply after = runs_of (take reply.runs after.starts) (take reply.runs after.ends) (take reply.runs after.tasks)

-- Demand 2: where no refusal of reading applies and the launch tick is accepted, 8 is sent exactly when no running of the table completes all mandatory parts
abbrev pub EightExactly : ℕ → ReadTable → Planned → Type 0
EightExactly launch read reply = read.answer ≡ Accepted → bad_launch launch ≡ false → (reply.number ≡ 8) ↔ NoRunning launch read.table

-- Demand 2: the judge accepts the plan, with the plan's counts
abbrev pub JudgeAccepts : ℕ → ReadTable → Planned → LentLists → Type 0
JudgeAccepts launch read reply after =
    reply.number ≡ 0
    → judge_reply launch read (marks_in read.table after) (runs_in reply after) ≡ judge_says true reply.kept reply.discarded

-- Demand 3, of every table that was planned: of one without weights
abbrev pub PlannedOptimal : ℕ → List ℕ → Planned → LentLists → Type 0
PlannedOptimal launch file reply after =
    reply.number ≡ 0 → Optimal launch (table_in file) (marks_in (table_in file) after) (runs_in reply after) reply.discarded

-- and of one with weights: 'demand 3 compares discarded weight, the planner's taken from its keep list and not from its reply'. The running still discards as
-- many optional parts as the reply reports.
pub record WeightOptimal (launch : ℕ) (weight : ℕ → ℕ) (t : Table) (marks : List ℕ) (runs : List Run) (reported : ℕ) : Type 0 where
  pub optimal : OptimalBy weight launch t marks runs (marked_weight 0 weight t marks)
  pub counted : discards (jobs_of launch t) (owner_of runs) ≡ reported

abbrev pub PlannedByWeight : ℕ → ReadTable → Planned → LentLists → Type 0
PlannedByWeight launch read reply after =
    reply.number ≡ 0
    → WeightOptimal launch read.weight read.table (marks_in read.table after) (runs_in reply after) reply.discarded

-- For the proofs of the samples alone: the tests of the rows, to be computed.
use Rattle.std.specs.Prelude.{ℕ, Bool, true, false, List, [], ◌∷◌, eqb, length}
use Rattle.base.specs.Lent.{written_front}
use Rattle.base.specs.Tests.{pick, and}
use Rattle.clock.specs.Clock.{release_tick, deadline_tick}
use Rattle.table.specs.declared.Task.{Task}
use Rattle.table.specs.declared.Table.{Table}
use Rattle.table.specs.declared.Written.{Written}
use Rattle.table.specs.Answers.{Answer, number_of, place_of}
use Rattle.table.specs.Tables.{task_at, task_row}
use Rattle.table.specs.Kinds.{nesting_answer}
use Rattle.table.specs.Reading.{one_each, plain_read, table_in, read_reply}
use Rattle.table.specs.Writing.{file_of, write_reply, written_over}
use Rattle.table.specs.Moving.{move_reply, moved_over}
use Rattle.schedule.specs.declared.Run.{Run}
use Rattle.schedule.specs.declared.Judged.{Judged}
use Rattle.schedule.specs.declared.Busy.{Busy}
use Rattle.schedule.specs.Ticks.{one_if}
use Rattle.schedule.specs.Jobs.{job_at}
use Rattle.schedule.specs.Runs.{starts_of, ends_of, tasks_of}
use Rattle.schedule.specs.Judging.{judge_reply}
use Rattle.schedule.specs.BusyCount.{busy_reply}
use Rattle.schedule.specs.RunCheck.{check_answer, runs_number, runs_place}
use Rattle.schedule.specs.Queries.{run_at_tick, run_from_tick, touching, stretch_of}
use Rattle.plans.specs.declared.Planned.{Planned}
use Rattle.plans.specs.Planning.{LentLists, lists_for, plan_reply, plan_marks, plan_runs, lists_left}
use Rattle.printed_plan.specs.Printing.{printed_within}
use Rattle.printed_plan.specs.ProgramInput.{plan_output, now_output}
use Rattle.samples.specs.Samples.{Sample, PlanSample, clock, plan, window, move, text, nesting}
use Rattle.samples.specs.Refusals.{
  Call,
  reads,
  writes,
  writes_over,
  moves,
  moves_over,
  plans,
  judges,
  busy_counts,
  checks,
  asks_at,
  asks_from,
  asks_touching,
  prints_plan,
  prints_now,
  prints_over,
  limits,
  found_parts,
}

-- two lists of numbers are equal
unfoldable pub numbers_equal : List ℕ → List ℕ → Bool
numbers_equal [] [] = true
numbers_equal [] (b ∷ bs) = false
numbers_equal (a ∷ as₁) [] = false
numbers_equal (a ∷ as₁) (b ∷ bs) = and (eqb a b) (numbers_equal as₁ bs)

-- two lists of runs are, by their columns
unfoldable pub runs_equal : List Run → List Run → Bool
runs_equal a b = and (numbers_equal (starts_of a) (starts_of b)) (and (numbers_equal (ends_of a) (ends_of b)) (numbers_equal (tasks_of a) (tasks_of b)))

-- two lists of tasks are, and two tables
unfoldable pub tasks_equal : List Task → List Task → Bool
tasks_equal [] [] = true
tasks_equal [] (b ∷ bs) = false
tasks_equal (a ∷ as₁) [] = false
tasks_equal (a ∷ as₁) (b ∷ bs) = and (numbers_equal (task_row a) (task_row b)) (tasks_equal as₁ bs)

abbrev pub header : Table → List ℕ
header t = t.count ∷ t.p ∷ t.q ∷ []

unfoldable pub tables_equal : Table → Table → Bool
tables_equal a b = and (numbers_equal (header a) (header b)) (tasks_equal a.tasks b.tasks)

-- two sets of lent lists are, list by list
unfoldable pub lists_equal : LentLists → LentLists → Bool
lists_equal a b =
    and (and (numbers_equal a.marks b.marks) (numbers_equal a.starts b.starts))
    (and (numbers_equal a.ends b.ends) (numbers_equal a.tasks b.tasks))

-- the parts of a reply: planning's, writing's and moving's, judging's, the busy count's
abbrev pub plan_parts : Planned → List ℕ
plan_parts r = r.number ∷ r.place ∷ r.kept ∷ r.discarded ∷ r.runs ∷ []

abbrev pub written_parts : Written → List ℕ
written_parts r = r.number ∷ r.place ∷ r.bytes ∷ []

abbrev pub judged_parts : Judged → List ℕ
judged_parts r = r.number ∷ r.place ∷ one_if r.yes ∷ r.kept ∷ r.discarded ∷ []

abbrev pub busy_parts : Busy → List ℕ
busy_parts r = r.number ∷ r.place ∷ r.ticks ∷ []

-- a file holds a table, and is the file of it
unfoldable pub file_met : List ℕ → Table → Bool
file_met file t = and (tables_equal (table_in file) t) (numbers_equal (file_of t) file)

-- the marks and the runs of a plan, where one is expected
abbrev pub made_met : PlanSample → Bool
made_met s =
    pick (eqb s.reply.number 0)
    (and (numbers_equal (plan_marks s.launch one_each s.table) s.marks) (runs_equal (plan_runs s.launch one_each s.table) s.runs))
    true

-- the file, the reply of planning, and the plan
unfoldable pub plan_met : PlanSample → Bool
plan_met s =
    and (file_met s.file s.table)
    (and (numbers_equal (plan_parts (plan_reply s.launch (plain_read s.file) (lists_for s.table.count))) (plan_parts s.reply)) (made_met s))

-- an answer is 7 with this place
unfoldable pub kind_met : Answer → ℕ → Bool
kind_met answer place = and (eqb (number_of answer) 7) (eqb (place_of answer) place)

-- the sample flights
unfoldable pub sample_met : Sample → Bool
sample_met (clock s) =
    and (eqb (release_tick s.launch s.p s.q s.frame) s.release) (eqb (deadline_tick s.launch s.p s.q s.frame) s.deadline)
sample_met (plan s) = plan_met s
sample_met (window s) =
    and (eqb (job_at s.launch s.table s.position).release s.release) (eqb (job_at s.launch s.table s.position).deadline s.deadline)
sample_met (move s) =
    and (file_met s.file s.table) (numbers_equal (written_parts (move_reply s.file s.shift (length s.file))) (written_parts s.reply))
sample_met (text s) = numbers_equal (plan_output s.input) s.text
sample_met (nesting s) = kind_met (nesting_answer (task_at s.table) s.table.count) s.place

-- the calls
unfoldable pub call_met : Call → Bool
call_met (reads file number place t) =
    and (eqb (number_of (read_reply file).answer) number) (and (eqb (place_of (read_reply file).answer) place) (tables_equal (read_reply file).table t))
call_met (writes t room reply) = numbers_equal (written_parts (write_reply t room)) (written_parts reply)
call_met (writes_over t out after) = numbers_equal (written_over t out) after
call_met (moves file shift room reply) = numbers_equal (written_parts (move_reply file shift room)) (written_parts reply)
call_met (moves_over file shift out after) = numbers_equal (moved_over file shift out) after
call_met (plans file launch lists reply after) =
    and (numbers_equal (plan_parts (plan_reply launch (plain_read file) lists)) (plan_parts reply)) (lists_equal (lists_left launch (plain_read file) reply lists) after)
call_met (judges file launch marks runs reply) = numbers_equal (judged_parts (judge_reply launch (plain_read file) marks runs)) (judged_parts reply)
call_met (busy_counts runs a b reply) = numbers_equal (busy_parts (busy_reply runs a b)) (busy_parts reply)
call_met (checks runs number place) = and (eqb (runs_number (check_answer runs)) number) (eqb (runs_place (check_answer runs)) place)
call_met (asks_at runs tick numbers) = numbers_equal (found_parts (run_at_tick runs tick)) numbers
call_met (asks_from runs tick numbers) = numbers_equal (found_parts (run_from_tick runs tick)) numbers
call_met (asks_touching runs a b first part) =
    and (runs_equal (touching runs a b) part) (and (eqb (stretch_of runs a b).first first) (eqb (stretch_of runs a b).runs (length part)))
call_met (prints_plan input due) = numbers_equal (plan_output input) due
call_met (prints_now input due) = numbers_equal (now_output input) due
call_met (prints_over due out bytes after) =
    let printed = printed_within (length out) due in
    and (eqb bytes (length printed)) (numbers_equal after (written_front printed out))
call_met (limits limit number) = eqb limit number

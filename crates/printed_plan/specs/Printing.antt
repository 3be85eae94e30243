-- The printed plan, as the bytes of its text: document 01, 'The printed plan'.
use Rattle.std.specs.Prelude.{ℕ, suc, ◌+◌, ◌*◌, Bool, List, [], ◌∷◌, ◌++◌, ◌≡◌, ltb, eqb, length}
use Rattle.base.specs.Limits.{max_tasks, max_plan_runs}
use Rattle.base.specs.Tests.{pick}
use Rattle.base.specs.Lent.{written_front}
use Rattle.lines.specs.Text.{line, max_field}
use Rattle.table.specs.declared.Table.{Table}
use Rattle.table.specs.Kinds.{is_nested}
use Rattle.table.specs.Reading.{one_each, plain_read, table_in}
use Rattle.schedule.specs.declared.Job.{Job}
use Rattle.schedule.specs.declared.Run.{Run}
use Rattle.orders.specs.KindOrder.{jobs_last_first}
use Rattle.plans.specs.declared.Planned.{Planned}
use Rattle.plans.specs.Planning.{marks_by, plan_runs_by, made_by, lists_for, plan_reply}

-- the words PLAN, DROP, RUN and REFUSED
abbrev pub plan_word : List ℕ
plan_word = 80 ∷ 76 ∷ 65 ∷ 78 ∷ []

abbrev pub drop_word : List ℕ
drop_word = 68 ∷ 82 ∷ 79 ∷ 80 ∷ []

abbrev pub run_word : List ℕ
run_word = 82 ∷ 85 ∷ 78 ∷ []

abbrev pub refused_word : List ℕ
refused_word = 82 ∷ 69 ∷ 70 ∷ 85 ∷ 83 ∷ 69 ∷ 68 ∷ []

-- a DROP line for each mark 0 of a keep list whose first mark is that of position k; the positions rise
unfoldable pub drops_from : ℕ → List ℕ → List ℕ
drops_from k [] = []
drops_from k (mark ∷ marks) = pick (eqb mark 0) (line drop_word (k ∷ [])) [] ++ drops_from (suc k) marks

-- the DROP lines of a keep list by position
unfoldable pub drop_lines : List ℕ → List ℕ
drop_lines marks = drops_from 0 marks

-- the numbers of a run in a line: start, end, task
abbrev pub run_numbers : Run → List ℕ
run_numbers run = run.start ∷ run.end ∷ run.task ∷ []

-- the RUN line of a run
unfoldable pub run_line : Run → List ℕ
run_line run = line run_word (run_numbers run)

-- the RUN lines of a run list
unfoldable pub run_lines : List Run → List ℕ
run_lines [] = []
run_lines (run ∷ runs) = run_line run ++ run_lines runs

-- the text of a plan: the PLAN line with tasks, kept, discarded; the DROP lines; the RUN lines
unfoldable pub plan_lines : ℕ → ℕ → ℕ → List ℕ → List Run → List ℕ
plan_lines tasks kept discarded marks runs = line plan_word (tasks ∷ kept ∷ discarded ∷ []) ++ drop_lines marks ++ run_lines runs

-- the text of a refusal: its number and place
unfoldable pub refusal_text : ℕ → ℕ → List ℕ
refusal_text number place = line refused_word (number ∷ place ∷ [])

-- the text of a reply of planning: where its number is 0 that of the plan, which is given, and else that of the refusal
unfoldable pub reply_text : Planned → List ℕ → List ℕ
reply_text reply plan = pick (eqb reply.number 0) plan (refusal_text reply.number reply.place)

-- the text of the plan of n jobs, of a nested table or of a similar one
unfoldable pub plan_text_by : Bool → ℕ → List Job → List ℕ
plan_text_by nested n jobs =
    plan_lines n (made_by nested one_each jobs).kept (made_by nested one_each jobs).discarded (marks_by nested one_each n jobs) (plan_runs_by nested one_each jobs)

-- the text of a table's plan at a launch tick
unfoldable pub plan_text : ℕ → Table → List ℕ
plan_text launch t = plan_text_by (is_nested t) t.count (jobs_last_first launch t)

-- the reply of planning a file at a launch tick, into lists that are long enough for every table
unfoldable pub long_reply : ℕ → List ℕ → Planned
long_reply launch file = plan_reply launch (plain_read file) (lists_for max_tasks)

-- the text printed of a file at a launch tick: its plan or its refusal
unfoldable pub printed : ℕ → List ℕ → List ℕ
printed launch file = reply_text (long_reply launch file) (plan_text launch (table_in file))

-- Printing a text into a lent list.

-- a bound: no line is longer than a word of 7 bytes, 3 numbers of 20 digits, each with a space, and a newline
abbrev pub max_line : ℕ
max_line = 7 + 3 * max_field + 1

-- a bound: no text is longer than the PLAN line, a DROP line for each task and a RUN line for each run, each of so many bytes
abbrev pub max_text : ℕ
max_text = (1 + max_tasks + max_plan_runs) * max_line

-- a text was printed: it stands at the front of the list, and the reply is its number of bytes
pub record Prints (text old : List ℕ) (bytes : ℕ) (new : List ℕ) : Type 0 where
  pub bytes_are : bytes ≡ length text
  pub content : new ≡ written_front text old

-- what of a text is printed into a list of `room` places: nothing where they are fewer than the bound above, and else the text
unfoldable pub printed_within : ℕ → List ℕ → List ℕ
printed_within room text = pick (ltb room max_text) [] text

-- so a text was printed into a list of any length
abbrev pub PrintsWithin : List ℕ → List ℕ → ℕ → List ℕ → Type 0
PrintsWithin text old bytes new = Prints (printed_within (length old) text) old bytes new

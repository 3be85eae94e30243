-- What runs now, what runs next: the text that is printed of a table file for a tick of its plan, as bytes.
use Rattle.std.specs.Prelude.{ℕ, ◌+◌, List, [], ◌∷◌, ◌++◌, ◌≡◌}
use Rattle.base.specs.Tests.{pick}
use Rattle.lines.specs.Text.{space, line}
use Rattle.table.specs.Reading.{one_each, table_in}
use Rattle.schedule.specs.declared.Run.{Run}
use Rattle.schedule.specs.RunCheck.{Accepted, check_answer}
use Rattle.schedule.specs.Queries.{Found, run_at_tick, run_from_tick, is_found, run_found, touching}
use Rattle.plans.specs.Planning.{plan_runs}
use Rattle.printed_plan.specs.Printing.{run_numbers, run_lines, reply_text, long_reply}

-- the words NOW and NEXT, and the word NONE with the space before it
abbrev pub now_word : List ℕ
now_word = 78 ∷ 79 ∷ 87 ∷ []

abbrev pub next_word : List ℕ
next_word = 78 ∷ 69 ∷ 88 ∷ 84 ∷ []

abbrev pub none_word : List ℕ
none_word = space ∷ 78 ∷ 79 ∷ 78 ∷ 69 ∷ []

-- the line of a query for one run: a word with the run's start, end and task, or with NONE
unfoldable pub found_line : List ℕ → Found → List ℕ
found_line word answer =
    pick (is_found answer) (line word (run_numbers (run_found answer))) (word ++ line none_word [])

-- the text for a tick of a run list and the `span` ticks from it on: the run that holds the tick, the first run that starts at the tick or after it, and a
-- RUN line for each run that shares a tick with those
unfoldable pub now_lines : List Run → ℕ → ℕ → List ℕ
now_lines runs tick span =
    found_line now_word (run_at_tick runs tick) ++ found_line next_word (run_from_tick runs tick) ++ run_lines (touching runs tick (tick + span))

-- the text printed of a file at a launch tick, for a tick and the ticks from it on: that of its plan's runs, or its refusal
unfoldable pub now_text : ℕ → ℕ → ℕ → List ℕ → List ℕ
now_text launch tick span file = reply_text (long_reply launch file) (now_lines (plan_runs launch one_each (table_in file)) tick span)

-- where planning does not refuse the file, the check accepts the runs of its plan: so no query of them is refused, and NONE never stands for a refusal
abbrev pub PlanAccepted : ℕ → List ℕ → Type 0
PlanAccepted launch file = (long_reply launch file).number ≡ 0 → check_answer (plan_runs launch one_each (table_in file)) ≡ Accepted

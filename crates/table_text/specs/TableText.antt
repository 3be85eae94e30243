-- A table as lines of text: the table of a text, and the text of a table.
-- Line 1 has three numbers: task count, p, q. Then comes one line for each task, with four: release frame, deadline frame, mandatory ticks,
-- optional ticks. Numbers are decimal and at most 999,999,999; blanks stand between them, and may stand at either end of a line. A line ends
-- with a newline, which the last line may lack. After the last task there may be blank lines.
-- Tables of other forms have other lines for their tasks, and the rest as here: what is the same for all is said of lines with `width` numbers for a task.
use Rattle.std.specs.Prelude.{ℕ, suc, ◌+◌, ◌-◌, ◌*◌, Bool, not, List, [], ◌∷◌, ◌++◌, leb, ltb, eqb, length, get_or}
use Rattle.std.specs.Prelude.{Result, Ok, Err}
use Rattle.base.specs.Limits.{max_tasks}
use Rattle.base.specs.Tests.{pick, and, or}
use Rattle.base.specs.Lowest.{lowest}
use Rattle.base.specs.Places.{places}
use Rattle.lines.specs.Text.{newline, decimal, line, max_field}
use Rattle.lines.specs.Splitting.{lines_of, words_of, all_numbers, numbers_of}
use Rattle.table.specs.declared.Table.{Table}
use Rattle.table.specs.Tables.{table_of, task_at, task_row, task_of}
use Rattle.table_text.specs.declared.WrongLine.{WrongLine}

-- Reading a text.

-- line k of a text, from 1 on; a line beyond the last has nothing on it
unfoldable pub line_at : List ℕ → ℕ → List ℕ
line_at text k = get_or (lines_of text) (k - 1) []

-- the numbers on line k
unfoldable pub numbers_at : List ℕ → ℕ → List ℕ
numbers_at text k = numbers_of (line_at text k)

-- the task count, p and q on line 1
unfoldable pub count_in_text : List ℕ → ℕ
count_in_text text = get_or (numbers_at text 1) 0 0

unfoldable pub p_in_text : List ℕ → ℕ
p_in_text text = get_or (numbers_at text 1) 1 0

unfoldable pub q_in_text : List ℕ → ℕ
q_in_text text = get_or (numbers_at text 1) 2 0

-- the numbers of the task at position k: line k + 2 has them
abbrev pub row_in_text : List ℕ → ℕ → List ℕ
row_in_text text k = numbers_at text (k + 2)

-- how many numbers are due on line k, in a text for `count` tasks: three on line 1, `width` for each task, none after the last task
unfoldable pub due : ℕ → ℕ → ℕ → ℕ
due width k count = pick (leb k 1) 3 (pick (leb k (count + 1)) width 0)

-- a line is wrong as line k of a text for `count` tasks: a word on it is no number, or it has not as many numbers as are due
abbrev pub wrong_as : ℕ → ℕ → ℕ → List ℕ → Bool
wrong_as width k count line = or (not (all_numbers (words_of line))) (not (eqb (length (numbers_of line)) (due width k count)))

-- line k of a text is wrong
unfoldable pub line_wrong : ℕ → List ℕ → ℕ → Bool
line_wrong width text k = wrong_as width k (count_in_text text) (line_at text k)

-- how many lines are checked: those of the text, and the one after the last, which has nothing on it and is wrong where a task is missing
unfoldable pub lines_checked : List ℕ → ℕ
lines_checked text = suc (length (lines_of text))

-- how many lines stand before the first wrong one; all that are checked, where none is wrong
unfoldable pub right_lines : ℕ → List ℕ → ℕ
right_lines width text = lowest (λ k. line_wrong width text (suc k)) (lines_checked text)

-- what is found in a text: where a line is wrong, the first such line and how many numbers are due there, and else what the lines hold
abbrev pub found_in : {A : Type 0} → ℕ → (ℕ → ℕ → A) → A → List ℕ → A
found_in width wrong right text =
    pick (ltb (right_lines width text) (lines_checked text)) (wrong (suc (right_lines width text)) (due width (suc (right_lines width text)) (count_in_text text)))
    right

-- the numbers of a task's line in the text of a plain table: release frame, deadline frame, mandatory ticks, optional ticks
abbrev pub task_numbers : ℕ
task_numbers = 4

-- the table of the lines
unfoldable pub table_in_text : List ℕ → Table
table_in_text text = table_of (count_in_text text) (p_in_text text) (q_in_text text) (λ k. task_of (row_in_text text k))

-- what is found where a line is wrong: that line, and how many numbers are due there
abbrev pub wrong_line : {A : Type 0} → ℕ → ℕ → Result A WrongLine
wrong_line k d = Err (record { line = k; due = d })

-- what is found in the text of a plain table: its first wrong line, or its table
unfoldable pub parse_reply : List ℕ → Result Table WrongLine
parse_reply text = found_in task_numbers wrong_line (Ok (table_in_text text)) text

-- Printing a table.

-- a line of numbers
unfoldable pub row_line : List ℕ → List ℕ
row_line [] = newline ∷ []
row_line (first ∷ others) = line (decimal first) others

-- such lines, one after another
unfoldable pub row_lines : List (List ℕ) → List ℕ
row_lines [] = []
row_lines (row ∷ rows) = row_line row ++ row_lines rows

-- the line of a task count, p and q
unfoldable pub head_line : ℕ → ℕ → ℕ → List ℕ
head_line count p q = row_line (count ∷ p ∷ q ∷ [])

-- the text of a header and of a row of numbers for each task
unfoldable pub rows_text : ℕ → ℕ → ℕ → (ℕ → List ℕ) → List ℕ
rows_text count p q row = head_line count p q ++ row_lines (places row count)

-- the text of a table
unfoldable pub text_of_table : Table → List ℕ
text_of_table t = rows_text t.count t.p t.q (λ k. task_row (task_at t k))

-- a bound on the text of at most 64 tasks, whatever its numbers of 64 bits, and not the most that one has: no line is longer than `width` numbers of 20 digits,
-- each with a byte behind it
abbrev pub max_rows_text : ℕ → ℕ
max_rows_text width = (1 + max_tasks) * (width * max_field)

-- the bound for plain tables
abbrev pub max_table_text : ℕ
max_table_text = max_rows_text task_numbers

-- Refusals of writing, told by line.

-- a refusal of writing is about one task: 12, 6, 16 and 7 are, and 2, 5 and 9 are not
unfoldable pub about_task : ℕ → Bool
about_task number = or (eqb number 12) (or (eqb number 6) (or (eqb number 16) (eqb number 7)))

-- the line that a refusal of writing is about: line k + 2 where it is about the task at position k (a place of 64 or more is no position), and else
-- line 1
unfoldable pub refused_line : ℕ → ℕ → ℕ
refused_line number place = pick (and (about_task number) (ltb place max_tasks)) (place + 2) 1

-- Weighted tables, as request 7 has them: the table value, its file, and what reading and writing reply. 'A weighted table is a nested table whose tasks each
-- carry 4 more bits after the optional ticks, a weight of 1 to 15, so 66 bits a task.'
use Rattle.std.specs.Prelude.{ℕ, ◌+◌, ◌<◌, ◌≡◌, List, [], ◌∷◌, ◌++◌, Bool, ltb, eqb, length, get_or, Result, Ok, Err}
use Rattle.base.specs.Limits.{max_tasks, max_weight}
use Rattle.base.specs.Tests.{pick, or}
use Rattle.base.specs.Places.{places}
use Rattle.base.specs.Lent.{content_after}
use Rattle.bits.specs.Rows.{row_width, fields_from}
use Rattle.table.specs.declared.Refusal.{Refusal}
use Rattle.table.specs.declared.Refusal.TheVariants.{Weight}
use Rattle.table.specs.declared.Written.{Written}
use Rattle.table.specs.Tables.{task_at, table_of, task_row, task_of, no_table, Same}
use Rattle.table.specs.Layout.{task_widths, row_start, rows_length}
use Rattle.table.specs.Answers.{Answer, Accepted, is_accepted, answered, first_refusal, lowest_refusal}
use Rattle.table.specs.Kinds.{nested_answer}
use Rattle.table.specs.Reading.{count_in, p_in, q_in, front_answer, ReadTable}
use Rattle.table.specs.Writing.{rows_file, first_too_wide, rows_reply}
use Rattle.weighted_file.specs.declared.Weighted.{Weighted}

-- the width of a weight in bits
abbrev pub weight_width : ℕ
weight_width = 4

-- the fields of a task and its weight: release frame, deadline frame, mandatory ticks, optional ticks, weight
abbrev pub weighted_widths : List ℕ
weighted_widths = task_widths ++ (weight_width ∷ [])

abbrev pub weighted_width : ℕ
weighted_width = row_width weighted_widths

-- the bytes that a file of so many tasks with weights needs
unfoldable pub weighted_length : ℕ → ℕ
weighted_length count = rows_length weighted_width count

-- the most bytes of a weighted file: those of 64 tasks
abbrev pub max_weighted_file : ℕ
max_weighted_file = weighted_length max_tasks

-- how many bytes a program reads of a weighted file: one more than the longest has. What reading answers follows from them (`read_prefix`).
abbrev pub weighted_bytes_read : ℕ
weighted_bytes_read = max_weighted_file + 1

-- the weight at a position
unfoldable pub weight_at : Weighted → ℕ → ℕ
weight_at w k = get_or w.weights k 0

-- two weighted tables are the same when their tables are and the weights up to the count agree
pub record SameWeighted (a b : Weighted) : Type 0 where
  pub table : Same a.table b.table
  pub weights : (k : ℕ) → k < a.table.count → weight_at a k ≡ weight_at b k

-- the weighted table of a header and a row of five numbers for each task; the places beyond its count are 0
unfoldable pub weighted_of : ℕ → ℕ → ℕ → (ℕ → List ℕ) → Weighted
weighted_of count p q row =
    record { table = table_of count p q (λ k. task_of (row k)); weights = places (λ k. pick (ltb k count) (get_or (row k) 4 0) 0) max_tasks }

-- the weighted table that is 0 throughout
unfoldable pub no_weighted : Weighted
no_weighted = record { table = no_table; weights = places (λ k. 0) max_tasks }

-- the row at a position: the numbers of the task, and after the optional ticks the weight
abbrev pub weighted_row : Weighted → ℕ → List ℕ
weighted_row w k = task_row (task_at w.table k) ++ (weight_at w k ∷ [])

-- the file of a weighted table: a row for each task up to the count
unfoldable pub file_of_weighted : Weighted → List ℕ
file_of_weighted w = rows_file weighted_widths w.table.count w.table.p w.table.q (weighted_row w)

-- the weighted table that a file holds
unfoldable pub weighted_in : List ℕ → Weighted
weighted_in s = weighted_of (count_in s) (p_in s) (q_in s) (λ k. fields_from weighted_widths s (row_start weighted_width k))

-- 'a weight is 0 or, in writing, above 15': a weight of 4 bits is never above
unfoldable pub bad_weight : ℕ → Bool
bad_weight weight = or (eqb weight 0) (ltb max_weight weight)

-- 16 for the lowest position with such a weight
unfoldable pub weight_answer : Weighted → Answer
weight_answer w = lowest_refusal Weight (λ k. bad_weight (weight_at w k)) w.table.count

-- what the windows and the weights answer, 16 'after 6 and before 7': 6, 16, 7 as document 01 has it
unfoldable pub weighted_rules : Weighted → Answer
weighted_rules w = nested_answer (weight_answer w) (task_at w.table) w.table.count

-- the answer of reading: the refusals that need no row, 1 for under 4 bytes, 2, 1, 3, 4, 5, and where there is none 6, 16, 7
unfoldable pub weighted_answer : List ℕ → Answer
weighted_answer s = first_refusal (front_answer weighted_width s) (weighted_rules (weighted_in s))

-- what reading returns: the weighted table that the file holds, or the refusal
unfoldable pub weighted_read_result : List ℕ → Result Weighted Refusal
weighted_read_result s = answered (weighted_answer s) (weighted_in s)

-- the reply of reading as C has it, which has a weighted table beside each answer
pub record WeightedReading : Type 0 where
  pub answer : Answer
  pub weighted : Weighted

-- the reply by what reading returns: beside a refusal the weighted table is 0 throughout
abbrev pub weighted_reading_of : Result Weighted Refusal → WeightedReading
weighted_reading_of (Ok weighted) = record { answer = Accepted; weighted = weighted }
weighted_reading_of (Err refusal) = record { answer = Err refusal; weighted = no_weighted }

-- a refused reading replies with a weighted table that is 0 throughout
unfoldable pub weighted_read_reply : List ℕ → WeightedReading
weighted_read_reply s = record { answer = weighted_answer s; weighted = pick (is_accepted (weighted_answer s)) (weighted_in s) no_weighted }

-- the reply of writing into a list of `room` bytes: 2, 5, 12, 6, 16, 7, 9; '12 does not look at weights'
unfoldable pub weighted_write_reply : Weighted → ℕ → Written
weighted_write_reply w room =
    rows_reply w.table.count w.table.p w.table.q (first_too_wide w.table) (weighted_rules w) (weighted_length w.table.count) room

-- what a lent list holds after writing
unfoldable pub weighted_written_over : Weighted → List ℕ → List ℕ
weighted_written_over w out = content_after (weighted_write_reply w (length out)).number (file_of_weighted w) out

-- what planning and judging take from a weighted file: what reading answers, the table, and the weights by position
abbrev pub weighted_read : List ℕ → ReadTable
weighted_read s = record { answer = weighted_answer s; table = (weighted_in s).table; weight = weight_at (weighted_in s) }

-- For the proofs of reading's and planner's code alone: reading of a table of any kind, with every refusal but 7.
use Rattle.std.specs.Prelude.{ℕ, List, Result, Ok, Err}
use Rattle.table.specs.declared.Table.{Table}
use Rattle.table.specs.declared.Refusal.{Refusal}
use Rattle.table.specs.Tables.{task_at}
use Rattle.table.specs.Answers.{Answer, answered, first_refusal}
use Rattle.table.specs.Kinds.{bad_window_answer}
use Rattle.table.specs.Reading.{table_in, head_answer}
use Rattle.reading.specs.declared.AnyKind.{AnyKind}

-- what reading returns without a look at the windows: the table that the file holds, or a refusal that needs no task
unfoldable pub rows_result : List ℕ → Result Table Refusal
rows_result s = answered (head_answer s) (table_in s)

-- the refusals that need no task, and where there is none 6
unfoldable pub any_kind_answer : List ℕ → Answer
any_kind_answer s = first_refusal (head_answer s) (bad_window_answer (task_at (table_in s)) (table_in s).count)

-- the reply: a refusal that needs no task, or the table that the file holds, which stands beside 6 too
unfoldable pub any_kind_reply : List ℕ → Result AnyKind Refusal
any_kind_reply s =
    answered (head_answer s) (record { table = table_in s; windows = bad_window_answer (task_at (table_in s)) (table_in s).count })

-- the answer that such a reply tells
abbrev pub any_kind_told : Result AnyKind Refusal → Answer
any_kind_told (Ok read) = read.windows
any_kind_told (Err refusal) = Err refusal

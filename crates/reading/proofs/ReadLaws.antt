-- From what the parts of reading answer to the reply of the whole.
use Prim.Native.Nat.{ℕ, ◌*◌, ◌≤◌}
use mathlib.Core.Path.{◌≡◌, refl, sym, ap, ◌∙◌}
use mathlib.Core.List.{List}
use lib.Dec.{ltb}
use native.Mathlib.Omega.{arith}
use lib.ListN.{length}
use Rattle.std.specs.Prelude.{Result, Ok, Err}
use Rattle.base.specs.Limits.{max_tasks}
use Rattle.base.specs.Tests.{pick}
use Rattle.base.specs.Places.{places}
use Rattle.bits.specs.Bits.{bytes_for}
use Rattle.table.specs.declared.Task.{Task}
use Rattle.table.specs.declared.Table.{Table}
use Rattle.table.specs.declared.Refusal.{Refusal}
use Rattle.table.specs.declared.windows.Windows.{Windows}
use Rattle.table.specs.Tables.{no_task, no_table, task_at, table_of}
use Rattle.table.specs.Answers.{Answer, Accepted, is_accepted, answered}
use Rattle.table.specs.Layout.{header_width, task_width, row_start, task_start}
use Rattle.table.specs.Kinds.{windows_answer, table_windows_answer}
use Rattle.table.specs.WindowColumns.{windows_of, Holds}
use Rattle.table.proofs.AnswerLaws.{first_refusal-known}
use Rattle.table.proofs.RowFiles.{count_known, front_known}
use Rattle.table.proofs.TableLaws.{task_at-below}
use Rattle.table.proofs.WindowLaws.{held_answer}
use Rattle.table.specs.Reading.{count_in, p_in, q_in, task_in, table_in, front_answer, head_answer, read_answer, read_result, Reading, reading_of, read_reply}

-- the header's numbers and the tasks that were taken make the table of the file
pub table_taken : (s : List ℕ) (count : ℕ) (t : Table) → count ≡ count_in s → t.count ≡ count → t.p ≡ p_in s → t.q ≡ q_in s
    → t.tasks ≡ places (λ k. pick (ltb k count) (task_in s k) no_task) max_tasks → t ≡ table_in s
unfolding table_in table_of
table_taken s count t c d e f tasks = λ i. record { count = (d ∙ c) i; p = e i; q = f i; tasks = (tasks ∙ ap (λ n. places (λ k. pick (ltb k n) (task_in s k) no_task) max_tasks) c) i }

-- the windows of the tasks that were taken are those of the file's table
pub windows_taken : (s : List ℕ) (windows : Windows) (count : ℕ) → count_in s ≤ max_tasks → count ≡ count_in s → Holds windows (task_in s) count
    → windows_answer (windows_of windows) windows.count ≡ table_windows_answer (table_in s)
unfolding table_in table_of
windows_taken s windows count few c held =
    held_answer windows (table_in s) (record {
      count_is = held.count_is ∙ c;
      frames = λ k l.
          let same : task_in s k ≡ task_at (table_in s) k = sym (task_at-below (count_in s) (p_in s) (q_in s) (task_in s) k few l) in
          let old = held.frames k (omega arith) in
          (old.0 ∙ ap (λ (task : Task). task.release) same, old.1 ∙ ap (λ (task : Task). task.deadline) same);
    })

-- where nothing is refused that needs no row, the count is in range, and the file has the bits of its rows
pub front_few : (width : ℕ) (s : List ℕ) → front_answer width s ≡ Accepted → (count_in s ≤ max_tasks) × (row_start width (count_in s) ≤ 8 * length s)
unfolding bytes_for
front_few width s e =
    let facts = front_known width s e in
    ((count_known (count_in s) facts.counted).1, omega arith)

-- so it has the bits of a header
pub front_bits : (width : ℕ) (s : List ℕ) → front_answer width s ≡ Accepted → header_width ≤ 8 * length s
front_bits width s e = omega (arith, (front_few width s e).1)

-- the same of rows that are tasks
pub head_few : (s : List ℕ) → head_answer s ≡ Accepted → (count_in s ≤ max_tasks) × (task_start (count_in s) ≤ 8 * length s)
unfolding head_answer task_start
head_few s e = front_few task_width s e

pub head_bits_lem : (s : List ℕ) → head_answer s ≡ Accepted → header_width ≤ 8 * length s
unfolding head_answer
head_bits_lem s e = front_bits task_width s e

-- past an accepted header the windows give the answer
pub head_accepted : (s : List ℕ) → head_answer s ≡ Accepted → table_windows_answer (table_in s) ≡ read_answer s
unfolding read_answer
head_accepted s e = rw e

-- an accepted file has an accepted header
pub read_head : (s : List ℕ) → read_answer s ≡ Accepted → head_answer s ≡ Accepted
unfolding read_answer
read_head s e = (first_refusal-known (head_answer s) (table_windows_answer (table_in s)) e).0

-- what is returned comes to the reply that has a table beside each answer
answered_reply : (a : Answer) (t : Table) → ◌≡◌ {A = Reading} (reading_of (answered a t)) (record { answer = a; table = pick (is_accepted a) t no_table })
answered_reply (Ok accepted) t = refl
answered_reply (Err refusal) t = refl

pub result_reply : (s : List ℕ) (r : Result Table Refusal) → r ≡ read_result s → reading_of r ≡ read_reply s
unfolding read_result read_reply
result_reply s r e = ap reading_of e ∙ answered_reply (read_answer s) (table_in s)

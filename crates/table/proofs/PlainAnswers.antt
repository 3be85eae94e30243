-- What reading of a table as document 01 has it never answers: a refusal of another form of table.
use Prim.Native.Nat.{ℕ, ◌≤◌}
use mathlib.Core.Path.{ap}
use mathlib.Core.Logic.{◌≢◌}
use mathlib.Core.Bool.{Bool}
use mathlib.Core.List.{List}
use native.Mathlib.Omega.{arith}
use lib.Dec.{ltb}
use lib.ListN.{length}
use Rattle.std.specs.Prelude.{Err}
use Rattle.base.specs.Limits.{bad_period}
use Rattle.base.specs.Lowest.{lowest}
use Rattle.base.proofs.TestLaws.{pick_cases}
use Rattle.table.specs.declared.Task.{Task}
use Rattle.table.specs.declared.Refusal.{Refusal}
use Rattle.table.specs.declared.Refusal.TheVariants.{Window, Kind, Weight}
use Rattle.table.specs.Tables.{task_at}
use Rattle.table.specs.Layout.{task_width, rows_length, bad_count}
use Rattle.table.specs.Answers.{Answer, number_of, is_accepted, first_refusal, lowest_refusal}
use Rattle.table.specs.Windows.{bad_window}
use Rattle.table.specs.Kinds.{of_neither_kind, bad_window_answer, kind_answer, windows_answer, table_windows_answer}
use Rattle.table.specs.Reading.{count_in, p_in, q_in, padding_set, front_answer, table_in, head_answer, read_answer}

-- an answer that is no refusal, or one of those that document 01 names for reading: 1 to 7
abbrev Plain : Answer → Type 0
Plain answer = number_of answer ≤ 7

-- two such answers come to one
first_plain : (a b : Answer) → Plain a → Plain b → Plain (first_refusal a b)
first_plain a b p q = pick_cases Plain (is_accepted a) (λ e. q) (λ e. p)

-- so does a search for the position of one
lowest_plain : (refusal : ℕ → Refusal) → ((k : ℕ) → Plain (Err (refusal k))) → (test : ℕ → Bool) (n : ℕ) → Plain (lowest_refusal refusal test n)
lowest_plain refusal p test n = pick_cases Plain (ltb (lowest test n) n) (λ e. p (lowest test n)) (λ e. omega arith)

-- the refusals that need no row are such
front_plain : (width : ℕ) (s : List ℕ) → Plain (front_answer width s)
unfolding front_answer
front_plain width s =
    let needed = rows_length width (count_in s) in
    pick_cases Plain (ltb (length s) 4) (λ e. omega arith) (λ e.
    pick_cases Plain (bad_count (count_in s)) (λ e. omega arith) (λ e.
    pick_cases Plain (ltb (length s) needed) (λ e. omega arith) (λ e.
    pick_cases Plain (ltb needed (length s)) (λ e. omega arith) (λ e.
    pick_cases Plain (padding_set width s (count_in s)) (λ e. omega arith) (λ e.
    pick_cases Plain (bad_period (p_in s) (q_in s)) (λ e. omega arith) (λ e. omega arith))))))

-- and so are those of windows
windows_plain : (at : ℕ → Task) (n : ℕ) → Plain (windows_answer at n)
unfolding windows_answer bad_window_answer kind_answer
windows_plain at n =
    first_plain (bad_window_answer at n) (kind_answer at n)
    (lowest_plain Window (λ k. omega arith) (λ k. bad_window (at k)) n)
    (lowest_plain Kind (λ k. omega arith) (of_neither_kind at) n)

-- So reading never answers 16.
pub plain_never_weight : (s : List ℕ) (position : ℕ) → read_answer s ≢ Err (Weight position)
unfolding read_answer head_answer table_windows_answer
plain_never_weight s position e =
    let small = first_plain (head_answer s) (table_windows_answer (table_in s)) (front_plain task_width s) (windows_plain (task_at (table_in s)) (table_in s).count) in
    omega (arith, small, ap number_of e)

-- The kinds of tables, and the rules for windows that reading and writing share: 6, then 7. Tasks are given by position: `at k` is the task at k.
use Rattle.std.specs.Prelude.{ℕ, suc, Bool, not}
use Rattle.base.specs.Tests.{and}
use Rattle.base.specs.Lowest.{some_below}
use Rattle.table.specs.declared.Task.{Task}
use Rattle.table.specs.declared.Table.{Table}
use Rattle.table.specs.declared.Refusal.TheVariants.{Window, Kind}
use Rattle.table.specs.Tables.{task_at}
use Rattle.table.specs.Answers.{Answer, first_refusal, lowest_refusal}
use Rattle.table.specs.Windows.{bad_window, nested, similar}

-- the task at position k fails a test of pairs with some earlier one
unfoldable pub fails_earlier : (Task → Task → Bool) → (ℕ → Task) → ℕ → Bool
fails_earlier pair at k = some_below (λ j. not (pair (at j) (at k))) k

-- any two of the first n tasks pass it
unfoldable pub pairwise : (Task → Task → Bool) → (ℕ → Task) → ℕ → Bool
pairwise pair at n = not (some_below (fails_earlier pair at) n)

-- A table is nested when any two of its windows are,
unfoldable pub is_nested : Table → Bool
is_nested t = pairwise nested (task_at t) t.count

-- and similar 'if of any two tasks the one released earlier has no later deadline'. A table of both kinds is treated as nested.
unfoldable pub is_similar : Table → Bool
is_similar t = pairwise similar (task_at t) t.count

-- 'the table cut after' position k 'is of neither kind'
unfoldable pub of_neither_kind : (ℕ → Task) → ℕ → Bool
of_neither_kind at k = and (not (pairwise nested at (suc k))) (not (pairwise similar at (suc k)))

-- 6 for the lowest position below n whose window is bad
unfoldable pub bad_window_answer : (ℕ → Task) → ℕ → Answer
bad_window_answer at n = lowest_refusal Window (λ k. bad_window (at k)) n

-- 7 for 'the lowest position such that the table cut after it is of neither kind'
unfoldable pub kind_answer : (ℕ → Task) → ℕ → Answer
kind_answer at n = lowest_refusal Kind (of_neither_kind at) n

-- what the windows of the first n tasks answer: 6, and else 7
unfoldable pub windows_answer : (ℕ → Task) → ℕ → Answer
windows_answer at n = first_refusal (bad_window_answer at n) (kind_answer at n)

-- what the windows of a table answer
unfoldable pub table_windows_answer : Table → Answer
table_windows_answer t = windows_answer (task_at t) t.count

-- 7 as document 01 has it, for forms of table that are nested alone: the lowest position that is not nested with some earlier one
unfoldable pub nesting_answer : (ℕ → Task) → ℕ → Answer
nesting_answer at n = lowest_refusal Kind (fails_earlier nested at) n

-- what the tasks of such a form answer: 6, then a rule of the form's own, then 7
unfoldable pub nested_answer : Answer → (ℕ → Task) → ℕ → Answer
nested_answer own at n = first_refusal (bad_window_answer at n) (first_refusal own (nesting_answer at n))

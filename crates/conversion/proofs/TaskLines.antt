-- Laws of a table's lines: what is left of them at a place of the table, and the numbers of a line.
use Prim.Native.Nat.{ℕ, zero, suc, ◌+◌, ◌-◌, ◌≤◌, ◌<◌}
use mathlib.Core.Path.{◌≡◌, sym, ap}
use mathlib.Core.List.{List, [], ◌∷◌, ◌++◌}
use native.Mathlib.Omega.{arith}
use lib.ListN.{take}
use Rattle.base.specs.Places.{places_from, places}
use Rattle.base.proofs.PlaceLaws.{left_start, left_step, left_end}
use Rattle.table_text.specs.TableText.{row_line, row_lines}

-- the first numbers of a row, and those behind the first of them
pub take_behind : (width first : ℕ) (others : List ℕ) → 0 < width → take width (first ∷ others) ≡ first ∷ take (width - 1) others
take_behind zero first others h = absurd (omega arith)
take_behind (suc n) first others h = let e : suc n - 1 ≡ n = omega arith in rw e

module _ (row : ℕ → List ℕ) (count : ℕ) where
  -- the lines of the tasks from position k on
  unfoldable pub tasks_left : ℕ → List ℕ
  tasks_left k = row_lines (places_from row k (count - k))

  pub tasks_start : row_lines (places row count) ≡ tasks_left 0
  unfolding tasks_left
  tasks_start = ap row_lines (sym (left_start row count))

  pub tasks_step : (k : ℕ) → k < count → tasks_left k ≡ row_line (row k) ++ tasks_left (k + 1)
  unfolding tasks_left row_lines
  tasks_step k h = rw (left_step row count k h)

  pub tasks_end : (k : ℕ) → count ≤ k → tasks_left k ≡ []
  unfolding tasks_left row_lines
  tasks_end k h = rw (left_end row count k h)

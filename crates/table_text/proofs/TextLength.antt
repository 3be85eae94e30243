-- The length of a table's text.
use Prim.Native.Nat.{ℕ, ◌*◌, ◌≤◌, ◌<◌}
use mathlib.Core.Path.{◌≡◌, refl}
use mathlib.Core.List.{List, [], ◌∷◌}
use native.Mathlib.Omega.{arith}
use native.Mathlib.Nat.{mul-le-mul_right}
use lib.ListN.{length, length-append}
use Rattle.base.specs.Limits.{max_tasks}
use Rattle.base.specs.Members.{All}
use Rattle.base.specs.Places.{places}
use Rattle.base.proofs.MemberLaws.{all_places}
use Rattle.base.proofs.PlaceLaws.{places_length}
use Rattle.lines.specs.Text.{decimal}
use Rattle.lines.proofs.DecimalLaws.{decimal_length}
use Rattle.lines.proofs.LineLaws.{line_few}
use Rattle.table.specs.declared.Table.{Table}
use Rattle.table.specs.Tables.{task_at, task_row}
use Rattle.table_text.specs.TableText.{row_line, row_lines, head_line, rows_text, max_rows_text, text_of_table, max_table_text}
use Rattle.table_text.specs.WeightedText.{weighted_text, max_weighted_text}
use Rattle.weighted_file.specs.declared.Weighted.{Weighted}
use Rattle.weighted_file.specs.Weights.{weighted_row}

-- the numbers of a line take at most 21 bytes each
row_few : (row : List ℕ) → 0 < length row → length (row_line row) ≤ 21 * length row
unfolding row_line
row_few [] h = absurd (omega arith)
row_few (first ∷ others) h = omega (arith, line_few (decimal first) others, decimal_length first)

module _ (width : ℕ) (some : 3 ≤ width) where
  -- so a row of `width` takes at most 21 times as many
  rows_few : (rows : List (List ℕ)) → All (λ (row : List ℕ). length row ≡ width) rows → length (row_lines rows) ≤ length rows * (21 * width)
  unfolding row_lines
  rows_few [] h = omega arith
  rows_few (row ∷ rows) h =
      omega (arith, length-append (row_line row) (row_lines rows), row_few row (omega (arith, h.0)), h.0, rows_few rows h.1)

  -- The text of at most 64 rows has at most so many bytes.
  pub rows_text_length : (count p q : ℕ) (row : ℕ → List ℕ) → count ≤ max_tasks → ((k : ℕ) → k < count → length (row k) ≡ width)
      → length (rows_text count p q row) ≤ max_rows_text width
  unfolding rows_text head_line
  rows_text_length count p q row h wide =
      let rows : length (row_lines (places row count)) ≤ count * (21 * width) =
      rw (places_length row count) at (rows_few (places row count) ((all_places (λ (r : List ℕ). length r ≡ width) row count).1 wide)) in
      omega (
        arith,
        length-append (head_line count p q) (row_lines (places row count)),
        row_few (count ∷ p ∷ q ∷ []) (omega arith),
        rows,
        mul-le-mul_right (21 * width) h,
      )

-- So of a plain table,
pub table_text_length : (t : Table) → t.count ≤ max_tasks → length (text_of_table t) ≤ max_table_text
unfolding text_of_table
table_text_length t h = rows_text_length 4 (omega arith) t.count t.p t.q (λ k. task_row (task_at t k)) h (λ k l. refl)

-- and of a weighted one.
pub weighted_text_length : (w : Weighted) → w.table.count ≤ max_tasks → length (weighted_text w) ≤ max_weighted_text
unfolding weighted_text
weighted_text_length w h = rows_text_length 5 (omega arith) w.table.count w.table.p w.table.q (weighted_row w) h (λ k l. refl)

-- A table that is printed and parsed again is the same table, and so a file by way of its text is the same file.
use Prim.Native.Nat.{ℕ, zero, suc, ◌+◌, ◌-◌, ◌^◌, ◌≤◌, ◌<◌}
use mathlib.Core.Path.{◌≡◌, refl, ap, ◌∙◌}
use mathlib.Core.Bool.{true, false}
use mathlib.Core.List.{List, [], ◌∷◌, ◌++◌, map}
use native.Mathlib.Omega.{arith}
use native.Mathlib.Decide.{dec_lt}
use native.Mathlib.Nat.{pow-le-pow_right}
use lib.ListN.{length, get_or, get_or-eq_default}
use borrow.Author.Tests.{le-ltb, le-leb, lt-leb, eq-eqb}
use Rattle.std.specs.Prelude.{Ok, IsOkAnd}
use Rattle.base.specs.Members.{All, every_member}
use Rattle.base.specs.Places.{places}
use Rattle.base.proofs.LowestLaws.{none_passes}
use Rattle.base.proofs.ListLaws.{map_places}
use Rattle.base.proofs.MemberLaws.{all_places}
use Rattle.base.proofs.PlaceLaws.{places_at, places_length}
use Rattle.base.proofs.PeriodLaws.{period_known}
use Rattle.bits.specs.Bits.{Bytes}
use Rattle.lines.specs.Splitting.{cut_at, nonempty, lines_of, words_of, all_numbers, numbers_of}
use Rattle.lines.proofs.SplitLaws.{last_at}
use Rattle.lines.proofs.LineSplit.{Small, content, content_right, content_numbers, line_cut}
use Rattle.bits.proofs.RowLaws.{RowFits}
use Rattle.table.specs.declared.Table.{Table}
use Rattle.table.specs.Answers.{Accepted}
use Rattle.table.specs.Tables.{task_at, table_of, Same}
use Rattle.table.specs.Layout.{task_widths, task_start}
use Rattle.table.specs.Reading.{count_in, p_in, q_in, task_from, task_in, table_in, head_answer, read_answer}
use Rattle.table.specs.Writing.{Legal}
use Rattle.table.proofs.TableLaws.{table_of-tasks}
use Rattle.table.proofs.FileLaws.{legal_count}
use Rattle.table.proofs.RowFiles.{row_in, count_known}
use Rattle.table.proofs.RowTables as forms
use Rattle.table.proofs.RowTables.{Form}
use Rattle.table.proofs.RoundTrip.{tables, read_again}
use Rattle.weighted_file.specs.Weights.{weighted_widths, weighted_in, weighted_answer}
use Rattle.weighted_file.proofs.WeightLaws as weights
use Rattle.weighted_file.proofs.WeightLaws.{weighted}
use Rattle.table_text.specs.TableText.{
  line_at,
  numbers_at,
  count_in_text,
  p_in_text,
  q_in_text,
  row_in_text,
  due,
  line_wrong,
  lines_checked,
  right_lines,
  found_in,
  table_in_text,
  wrong_line,
  parse_reply,
  row_line,
  row_lines,
  head_line,
  rows_text,
  text_of_table,
}
use Rattle.table_text.specs.WeightedText.{weighted_in_text, weighted_parse_reply, weighted_text}
use Rattle.table_text.specs.Conversions.{RestoresFile, RestoresWeighted}

-- a line of numbers without its newline
abbrev row_content : List ℕ → List ℕ
row_content [] = []
row_content (first ∷ others) = content first others

-- A line of numbers that may stand there is cut off from what stands behind it,
row_cut : (row rest : List ℕ) → Small row → lines_of (row_line row ++ rest) ≡ row_content row ∷ lines_of rest
unfolding row_line lines_of cut_at
row_cut [] rest h = refl
row_cut (first ∷ others) rest h = line_cut first others rest h

-- its words are numbers,
row_right : (row : List ℕ) → Small row → all_numbers (words_of (row_content row)) ≡ true
unfolding words_of nonempty cut_at every_member
row_right [] h = refl
row_right (first ∷ others) h = content_right first others h

-- and these are its numbers.
row_numbers : (row : List ℕ) → Small row → numbers_of (row_content row) ≡ row
unfolding numbers_of words_of nonempty cut_at
row_numbers [] h = refl
row_numbers (first ∷ others) h = content_numbers first others h

-- the lines of rows, and then what stands behind the last newline
rows_cut : (rows : List (List ℕ)) → All Small rows → lines_of (row_lines rows) ≡ map row_content rows ++ [] ∷ []
unfolding row_lines lines_of cut_at
rows_cut [] h = refl
rows_cut (row ∷ rows) h = row_cut row (row_lines rows) h.0 ∙ ap (λ (lines : List (List ℕ)). row_content row ∷ lines) (rows_cut rows h.1)

-- a line that has numbers alone, and as many as are due, is right
line_right : (width : ℕ) (text : List ℕ) (k : ℕ) (line numbers : List ℕ) → line_at text k ≡ line → all_numbers (words_of line) ≡ true → numbers_of line ≡ numbers
    → length numbers ≡ due width k (count_in_text text) → line_wrong width text k ≡ false
unfolding line_wrong numbers_at
line_right width text k line numbers here right are few = rw (here, right, are, eq-eqb (length numbers) (due width k (count_in_text text)) few)

-- A header and rows of which every number may stand on a line.
module _ (count p q : ℕ) (row : ℕ → List ℕ) (head : Small (count ∷ p ∷ q ∷ [])) (rows : (k : ℕ) → k < count → Small (row k)) where
  -- their text
  abbrev text : List ℕ
  text = rows_text count p q row

  -- its first line, and those of its rows
  abbrev headContent : List ℕ
  headContent = content count (p ∷ q ∷ [])

  abbrev rowContents : List (List ℕ)
  rowContents = places (λ k. row_content (row k)) count

  -- its lines
  text-lines : lines_of text ≡ headContent ∷ (rowContents ++ [] ∷ [])
  unfolding rows_text head_line places
  text-lines =
      row_cut (count ∷ p ∷ q ∷ []) (row_lines (places row count)) head
      ∙ ap (λ (lines : List (List ℕ)). headContent ∷ lines)
      (rows_cut (places row count) ((all_places Small row count).1 rows)
      ∙ ap (λ (lines : List (List ℕ)). lines ++ [] ∷ []) (map_places row_content row 0 count))

  -- line 1
  line-head : line_at text 1 ≡ headContent
  unfolding line_at
  line-head = rw text-lines

  -- a line after it
  line-behind : (k : ℕ) → line_at text (suc (suc k)) ≡ get_or rowContents k []
  unfolding line_at
  line-behind k =
      let e : suc (suc k) - 1 ≡ suc k = omega arith in
      rw (text-lines, e) (last_at [] rowContents k)

  -- the line of a task
  line-task : (k : ℕ) → k < count → line_at text (suc (suc k)) ≡ row_content (row k)
  line-task k h = line-behind k ∙ places_at (λ k. row_content (row k)) count k [] h

  -- a line after the last task
  line-blank : (k : ℕ) → count ≤ k → line_at text (suc (suc k)) ≡ []
  line-blank k h =
      line-behind k ∙ get_or-eq_default rowContents [] {n = k} (omega (arith, places_length (λ k. row_content (row k)) count))

  -- the numbers on line 1
  head-numbers : numbers_at text 1 ≡ count ∷ p ∷ q ∷ []
  unfolding numbers_at
  head-numbers = rw line-head (content_numbers count (p ∷ q ∷ []) head)

  -- the numbers of a task
  task-numbers : (k : ℕ) → k < count → row_in_text text k ≡ row k
  unfolding numbers_at
  task-numbers k h = let e : k + 2 ≡ suc (suc k) = omega arith in rw (e, line-task k h) (row_numbers (row k) (rows k h))

  -- so the task count, p and q are those printed
  head-is : (count_in_text text ≡ count) × (p_in_text text ≡ p) × (q_in_text text ≡ q)
  unfolding count_in_text p_in_text q_in_text
  head-is = (rw head-numbers, rw head-numbers, rw head-numbers)

  -- Where each row has `width` numbers, no line is wrong,
  module _ (width : ℕ) (wide : (k : ℕ) → k < count → length (row k) ≡ width) where
    lines-right : (k : ℕ) → line_wrong width text (suc k) ≡ false
    unfolding due words_of numbers_of nonempty cut_at every_member
    lines-right zero = line_right width text 1 _ _ line-head (content_right count (p ∷ q ∷ []) head) (content_numbers count (p ∷ q ∷ []) head) refl
    lines-right (suc k) =
        elim (dec_lt k count) [
          | yes h ↦
              line_right width text (suc (suc k)) _ _ (line-task k h) (row_right (row k) (rows k h)) (row_numbers (row k) (rows k h))
              (rw (head-is.0, lt-leb (suc (suc k)) 1 (omega arith), le-leb (suc (suc k)) (count + 1) (omega arith)) (wide k h))
          | no h ↦
              line_right width text (suc (suc k)) [] [] (line-blank k (omega arith)) refl refl
              (rw (head-is.0, lt-leb (suc (suc k)) 1 (omega arith), lt-leb (suc (suc k)) (count + 1) (omega arith)))
        ]

    -- and what is found is what the lines hold.
    pub text-right : {A : Type 0} (wrong : ℕ → ℕ → A) (right : A) → found_in width wrong right text ≡ right
    unfolding right_lines
    text-right wrong right =
        let checked = lines_checked text in
        rw (none_passes (λ k. line_wrong width text (suc k)) checked (λ k h. lines-right k), le-ltb checked checked (omega arith))

-- A row that fits fields of at most 29 bits has numbers that may stand on a line,
fits_small : (widths row : List ℕ) → All (λ w. w ≤ 29) widths → RowFits widths row → Small row
fits_small [] [] n f = tt
fits_small [] (v ∷ vs) n f = absurd f
fits_small (w ∷ ws) [] n f = absurd f
fits_small (w ∷ ws) (v ∷ vs) n f =
    let most : 2 ^ w ≤ 2 ^ 29 = pow-le-pow_right (omega arith) n.0 in
    (omega (arith, most, f.0), fits_small ws vs n.1 f.1)

-- and as many as there are fields.
fits_length : (widths row : List ℕ) → RowFits widths row → length row ≡ length widths
fits_length [] [] f = refl
fits_length [] (v ∷ vs) f = absurd f
fits_length (w ∷ ws) [] f = absurd f
fits_length (w ∷ ws) (v ∷ vs) f = rw (fits_length ws vs f.1)

-- A form of table whose fields have at most 29 bits.
module _ {Value : Type 0} (K : Form Value) (narrow : All (λ w. w ≤ 29) K.widths) where
  -- the text of a value, and the value that a text holds
  abbrev valueText : Value → List ℕ
  valueText v = rows_text (K.table v).count (K.table v).p (K.table v).q (K.row v)

  abbrev valueInText : List ℕ → Value
  valueInText text = K.of (count_in_text text) (p_in_text text) (q_in_text text) (row_in_text text)

  module _ (v : Value) (l : forms.Lawful K v) where
    -- the numbers of its text
    head_small : Small ((K.table v).count ∷ (K.table v).p ∷ (K.table v).q ∷ [])
    head_small =
        let counted = count_known (K.table v).count l.counted in
        let timed = period_known (K.table v).p (K.table v).q l.timed in
        omega arith

    row_fits : (k : ℕ) → k < (K.table v).count → RowFits K.widths (K.row v k)
    row_fits k h = K.fits v k h (l.narrow k h) l.ruled

    rows-small : (k : ℕ) → k < (K.table v).count → Small (K.row v k)
    rows-small k h = fits_small K.widths (K.row v k) narrow (row_fits k h)

    -- The value of the lines of a lawful value is the value, up to what stands beyond the count.
    value-is : valueInText (valueText v) ≡ K.of (K.table v).count (K.table v).p (K.table v).q (K.row v)
    value-is =
        let e = head-is (K.table v).count (K.table v).p (K.table v).q (K.row v) head_small rows-small in
        let header : valueInText (valueText v) ≡ K.of (K.table v).count (K.table v).p (K.table v).q (row_in_text (valueText v)) =
        λ i. K.of (e.0 i) (e.1 i) (e.2 i) (row_in_text (valueText v)) in
        header
        ∙ K.of_same (K.table v).count (K.table v).p (K.table v).q (row_in_text (valueText v)) (K.row v)
        (task-numbers (K.table v).count (K.table v).p (K.table v).q (K.row v) head_small rows-small)

    -- That is what is found in its text.
    value-parsed : {A : Type 0} (wrong : ℕ → ℕ → A) (right : Value → A)
        → found_in (length K.widths) wrong (right (valueInText (valueText v))) (valueText v)
        ≡ right (K.of (K.table v).count (K.table v).p (K.table v).q (K.row v))
    value-parsed wrong right =
        text-right (K.table v).count (K.table v).p (K.table v).q (K.row v) head_small rows-small (length K.widths) (λ k h.
        fits_length K.widths (K.row v k) (row_fits k h)) wrong (right (valueInText (valueText v)))
        ∙ ap right value-is

  -- The value of an accepted file is given by its own rows.
  module _ (s : List ℕ) (e : forms.answer K s ≡ Accepted) where
    abbrev value : Value
    value = forms.value_in K s

    value-again : K.of (K.table value).count (K.table value).p (K.table value).q (K.row value) ≡ value
    value-again =
        let h = K.of_header (count_in s) (p_in s) (q_in s) (row_in K.widths s) in
        rw (h.0, h.1, h.2) (K.of_same (count_in s) (p_in s) (q_in s) (K.row value) (row_in K.widths s) (forms.read-row K s e))

    -- So it is what is found in its text.
    read-parsed : {A : Type 0} (wrong : ℕ → ℕ → A) (right : Value → A)
        → found_in (length K.widths) wrong (right (valueInText (valueText value))) (valueText value) ≡ right value
    read-parsed wrong right = value-parsed value (forms.read-lawful K s e) wrong right ∙ ap right value-again

-- No field of a plain table is wider, nor of a weighted one.
task_narrow : All (λ w. w ≤ 29) task_widths
task_narrow = (omega arith, (omega arith, (omega arith, (omega arith, tt))))

weighted_narrow : All (λ w. w ≤ 29) weighted_widths
weighted_narrow = (omega arith, (omega arith, (omega arith, (omega arith, (omega arith, tt)))))

-- A legal table, printed and parsed again.
pub text_again : (t : Table) → Legal t → parse_reply (text_of_table t) ≡ Ok (table_of t.count t.p t.q (task_at t))
unfolding parse_reply text_of_table table_in_text
text_again t l =
    value-parsed tables task_narrow t (record { counted = l.counted; timed = l.timed; narrow = l.narrow; ruled = l.windows }) wrong_line Ok

-- So it is the same table.
pub text_same : (t : Table) → Legal t → IsOkAnd (parse_reply (text_of_table t)) (λ r. Same r t)
text_same t l = rw (text_again t l) (table_of-tasks t (legal_count l).1)

-- The table of a file that is read without refusal, printed and parsed again, is that table.
pub file_text_lem : (s : List ℕ) → read_answer s ≡ Accepted → parse_reply (text_of_table (table_in s)) ≡ Ok (table_in s)
unfolding parse_reply text_of_table table_in_text read_answer head_answer table_in task_in task_from task_start
file_text_lem s e = read-parsed tables task_narrow s e wrong_line Ok

-- Its file is the file that was read, byte for byte.
pub file_text_again : (s : List ℕ) → Bytes s → read_answer s ≡ Accepted → RestoresFile s (text_of_table (table_in s))
file_text_again s b e = record { table_is = file_text_lem s e; file_is = rw (file_text_lem s e) (read_again s b e) }

-- The weighted table of a file that is read without refusal, printed and parsed again, is that weighted table,
pub weighted_text_lem : (s : List ℕ) → weighted_answer s ≡ Accepted → weighted_parse_reply (weighted_text (weighted_in s)) ≡ Ok (weighted_in s)
unfolding weighted_parse_reply weighted_text weighted_in_text weighted_answer weighted_in
weighted_text_lem s e = read-parsed weighted weighted_narrow s e wrong_line Ok

-- and its file is the file that was read, byte for byte.
pub weighted_text_again : (s : List ℕ) → Bytes s → weighted_answer s ≡ Accepted → RestoresWeighted s (weighted_text (weighted_in s))
weighted_text_again s b e = record { weighted_is = weighted_text_lem s e; file_is = rw (weighted_text_lem s e) (weights.read_again s b e) }

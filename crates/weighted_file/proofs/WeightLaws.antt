-- Weighted tables written and read again, and their files read and written again; and what an accepted weighted file tells.
use Prim.Native.Nat.{ℕ, ◌≤◌, ◌<◌}
use mathlib.Core.Path.{◌≡◌, refl, ap, ◌∙◌}
use mathlib.Core.List.{List}
use mathlib.Core.Bool.{true, false}
use native.Mathlib.Omega.{arith}
use lib.Dec.{ltb, eqb}
use lib.ListN.{length, get_or, take}
use lib.Seq.{get_or-take, length-take-le}
use borrow.Author.Tests.{ltb-false, eqb-false, le-ltb}
use native.Mathlib.Decide.{dec_lt}
use Rattle.base.specs.Tests.{pick}
use Rattle.base.proofs.PlaceLaws.{places_at}
use Rattle.base.specs.Limits.{max_tasks, max_weight}
use Rattle.base.proofs.TestLaws.{or_left, or_right}
use Rattle.bits.specs.Bits.{Bytes, bytes_for}
use Rattle.bits.specs.Rows.{fields_from}
use Rattle.bits.proofs.RowLaws.{RowFits}
use Rattle.table.specs.declared.Task.{Task}
use Rattle.table.specs.declared.Refusal.TheVariants.{Weight}
use Rattle.table.specs.Tables.{task_at, table_of, task_of}
use Rattle.table.specs.Layout.{row_start, rows_length}
use Rattle.table.specs.Answers.{Accepted, is_accepted, lowest_refusal, wrote}
use Rattle.table.specs.Kinds.{is_nested, nested_answer}
use Rattle.table.specs.Reading.{count_in, p_in, q_in, table_in, read_answer}
use Rattle.table.specs.Writing.{file_of, too_wide, first_too_wide, Legal}
use Rattle.table.proofs.AnswerLaws.{refused_none, refused_same}
use Rattle.table.proofs.KindLaws.{NestedKnown, nested_known, nested_windows, nested_same}
use Rattle.table.proofs.TableLaws.{given_below, given_same, task_at-below, table_of-same, table_of-tasks, table_of-canonical}
use Rattle.table.proofs.FileLaws.{narrow_known, narrow_test}
use Rattle.table.proofs.RoundTrip as plain
use Rattle.table.proofs.RowFiles.{count_known}
use Rattle.table.proofs.RowTables as rows
use Rattle.table.proofs.RowTables.{Form}
use Rattle.weighted_file.specs.declared.Weighted.{Weighted}
use Rattle.weighted_file.specs.Weights.{
  WeightedReading,
  weighted_widths,
  weighted_width,
  weighted_length,
  max_weighted_file,
  weighted_bytes_read,
  weight_at,
  SameWeighted,
  weighted_of,
  weighted_row,
  file_of_weighted,
  weighted_in,
  bad_weight,
  weight_answer,
  weighted_rules,
  weighted_answer,
  weighted_read_reply,
  weighted_write_reply,
}

-- A weighted table has the header that it is given,
pub of_header : (c p q : ℕ) (f : ℕ → List ℕ) → ((weighted_of c p q f).table.count ≡ c) × ((weighted_of c p q f).table.p ≡ p) × ((weighted_of c p q f).table.q ≡ q)
unfolding weighted_of table_of
of_header c p q f = (refl, refl, refl)

-- the rows that are read from a file,
pub of_row : (c p q : ℕ) (s : List ℕ) (start : ℕ → ℕ) (k : ℕ) → c ≤ max_tasks → k < c
    → weighted_row (weighted_of c p q (λ j. fields_from weighted_widths s (start j))) k ≡ fields_from weighted_widths s (start k)
unfolding weighted_of weight_at
of_row c p q s start k h l =
    let row : ℕ → List ℕ = λ j. fields_from weighted_widths s (start j) in
    rw (task_at-below c p q (λ j. task_of (row j)) k h l, given_below 0 c (λ j. get_or (row j) 4 0) k (omega arith) l)

-- and no more than the rows below its count;
pub of_same : (c p q : ℕ) (f g : ℕ → List ℕ) → ((k : ℕ) → k < c → f k ≡ g k) → weighted_of c p q f ≡ weighted_of c p q g
unfolding weighted_of
of_same c p q f g h =
    rw (
      table_of-same c p q (λ k. task_of (f k)) (λ k. task_of (g k)) (λ k l m. ap task_of (h k l)),
      given_same 0 c (λ k. get_or (f k) 4 0) (λ k. get_or (g k) 4 0) (λ k l m. ap (λ (row : List ℕ). get_or row 4 0) (h k l)),
    )

-- its own rows give it.
pub of_rows : (w : Weighted) → w.table.count ≤ max_tasks → SameWeighted (weighted_of w.table.count w.table.p w.table.q (weighted_row w)) w
unfolding weighted_of weight_at table_of
of_rows w h =
    record {
      table = table_of-tasks w.table h;
      weights = λ k l. given_below 0 w.table.count (λ j. get_or w.weights j 0) k (omega arith) l;
    }

-- The weights up to the count answer what the weighted table answers of its weights.
pub weights_taken : (w : Weighted) → length w.weights ≡ max_tasks → w.table.count ≤ max_tasks
    → lowest_refusal Weight (λ k. bad_weight (get_or (take w.table.count w.weights) k 0)) (length (take w.table.count w.weights)) ≡ weight_answer w
unfolding weight_answer weight_at
weights_taken w size few =
    let n : length (take w.table.count w.weights) ≡ w.table.count = length-take-le w.table.count w.weights (omega arith) in
    rw n
    (refused_same Weight (λ k. bad_weight (get_or (take w.table.count w.weights) k 0)) (λ k. bad_weight (get_or w.weights k 0)) w.table.count
    (λ k l. ap bad_weight (get_or-take w.table.count w.weights k 0 l)))

-- Weighted tables that are the same obey the same rules.
pub rules_same : (a b : Weighted) → SameWeighted a b → weighted_rules a ≡ weighted_rules b
unfolding weighted_rules weight_answer
rules_same a b s =
    let weights : weight_answer a ≡ weight_answer b =
    refused_same Weight (λ k. bad_weight (weight_at a k)) (λ k. bad_weight (weight_at b k)) a.table.count (λ k h. ap bad_weight (s.weights k h)) ∙ rw s.table.count in
    ap (λ own. nested_answer own (task_at a.table) a.table.count) weights ∙ nested_same (weight_answer b) s.table

-- What the rules tell where they refuse nothing,
rules_known : (w : Weighted) → weighted_rules w ≡ Accepted → NestedKnown (weight_answer w) w.table
unfolding weighted_rules
rules_known w e = nested_known (weight_answer w) w.table e

-- of the weights: each is of 1 to 15.
weights_known : (w : Weighted) → weighted_rules w ≡ Accepted → (k : ℕ) → k < w.table.count → (1 ≤ weight_at w k) × (weight_at w k ≤ max_weight)
unfolding weight_answer bad_weight
weights_known w e k l =
    let good = refused_none Weight (λ k. bad_weight (weight_at w k)) w.table.count (rules_known w e).ruled k l in
    let least = eqb-false (weight_at w k) 0 (or_left (eqb (weight_at w k) 0) (ltb max_weight (weight_at w k)) good) in
    (omega arith, ltb-false max_weight (weight_at w k) (or_right (eqb (weight_at w k) 0) (ltb max_weight (weight_at w k)) good))

-- So a weight that 16 does not refuse is no wider than its bits.
pub row_fits : (w : Weighted) (k : ℕ) → k < w.table.count → too_wide (task_at w.table k) ≡ false → weighted_rules w ≡ Accepted → RowFits weighted_widths (weighted_row w k)
row_fits w k h n e =
    let t = narrow_known (task_at w.table k) n in
    let most = (weights_known w e k h).1 in
    (t.release, (t.deadline, (t.mandatory, (t.optional, (omega arith, tt)))))

-- Weighted tables are a form of table.
abbrev pub weighted : Form Weighted
weighted =
    record {
      widths = weighted_widths;
      table = λ w. w.table;
      row = weighted_row;
      of = weighted_of;
      Same = SameWeighted;
      wide = λ w k. too_wide (task_at w.table k);
      rules = weighted_rules;
      of_header = of_header;
      of_row = of_row;
      of_same = of_same;
      of_rows = of_rows;
      rules_same = rules_same;
      fits = row_fits;
      narrow = λ w k f. narrow_test (task_at w.table k) (record { release = f.0; deadline = f.1.0; mandatory = f.1.1.0; optional = f.1.1.1.0 });
    }

-- A weighted table written and read again is the same weighted table.
pub written_again : (w : Weighted) (room : ℕ) → (weighted_write_reply w room).number ≡ 0
    → (weighted_answer (file_of_weighted w) ≡ Accepted) × SameWeighted (weighted_in (file_of_weighted w)) w
unfolding weighted_write_reply weighted_length weighted_answer weighted_in file_of_weighted first_too_wide
written_again w room e = rows.written_again weighted w room e

-- What writing with the number 0 tells: the count is in range, and the list has room.
pub written_fits : (w : Weighted) (room : ℕ) → (weighted_write_reply w room).number ≡ 0 → (w.table.count ≤ max_tasks) × (weighted_length w.table.count ≤ room)
unfolding weighted_write_reply weighted_length first_too_wide
written_fits w room e = let z = rows.reply_lawful weighted w room e in ((count_known w.table.count z.0.counted).1, z.1)

-- A file read and written again is the same file, byte for byte.
pub read_again : (s : List ℕ) → Bytes s → weighted_answer s ≡ Accepted → file_of_weighted (weighted_in s) ≡ s
unfolding weighted_answer weighted_in file_of_weighted
read_again s bytes e = rows.read_again weighted s e bytes

-- A file that was read is written where the list lent has room for it.
pub read_writes : (s : List ℕ) (room : ℕ) → weighted_answer s ≡ Accepted → length s ≤ room → weighted_write_reply (weighted_in s) room ≡ wrote (length s)
unfolding weighted_write_reply weighted_length weighted_answer weighted_in first_too_wide
read_writes s room e h = rows.read-reply weighted s e room h

-- The parts of a reply of reading.
pub read_answer_lem : (s : List ℕ) (r : WeightedReading) → r ≡ weighted_read_reply s → r.answer ≡ weighted_answer s
unfolding weighted_read_reply
read_answer_lem s r e = ap (λ (r : WeightedReading). r.answer) e

pub read_is : (s : List ℕ) (r : WeightedReading) → r ≡ weighted_read_reply s → weighted_answer s ≡ Accepted → r.weighted ≡ weighted_in s
unfolding weighted_read_reply
read_is s r e a = ap (λ (r : WeightedReading). r.weighted) e ∙ rw a

-- No weighted file is longer than that of 64 tasks,
file_few : (count : ℕ) → count ≤ max_tasks → rows_length weighted_width count ≤ max_weighted_file
unfolding bytes_for weighted_length
file_few count h = omega arith

-- what reading says of a longer file is a refusal,
pub long_refused : (s : List ℕ) → max_weighted_file < length s → is_accepted (weighted_answer s) ≡ false
unfolding weighted_answer weighted_in
long_refused s h = rows.long_refused weighted max_weighted_file file_few s h

-- and what it says of any file follows from the first bytes, one more than such a file has: 533.
pub read_prefix : (s : List ℕ) → weighted_answer (take weighted_bytes_read s) ≡ weighted_answer s
unfolding weighted_answer weighted_in
read_prefix s = rows.read_prefix weighted max_weighted_file file_few s

-- What an accepted weighted file tells: its table is one that plain writing accepts,
pub read_legal : (s : List ℕ) → weighted_answer s ≡ Accepted → Legal (weighted_in s).table
unfolding weighted_answer weighted_in weighted_rules
read_legal s e =
    let w : Weighted = weighted_in s in
    let l : rows.Lawful weighted w = rows.read-lawful weighted s e in
    record { counted = l.counted; timed = l.timed; narrow = l.narrow; windows = nested_windows (weight_answer w) w.table l.ruled }

-- and nested,
pub read_nested : (s : List ℕ) → weighted_answer s ≡ Accepted → is_nested (weighted_in s).table ≡ true
unfolding weighted_answer weighted_in
read_nested s e = (rules_known (weighted_in s) (rows.read-lawful weighted s e).ruled).nesting

-- and each weight is of 1 to 15.
pub read_weights : (s : List ℕ) → weighted_answer s ≡ Accepted → (k : ℕ) → k < (weighted_in s).table.count
    → (1 ≤ weight_at (weighted_in s) k) × (weight_at (weighted_in s) k ≤ max_weight)
unfolding weighted_answer weighted_in
read_weights s e = weights_known (weighted_in s) (rows.read-lawful weighted s e).ruled

-- The plain file of its table is accepted, and read as that table.
pub plain_file : (s : List ℕ) → weighted_answer s ≡ Accepted
    → (read_answer (file_of (weighted_in s).table) ≡ Accepted) × (table_in (file_of (weighted_in s).table) ≡ (weighted_in s).table)
unfolding weighted_in weighted_of table_of
plain_file s e =
    let l = read_legal s e in
    let task : ℕ → Task = λ k. task_of (fields_from weighted_widths s (row_start weighted_width k)) in
    (plain.written_accepted l, plain.written_fields l ∙ table_of-canonical (count_in s) (p_in s) (q_in s) task)

-- The places beyond the count hold the weight 0,
beyond_zero : (count p q : ℕ) (row : ℕ → List ℕ) (k : ℕ) → k < max_tasks → count ≤ k → weight_at (weighted_of count p q row) k ≡ 0
unfolding weight_at weighted_of
beyond_zero count p q row k l m = rw (places_at (λ k. pick (ltb k count) (get_or (row k) 4 0) 0) max_tasks k 0 l, le-ltb k count m)

-- so no weight of an accepted file is above the greatest, there either.
pub read_low : (s : List ℕ) → weighted_answer s ≡ Accepted → (k : ℕ) → k < max_tasks → weight_at (weighted_in s) k ≤ max_weight
unfolding weighted_in weighted_of table_of
read_low s e k l =
    elim (dec_lt k (weighted_in s).table.count) [
      | yes m ↦ (read_weights s e k m).1
      | no m ↦ omega (arith, beyond_zero (weighted_in s).table.count (p_in s) (q_in s) (λ k. fields_from weighted_widths s (row_start weighted_width k)) k l (omega arith))
    ]

-- The scan of a text, byte by byte, finds what the definition says of its lines.
use Prim.Native.Nat.{ℕ, zero, suc, ◌+◌, ◌-◌, ◌≤◌, ◌<◌}
use mathlib.Core.Path.{◌≡◌, refl, sym, ap, ◌∙◌}
use mathlib.Core.Bool.{Bool, true, false, not}
use mathlib.Core.List.{List, [], ◌∷◌, ◌++◌, foldl, foldl-append}
use native.Mathlib.Omega.{arith}
use native.Mathlib.Decide.{dec_lt}
use native.Mathlib.Numerals.{add-one}
use lib.Dec.{leb, ltb, eqb}
use lib.ListN.{length, get_or, set, length-append, get_or-eq_default}
use borrow.Author.Tests.{leb-true, leb-false, ltb-true, le-leb, lt-leb, lt-ltb, le-ltb, eqb-true, not-false}
use Rattle.std.specs.Prelude.{Result, Ok, Err}
use Rattle.base.specs.Limits.{max_tasks}
use Rattle.base.specs.Tests.{pick, and, or}
use Rattle.base.specs.Lowest.{lowest_from, lowest}
use Rattle.base.specs.Places.{places_from, places}
use Rattle.base.proofs.TestLaws.{cases, pick_cases, both_absurd, and_true, and_left, and_right}
use Rattle.base.proofs.MemberLaws.{all_at}
use Rattle.base.proofs.PlaceLaws.{places_at, places_length, places_is}
use Rattle.base.proofs.ArrayFilling.{Filled, filled_set, filled_skip, filled_whole}
use Rattle.base.specs.Members.{every_member}
use Rattle.lines.specs.Text.{newline}
use Rattle.lines.specs.Splitting.{cut_at, nonempty, lines_of, words_of, all_numbers, numbers_of}
use Rattle.lines.proofs.SplitLaws.{is_newline, Plain, cut_plain, last_at, cut_over}
use Rattle.table.specs.declared.Table.{Table}
use Rattle.table.specs.declared.Task.{Task}
use Rattle.table.specs.Tables.{no_task, no_table, table_of, task_of}
use Rattle.weighted_file.specs.declared.Weighted.{Weighted}
use Rattle.weighted_file.specs.Weights.{weighted_of, no_weighted}
use Rattle.table_text.specs.declared.WrongLine.{WrongLine}
use Rattle.table_text.specs.TableText.{
  line_at,
  numbers_at,
  count_in_text,
  p_in_text,
  q_in_text,
  row_in_text,
  due,
  wrong_as,
  line_wrong,
  lines_checked,
  right_lines,
  wrong_line,
  task_numbers,
  table_in_text,
  parse_reply,
}
use Rattle.table_text.specs.WeightedText.{weighted_in_text}
use Rattle.text_reading.specs.declared.Line.{Line}
use Rattle.text_reading.specs.declared.Scan.{Scan}
use Rattle.text_reading.specs.Scanning.{line_numbers, no_line, with_byte, with_line, ends_wrong, end_line, step, stepped, start, found, scan_reply, scanned}
use Rattle.text_reading.proofs.LineScan.{ended, line_wrong_lem, line_numbers_lem}
use Rattle.text_reading.proofs.ScanSteps.{stays}

-- a scan that has met no wrong line
abbrev reading : ℕ → Weighted → Line → Result Scan WrongLine
reading k w l = Ok (record { line = k; weighted = w; current = l })

-- Of texts with `width` numbers on the line of a task, as many as a line has room for.
module _ (width : ℕ) (fits : width ≤ line_numbers) (some : 0 < width) where
  -- a scan over a line, and its end
  abbrev overLine : Result Scan WrongLine → List ℕ → Result Scan WrongLine
  overLine s line = stepped width (foldl (stepped width) s line) newline

  -- over a line that has no newline, the line being read goes on
  line-over : (k : ℕ) (w : Weighted) (l : Line) (line : List ℕ) → Plain is_newline line
      → foldl (stepped width) (reading k w l) line ≡ reading k w (foldl with_byte l line)
  unfolding stepped step
  line-over k w l [] plain = refl
  line-over k w l (byte ∷ line) plain = rw plain.0 (line-over k w (with_byte l byte) line plain.1)

  -- A line that is wrong is noted,
  over-wrong : (k : ℕ) (w : Weighted) (line : List ℕ) → Plain is_newline line → ends_wrong width k w.table.count (ended line) ≡ true
      → overLine (reading k w no_line) line ≡ wrong_line k (due width k w.table.count)
  unfolding stepped step end_line
  over-wrong k w line plain e = rw (line-over k w no_line line plain, e)

  -- and the numbers of another go into the weighted table.
  over-right : (k : ℕ) (w : Weighted) (line : List ℕ) → Plain is_newline line → ends_wrong width k w.table.count (ended line) ≡ false
      → overLine (reading k w no_line) line ≡ reading (k + 1) (with_line w k (ended line).numbers) no_line
  unfolding stepped step end_line
  over-right k w line plain e = rw (line-over k w no_line line plain, e)

  -- After a wrong line no further line is read.
  stays-over : (wrong : WrongLine) (lines : List (List ℕ)) → foldl overLine (Err wrong) lines ≡ Err wrong
  unfolding stepped
  stays-over wrong [] = refl
  stays-over wrong (line ∷ lines) = rw (stays width wrong line) (stays-over wrong lines)

  -- where nothing is due on a line, the lines before it have all tasks
  due-none : (k count : ℕ) → 0 ≡ due width k count → count + 1 < k
  unfolding due
  due-none k count e =
      cases (leb k 1)
      (λ a. absurd (omega (arith, rw a at e)))
      (λ a. cases (leb k (count + 1)) (λ b. absurd (omega (arith, rw (a, b) at e))) (λ b. leb-false k (count + 1) b))

  -- an empty line is right only there
  empty_right : (k count : ℕ) (line : List ℕ) → line ≡ [] → wrong_as width k count line ≡ false → count + 1 < k
  unfolding numbers_of words_of every_member nonempty cut_at
  empty_right k count line none e =
      due-none k count (eqb-true 0 (due width k count) (not-false (eqb 0 (due width k count)) (rw none at e)))

  module _ (text : List ℕ) where
    -- the line at a place from 0 on
    abbrev line_here : ℕ → List ℕ
    line_here i = line_at text (suc i)

    -- it is wrong
    abbrev wrongHere : ℕ → Bool
    wrongHere i = line_wrong width text (suc i)

    -- the task at a position and its weight, from its line
    abbrev taskHere : ℕ → Task
    taskHere k = task_of (row_in_text text k)

    abbrev weightHere : ℕ → ℕ
    weightHere k = get_or (row_in_text text k) 4 0

    -- The first i lines are read, and none of them is wrong: the numbers of line 1, and the tasks and weights of the others, are in the weighted table.
    record Begun (i : ℕ) (w : Weighted) : Type 0 where
      head : 0 < i → (w.table.count ≡ count_in_text text) × (w.table.p ≡ p_in_text text) × (w.table.q ≡ q_in_text text)
      right : 0 < i → line_wrong width text i ≡ false
      tasks : Filled no_task taskHere max_tasks (count_in_text text) (i - 1) w.table.tasks
      weights : Filled 0 weightHere max_tasks (count_in_text text) (i - 1) w.weights

    -- no line is read
    begun-start : Begun 0 no_weighted
    unfolding no_weighted no_table
    begun-start =
        record {
          head = λ h. absurd (omega arith);
          right = λ h. absurd (omega arith);
          tasks = blank no_task taskHere;
          weights = blank 0 weightHere;
        }
      where
        -- places that are all blank
        blank : {A : Type 0} (none : A) (at : ℕ → A) → Filled none at max_tasks (count_in_text text) (0 - 1) (places (λ k. none) max_tasks)
        blank none at =
            record {
              length_is = places_length (λ k. none) max_tasks;
              before = λ k a b m. absurd (omega arith);
              after = λ k a m. places_at (λ k. none) max_tasks k none m;
              beyond = λ k a m. places_at (λ k. none) max_tasks k none m;
            }

    -- a line is read: line 1, and a task's
    begun-next : (i : ℕ) (w : Weighted) (numbers : List ℕ) → Begun i w → wrongHere i ≡ false
        → ((j : ℕ) → get_or numbers j 0 ≡ get_or (numbers_at text (suc i)) j 0) → Begun (suc i) (with_line w (suc i) numbers)
    unfolding with_line count_in_text p_in_text q_in_text
    begun-next zero w numbers b e h = record { head = λ z. (h 0, h 1, h 2); right = λ z. e; tasks = b.tasks; weights = b.weights }
    begun-next (suc i) w numbers b e h =
        let count_is : w.table.count ≡ count_in_text text = (b.head (omega arith)).0 in
        let here : suc i - 1 ≡ i = omega arith in
        let next : suc (suc i) - 1 ≡ i + 1 = omega arith in
        let place : suc (suc i) - 2 ≡ i = omega arith in
        let behind : i + 2 ≡ suc (suc i) = omega arith in
        let low = leb (suc (suc i)) (w.table.count + 1) in
        let room = ltb i max_tasks in
        let tasks = rw here at b.tasks in
        let weights = rw here at b.weights in
        let made : (ts : List Task) (ws : List ℕ) → Filled no_task taskHere max_tasks (count_in_text text) (i + 1) ts
        → Filled 0 weightHere max_tasks (count_in_text text) (i + 1) ws
        → Begun (suc (suc i)) (record { table = record { count = w.table.count; p = w.table.p; q = w.table.q; tasks = ts }; weights = ws }) =
        λ ts ws f g. record { head = λ z. b.head (omega arith); right = λ z. e; tasks = rw next f; weights = rw next g } in
        rw (lt-leb (suc (suc i)) 1 (omega arith), place)
        (pick_cases (Begun (suc (suc i))) (and low room)
        (λ a.
        let below : suc (suc i) ≤ w.table.count + 1 = leb-true (suc (suc i)) (w.table.count + 1) (and_left low room a) in
        let within : i < max_tasks = ltb-true i max_tasks (and_right low room a) in
        made (set w.table.tasks i (task_of numbers)) (set w.weights i (get_or numbers 4 0))
        (filled_set no_task taskHere max_tasks (count_in_text text) i w.table.tasks (task_of numbers) within (omega arith) (rw (behind, h 0, h 1, h 2, h 3)) tasks)
        (filled_set 0 weightHere max_tasks (count_in_text text) i w.weights (get_or numbers 4 0) within (omega arith) (rw (behind, h 4)) weights))
        (λ a.
        let none : i < count_in_text text → i < max_tasks → ⊥ =
        λ l m. both_absurd (and low room) (and_true low room (le-leb (suc (suc i)) (w.table.count + 1) (omega arith)) (lt-ltb i max_tasks m)) a in
        made w.table.tasks w.weights
        (filled_skip no_task taskHere max_tasks (count_in_text text) i w.table.tasks none tasks)
        (filled_skip 0 weightHere max_tasks (count_in_text text) i w.weights none weights)))

    -- the numbers due on the next line: on line 1 they do not depend on the count
    due-here : (i : ℕ) (w : Weighted) → Begun i w → due width (suc i) w.table.count ≡ due width (suc i) (count_in_text text)
    unfolding due
    due-here zero w b = refl
    due-here (suc i) w b = rw (b.head (omega arith)).0

    -- so the scan finds the next line wrong where it is
    ends-here : (i : ℕ) (w : Weighted) → Begun i w → ends_wrong width (suc i) w.table.count (ended (line_here i)) ≡ wrongHere i
    unfolding line_wrong numbers_at
    ends-here i w b =
        line_wrong_lem width fits (suc i) w.table.count (line_here i)
        ∙ ap (λ (d : ℕ). or (not (all_numbers (words_of (line_here i)))) (not (eqb (length (numbers_of (line_here i))) d))) (due-here i w b)

    -- and holds its numbers where it is not
    numbers-here : (i : ℕ) → wrongHere i ≡ false → (j : ℕ) → get_or (ended (line_here i)).numbers j 0 ≡ get_or (numbers_at text (suc i)) j 0
    unfolding line_wrong numbers_at
    numbers-here i e j = line_numbers_lem width fits (suc i) (count_in_text text) (line_here i) e j

    -- no line has a newline
    plain_here : (i : ℕ) → Plain is_newline (line_here i)
    unfolding line_at lines_of
    plain_here i =
        elim (dec_lt (suc i - 1) (length (lines_of text))) [
          | yes l ↦ all_at (Plain is_newline) [] (lines_of text) (suc i - 1) l (cut_plain is_newline text)
          | no l ↦ rw (get_or-eq_default (lines_of text) [] {n = suc i - 1} (omega arith)) tt
        ]

    -- the line after the last has nothing on it: it is wrong where a task is missing
    last-due : line_wrong width text (lines_checked text) ≡ false → count_in_text text + 1 < lines_checked text
    unfolding line_wrong lines_checked line_at numbers_at
    last-due e =
        empty_right (lines_checked text) (count_in_text text) (line_at text (lines_checked text))
        (get_or-eq_default (lines_of text) [] {n = lines_checked text - 1} (omega arith)) e

    -- Once all lines are read, and none is wrong, the weighted table is theirs.
    table-read : (w : Weighted) → Begun (lines_checked text) w → w ≡ weighted_in_text text
    unfolding weighted_in_text weighted_of table_of lines_checked
    table-read w b =
        let head = b.head (omega arith) in
        let last : count_in_text text + 1 < lines_checked text = last-due (b.right (omega arith)) in
        rw (
          ← filled_whole no_task taskHere max_tasks (count_in_text text) (lines_checked text - 1) w.table.tasks (λ k l m. omega arith) b.tasks,
          ← filled_whole 0 weightHere max_tasks (count_in_text text) (lines_checked text - 1) w.weights (λ k l m. omega arith) b.weights,
          ← head.0,
          ← head.1,
          ← head.2,
        )

    -- The scan from line i + 1 on finds the first wrong line from there on, or the weighted table.
    lines-found : (c i : ℕ) (w : Weighted) → i + c ≡ lines_checked text → Begun i w
        → found (foldl overLine (reading (suc i) w no_line) (places_from line_here i c))
        ≡ pick (ltb (lowest_from wrongHere i c) (lines_checked text))
        (wrong_line (suc (lowest_from wrongHere i c)) (due width (suc (lowest_from wrongHere i c)) (count_in_text text))) (Ok (weighted_in_text text))
    unfolding lowest_from places_from found
    lines-found zero i w e b =
        let all : i ≡ lines_checked text = omega arith in
        rw (le-ltb i (lines_checked text) (omega arith)) (ap Ok (table-read w (rw all at b)))
    lines-found (suc c) i w e b =
        let rest = places_from line_here (suc i) c in
        cases (wrongHere i)
        (λ bad.
        ap (λ (s : Result Scan WrongLine). found (foldl overLine s rest)) (over-wrong (suc i) w (line_here i) (plain_here i) (ends-here i w b ∙ bad))
        ∙ (ap found (stays-over (record { line = suc i; due = due width (suc i) w.table.count }) rest)
        ∙ rw (bad, lt-ltb i (lines_checked text) (omega arith), due-here i w b)))
        (λ good.
        ap (λ (s : Result Scan WrongLine). found (foldl overLine s rest)) (over-right (suc i) w (line_here i) (plain_here i) (ends-here i w b ∙ good))
        ∙ rw (good, add-one (suc i))
        (lines-found c (suc i) (with_line w (suc i) (ended (line_here i)).numbers) (omega arith) (begun-next i w (ended (line_here i)).numbers b good (numbers-here i good))))

    -- the lines that are looked at
    lines-looked : lines_of text ++ [] ∷ [] ≡ places line_here (lines_checked text)
    unfolding line_at lines_checked
    lines-looked =
        places_is line_here (lines_checked text) [] (lines_of text ++ [] ∷ []) (omega (arith, length-append (lines_of text) ([] ∷ [])))
        (λ k l. let e : suc k - 1 ≡ k = omega arith in rw e (last_at [] (lines_of text) k))

  -- a newline ends a line
  newline-ends : (s : Result Scan WrongLine) (byte : ℕ) → is_newline byte ≡ true → stepped width s byte ≡ stepped width s newline
  newline-ends s byte e = rw (eqb-true byte newline e)

  -- The scan of a text finds what the definition says.
  pub scan_parsed : (text : List ℕ) → scan_reply width text ≡ scanned width text
  unfolding scan_reply scanned right_lines lowest start lines_of places
  scan_parsed text =
      let over : stepped width (stepped width (foldl (stepped width) (Ok start) text) newline) newline ≡ foldl overLine (Ok start) (lines_of text ++ [] ∷ []) =
      rw (cut_over (stepped width) (λ s. stepped width s newline) is_newline newline-ends (Ok start) text)
      (sym (foldl-append overLine (Ok start) (lines_of text) ([] ∷ []))) in
      rw (over, lines-looked text) (lines-found text (lines_checked text) 0 no_weighted (omega arith) (begun-start text))

-- what a plain text gives of what is found
unfoldable pub plain_of : Result Weighted WrongLine → Result Table WrongLine
plain_of (Ok w) = Ok w.table
plain_of (Err wrong) = Err wrong

-- A plain text is scanned for its table.
pub plain_scanned : (text : List ℕ) → plain_of (scanned task_numbers text) ≡ parse_reply text
unfolding plain_of scanned parse_reply table_in_text weighted_in_text weighted_of no_weighted
plain_scanned text =
    cases (ltb (right_lines task_numbers text) (lines_checked text)) (λ a. rw a) (λ a. rw a)

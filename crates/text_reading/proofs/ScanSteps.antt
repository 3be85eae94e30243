-- A text that is read byte by byte, up to its first wrong line.
use Prim.Native.Nat.{ℕ, ◌+◌, ◌≤◌, ◌<◌}
use mathlib.Core.Path.{◌≡◌, refl, ap}
use mathlib.Core.List.{List, [], ◌∷◌, foldl}
use native.Mathlib.Omega.{arith}
use native.Mathlib.Numerals.{add-one}
use lib.Dec.{eqb}
use lib.ListN.{length, get_or, drop, drop_of_length-le}
use lib.Seq.{drop-cons}
use Rattle.std.specs.Prelude.{Result, Ok, Err, IfOk}
use Rattle.base.proofs.TestLaws.{pick_cases}
use Rattle.lines.specs.Text.{newline}
use Rattle.table_text.specs.declared.WrongLine.{WrongLine}
use Rattle.text_reading.specs.declared.Scan.{Scan}
use Rattle.text_reading.specs.Scanning.{with_number, ends_wrong, end_line, step, stepped, start, found, scan_reply}

-- Of texts with so many numbers on the line of a task.
module _ (width : ℕ) where
  -- a byte passes at most one line
  step_line : (s : Scan) (byte : ℕ) → IfOk (step width s byte) (λ r. r.line ≤ s.line + 1)
  unfolding step end_line
  step_line s byte =
      let few = λ (r : Result Scan WrongLine). IfOk r (λ x. x.line ≤ s.line + 1) in
      pick_cases few (eqb byte newline)
      (λ b. pick_cases few (ends_wrong width s.line s.weighted.table.count (with_number s.current)) (λ d. tt) (λ d. omega arith))
      (λ b. omega arith)

  pub next_line : (s : Scan) (byte : ℕ) (next : Scan) → Ok next ≡ step width s byte → next.line ≤ s.line + 1
  next_line s byte next e = rw (← e) at (step_line s byte)

  -- so does the end of a line
  pub next_ended : (s next : Scan) → Ok next ≡ end_line width s → next.line ≤ s.line + 1
  unfolding step
  next_ended s next e = next_line s newline next e

  -- After a wrong line nothing more is read.
  pub stays : (wrong : WrongLine) (bytes : List ℕ) → foldl (stepped width) (Err wrong) bytes ≡ Err wrong
  unfolding stepped
  stays wrong [] = refl
  stays wrong (byte ∷ bytes) = stays wrong bytes

  -- A scan of a text from its first byte on: what is left of it, read from here, gives what the whole text gives.
  pub record Scanned (text : List ℕ) (i : ℕ) (s : Scan) : Type 0 where
    pub line-is : s.line ≤ i + 1
    pub left : foldl (stepped width) (Ok s) (drop i text) ≡ foldl (stepped width) (Ok start) text

  pub scan_start : (text : List ℕ) (s : Scan) → s ≡ start → Scanned text 0 s
  unfolding start
  scan_start text s e = record { line-is = omega (arith, ap (λ (x : Scan). x.line) e); left = rw e }

  module _ (text : List ℕ) (i : ℕ) (s : Scan) (within : i < length text) (h : Scanned text i s) where
    -- the next byte is read, and what is left behind it
    left_of : foldl (stepped width) (step width s (get_or text i 0)) (drop (i + 1) text) ≡ foldl (stepped width) (Ok start) text
    unfolding stepped
    left_of = rw (add-one i) (rw (drop-cons text i 0 within) at h.left)

    pub scan_next : (next : Scan) → Ok next ≡ step width s (get_or text i 0) → Scanned text (i + 1) next
    scan_next next e =
        record { line-is = omega (arith, next_line s (get_or text i 0) next e, h.line-is); left = rw e left_of }

    -- it ends a wrong line
    pub scan_wrong : (wrong : WrongLine) → Err wrong ≡ step width s (get_or text i 0) → Err wrong ≡ scan_reply width text
    unfolding scan_reply found stepped
    scan_wrong wrong e = rw (← left_of, ← e, stays wrong (drop (i + 1) text)) refl

  module _ (text : List ℕ) (i : ℕ) (s : Scan) (whole : length text ≤ i) (h : Scanned text i s) where
    -- all bytes are read
    read_all : Ok s ≡ foldl (stepped width) (Ok start) text
    read_all = rw (drop_of_length-le text whole) at h.left

    -- the first newline behind the text ends a wrong line,
    pub first_wrong : (wrong : WrongLine) → Err wrong ≡ end_line width s → Err wrong ≡ scan_reply width text
    unfolding scan_reply found stepped step
    first_wrong wrong e = rw (← read_all, ← e) refl

    module _ (ended : Scan) (first : Ok ended ≡ end_line width s) where
      -- or the second does,
      pub second_wrong : (wrong : WrongLine) → Err wrong ≡ end_line width ended → Err wrong ≡ scan_reply width text
      unfolding scan_reply found stepped step
      second_wrong wrong e = rw (← read_all, ← first, ← e) refl

      -- or no line is wrong.
      pub text_taken : (closed : Scan) → Ok closed ≡ end_line width ended → Ok closed.weighted ≡ scan_reply width text
      unfolding scan_reply found stepped step
      text_taken closed e = rw (← read_all, ← first, ← e) refl

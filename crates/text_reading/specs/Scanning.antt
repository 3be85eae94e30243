-- For the proofs of text_reading's code alone: a text read byte by byte, with `width` numbers on the line of a task. What is read is a weighted table, of which a
-- plain text leaves the weights 0.
use Rattle.std.specs.Prelude.{ℕ, ◌+◌, ◌-◌, ◌*◌, Bool, true, false, not, leb, ltb, eqb, get_or, set, replicate, Option, Some, None, Result, Ok, Err}
use Rattle.std.specs.Option.{unwrap_or}
use mathlib.Core.List.{List, foldl}
use Rattle.base.specs.Limits.{max_tasks}
use Rattle.base.specs.Tests.{pick, and, or}
use Rattle.lines.specs.Text.{newline, digit}
use Rattle.lines.specs.Splitting.{is_blank, is_digit}
use Rattle.table.specs.Tables.{task_of}
use Rattle.weighted_file.specs.declared.Weighted.{Weighted}
use Rattle.weighted_file.specs.Weights.{no_weighted}
use Rattle.table_text.specs.declared.WrongLine.{WrongLine}
use Rattle.table_text.specs.TableText.{due, found_in, wrong_line}
use Rattle.table_text.specs.WeightedText.{weighted_in_text}
use Rattle.text_reading.specs.declared.Line.{Line}
use Rattle.text_reading.specs.declared.Scan.{Scan}

-- the most numbers of a line
abbrev pub line_numbers : ℕ
line_numbers = 5

-- a line of which nothing was read
unfoldable pub no_line : Line
no_line = record { bad = false; seen = 0; numbers = replicate line_numbers 0; number = None }

-- the line with a fault: it has what no line may have
unfoldable pub with_fault : Line → Line
with_fault l = record { bad = true; seen = l.seen; numbers = l.numbers; number = l.number }

-- the value so far of the number being read, and 0 where none is
abbrev pub so_far : Option ℕ → ℕ
so_far number = unwrap_or number 0

-- a digit more of the number being read; a number above 999,999,999 is a fault
unfoldable pub with_digit : Line → ℕ → Line
with_digit l digit =
    pick (ltb 99_999_999 (so_far l.number)) (with_fault l)
    (record { bad = l.bad; seen = l.seen; numbers = l.numbers; number = Some (10 * so_far l.number + digit) })

-- the number being read, where there is one, is the line's next; one more than a line has room for is a fault
unfoldable pub number_ended : Line → Option ℕ → Line
number_ended l None = l
number_ended l (Some value) =
    pick (ltb l.seen line_numbers) (record { bad = l.bad; seen = l.seen + 1; numbers = set l.numbers l.seen value; number = None }) (with_fault l)

unfoldable pub with_number : Line → Line
with_number l = number_ended l l.number

-- a byte more of the line, which is no newline: a digit, a blank, or another byte, which is a fault
unfoldable pub with_byte : Line → ℕ → Line
with_byte l byte = pick (is_digit byte) (with_digit l (byte - digit 0)) (pick (is_blank byte) (with_number l) (with_fault l))

-- what a weighted table holds once a line is read: line 1 gives task count, p and q, and line k + 2 gives the task at position k and its weight.
-- Places there are 64: a task beyond them is not kept, and the count tells of it.
unfoldable pub with_line : Weighted → ℕ → List ℕ → Weighted
with_line w line numbers =
    pick (leb line 1)
    (record {
      table = record { count = get_or numbers 0 0; p = get_or numbers 1 0; q = get_or numbers 2 0; tasks = w.table.tasks };
      weights = w.weights;
    })
    (pick (and (leb line (w.table.count + 1)) (ltb (line - 2) max_tasks))
    (record {
      table = record { count = w.table.count; p = w.table.p; q = w.table.q; tasks = set w.table.tasks (line - 2) (task_of numbers) };
      weights = set w.weights (line - 2) (get_or numbers 4 0);
    })
    w)

-- a line that ends is wrong: it has a fault, or has not as many numbers as are due
unfoldable pub ends_wrong : ℕ → ℕ → ℕ → Line → Bool
ends_wrong width line count l = or l.bad (not (eqb l.seen (due width line count)))

-- the line being read ends: where it is not wrong, its numbers go into the weighted table
unfoldable pub end_line : ℕ → Scan → Result Scan WrongLine
end_line width s =
    pick (ends_wrong width s.line s.weighted.table.count (with_number s.current))
    (wrong_line s.line (due width s.line s.weighted.table.count))
    (Ok (record { line = s.line + 1; weighted = with_line s.weighted s.line (with_number s.current).numbers; current = no_line }))

-- a byte more of the text
unfoldable pub step : ℕ → Scan → ℕ → Result Scan WrongLine
step width s byte =
    pick (eqb byte newline) (end_line width s) (Ok (record { line = s.line; weighted = s.weighted; current = with_byte s.current byte }))

-- after the first wrong line nothing more is read
unfoldable pub stepped : ℕ → Result Scan WrongLine → ℕ → Result Scan WrongLine
stepped width (Ok s) byte = step width s byte
stepped width (Err wrong) byte = Err wrong

-- nothing was read yet: line 1 comes next
unfoldable pub start : Scan
start = record { line = 1; weighted = no_weighted; current = no_line }

-- what is found at the end: the weighted table, or the first wrong line
unfoldable pub found : Result Scan WrongLine → Result Weighted WrongLine
found (Ok s) = Ok s.weighted
found (Err wrong) = Err wrong

-- a text is read as if two newlines followed it: the first ends a line that lacks its newline, and the second makes a blank line, which is
-- wrong where a line is missing
unfoldable pub scan_reply : ℕ → List ℕ → Result Weighted WrongLine
scan_reply width text = found (stepped width (stepped width (foldl (stepped width) (Ok start) text) newline) newline)

-- what is to be found in a text
unfoldable pub scanned : ℕ → List ℕ → Result Weighted WrongLine
scanned width text = found_in width wrong_line (Ok (weighted_in_text text)) text

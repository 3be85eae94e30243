-- A weighted table as lines of text: as a plain one, but the line of a task has five numbers, the weight after the optional ticks.
use Rattle.std.specs.Prelude.{ℕ, List}
use Rattle.std.specs.Prelude.{Result, Ok}
use Rattle.table_text.specs.declared.WrongLine.{WrongLine}
use Rattle.table_text.specs.TableText.{count_in_text, p_in_text, q_in_text, row_in_text, found_in, wrong_line, rows_text, max_rows_text}
use Rattle.weighted_file.specs.declared.Weighted.{Weighted}
use Rattle.weighted_file.specs.Weights.{weighted_of, weighted_row}

-- the numbers of a task's line: release frame, deadline frame, mandatory ticks, optional ticks, weight
abbrev pub weighted_numbers : ℕ
weighted_numbers = 5

-- the weighted table of the lines
unfoldable pub weighted_in_text : List ℕ → Weighted
weighted_in_text text = weighted_of (count_in_text text) (p_in_text text) (q_in_text text) (row_in_text text)

-- what is found in the text of a weighted table: its first wrong line, or its weighted table
unfoldable pub weighted_parse_reply : List ℕ → Result Weighted WrongLine
weighted_parse_reply text = found_in weighted_numbers wrong_line (Ok (weighted_in_text text)) text

-- the text of a weighted table
unfoldable pub weighted_text : Weighted → List ℕ
weighted_text w = rows_text w.table.count w.table.p w.table.q (weighted_row w)

-- a bound on it
abbrev pub max_weighted_text : ℕ
max_weighted_text = max_rows_text weighted_numbers

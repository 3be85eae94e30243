-- Sample texts of weighted tables and what each gives, and the replies that follow from them. What is expected is written in plain numbers.
use Rattle.std.specs.Prelude.{ℕ, List, [], ◌∷◌, ◌++◌, replicate}
use Rattle.std.specs.Prelude.{Result, Ok}
use Rattle.lines.specs.Ascii.{text_of}
use Rattle.table.specs.TableSamples.{task, table, p4_file, p8_table}
use Rattle.weighted_file.specs.declared.Weighted.{Weighted}
use Rattle.table_text.specs.declared.WrongLine.{WrongLine}
use Rattle.table_text.specs.TextSamples.{FileSample, wrong_at, refusal_reply, bytes_reply, ShownSample, full}

-- a text, and what it gives
pub record WeightedSample : Type 0 where
  pub text : List ℕ
  pub gives : Result Weighted WrongLine

-- P8 with the weights 1, 15 and 7: the weighted table, its text, its file
abbrev pub p8_weighted : Weighted
p8_weighted = record { table = p8_table; weights = 1 ∷ 15 ∷ 7 ∷ replicate 61 0 }

abbrev pub p8_text : List ℕ
p8_text = text_of ("3 1 1" ∷ "0 10 2 3 1" ∷ "2 8 1 3 15" ∷ "4 6 1 1 7" ∷ [])

abbrev pub p8_file : List ℕ
p8_file = 6 ∷ 0 ∷ 32 ∷ 2 ∷ 0 ∷ 0 ∷ 0 ∷ 5 ∷ 0 ∷ 4 ∷ 0 ∷ 24 ∷ 128 ∷ 0 ∷ 128 ∷ 1 ∷ 0 ∷ 0 ∷ 128 ∷ 7 ∷ 224 ∷ 0 ∷ 64 ∷ 0 ∷ 48 ∷ 0 ∷ 32 ∷ 0 ∷ 184 ∷ []

-- texts that are right, and texts with a wrong line
unfoldable pub weighted_samples : List WeightedSample
weighted_samples =
    record { text = p8_text; gives = Ok p8_weighted }
    -- a weight of 0 and one above 15 stand on lines that are right: writing refuses them
    ∷ record {
      text = text_of ("2 1 1" ∷ "0 10 2 3 0" ∷ "2 8 1 3 16" ∷ []);
      gives =
          Ok (record { table = table 1 1 (task 0 10 2 3 ∷ task 2 8 1 3 ∷ []); weights = 0 ∷ 16 ∷ replicate 62 0 });
    }
    -- a line as plain tables have it, one with six numbers, one with a weight that is no number
    ∷ record { text = text_of ("1 100 1" ∷ "0 2 100 50" ∷ []); gives = wrong_at 2 5 }
    ∷ record { text = text_of ("1 100 1" ∷ "0 2 100 50 1 1" ∷ []); gives = wrong_at 2 5 }
    ∷ record { text = text_of ("1 100 1" ∷ "0 2 100 50 x" ∷ []); gives = wrong_at 2 5 }
    -- a task that is missing, and one after the last
    ∷ record { text = text_of ("2 1 1" ∷ "0 5 1 1 1" ∷ []); gives = wrong_at 3 5 }
    ∷ record { text = text_of ("1 100 1" ∷ "0 2 100 50 1" ∷ "0 2 100 50 1" ∷ []); gives = wrong_at 3 0 }
    ∷ []

-- From a text to a file.
unfoldable pub weighted_file_samples : List FileSample
weighted_file_samples =
    record { text = p8_text; out = full 30; reply = bytes_reply 29; after = p8_file ++ full 1 }
    ∷ record { text = p8_text; out = full 28; reply = refusal_reply 9 0; after = full 28 }
    -- a line as plain tables have it
    ∷ record { text = text_of ("1 100 1" ∷ "0 2 100 50" ∷ []); out = full 14; reply = wrong_at 2 5; after = full 14 }
    -- a weight above 15; a weight of 0 before windows that do not nest, and after a field too wide
    ∷ record { text = text_of ("2 1 1" ∷ "0 9 1 1 15" ∷ "3 5 1 1 16" ∷ []); out = full 30; reply = refusal_reply 16 1; after = full 30 }
    ∷ record { text = text_of ("2 1 1" ∷ "0 5 1 1 1" ∷ "3 9 1 1 0" ∷ []); out = full 30; reply = refusal_reply 16 1; after = full 30 }
    ∷ record { text = text_of ("2 1 1" ∷ "0 9 1 1 0" ∷ "3 5 16384 1 1" ∷ []); out = full 30; reply = refusal_reply 12 1; after = full 30 }
    ∷ []

-- From a file to a text. A list of 6,825 bytes is long enough for every weighted table.
unfoldable pub weighted_shown_samples : List ShownSample
weighted_shown_samples =
    record { file = p8_file; out = full 6_825; reply = record { number = 0; place = 0; bytes = 38 }; after = p8_text ++ full 6_787 }
    ∷ record { file = p8_file; out = full 6_824; reply = record { number = 9; place = 0; bytes = 0 }; after = full 6_824 }
    -- a plain file of one task has a byte too few
    ∷ record { file = p4_file; out = full 3; reply = record { number = 1; place = 12; bytes = 0 }; after = full 3 }
    ∷ []

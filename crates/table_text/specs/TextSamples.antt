-- Sample texts and what each gives, a sample table and its text, and the replies that follow from them. What is expected is written in plain numbers.
use Rattle.std.specs.Prelude.{ℕ, List, [], ◌∷◌, ◌++◌, replicate}
use Rattle.std.specs.Prelude.{Result, Ok, Err}
use Rattle.lines.specs.Ascii.{ascii, text_of}
use Rattle.table.specs.declared.Table.{Table}
use Rattle.table.specs.declared.Written.{Written}
use Rattle.table.specs.TableSamples.{task, table, p4_table, p4_file, p8_table}
use Rattle.table_text.specs.declared.WrongLine.{WrongLine}

-- a text, and what it gives
pub record TextSample : Type 0 where
  pub text : List ℕ
  pub gives : Result Table WrongLine

-- one of them
abbrev pub sample : List ℕ → Result Table WrongLine → TextSample
sample text gives = record { text = text; gives = gives }

-- a wrong line, and how many numbers are due there
abbrev pub wrong_at : {A : Type 0} → ℕ → ℕ → Result A WrongLine
wrong_at line count = Err (record { line = line; due = count })

-- P4 and P8 as lines of text
abbrev pub p4_text : List ℕ
p4_text = text_of ("1 100 1" ∷ "0 2 100 50" ∷ [])

abbrev pub p8_text : List ℕ
p8_text = text_of ("3 1 1" ∷ "0 10 2 3" ∷ "2 8 1 3" ∷ "4 6 1 1" ∷ [])

-- P8's text where the line of task 2 has two numbers alone
abbrev pub cut_text : List ℕ
cut_text = text_of ("3 1 1" ∷ "0 10 2 3" ∷ "2 8 1 3" ∷ "4 6" ∷ [])

-- texts that are right, and texts with a wrong line
unfoldable pub text_samples : List TextSample
text_samples =
    -- P4; and P8, where the last line lacks its newline
    sample p4_text (Ok p4_table)
    ∷ sample (ascii "3 1 1\n0 10 2 3\n2 8 1 3\n4 6 1 1") (Ok p8_table)
    -- P4 with tabs, spaces and carriage returns, and blank lines at the end
    ∷ sample (text_of (" 1\t100  1\r" ∷ "0 2 100 50 \r" ∷ "" ∷ " " ∷ [])) (Ok p4_table)
    -- zeros in front, and the greatest number that a word may mean
    ∷ sample (text_of ("01 100 1" ∷ "0 2 00100 999999999" ∷ [])) (Ok (table 100 1 (task 0 2 100 999_999_999 ∷ [])))
    -- no text: line 1 is missing
    ∷ sample [] (wrong_at 1 3)
    -- line 1 has two numbers, and four
    ∷ sample (text_of ("1 100" ∷ "0 2 100 50" ∷ [])) (wrong_at 1 3)
    ∷ sample (text_of ("1 100 1 1" ∷ "0 2 100 50" ∷ [])) (wrong_at 1 3)
    -- line 2 has a word that is no number, a number above 999,999,999, three numbers, five
    ∷ sample (text_of ("1 100 1" ∷ "0 2 x 50" ∷ [])) (wrong_at 2 4)
    ∷ sample (text_of ("1 100 1" ∷ "0 2 1000000000 50" ∷ [])) (wrong_at 2 4)
    ∷ sample (text_of ("1 100 1" ∷ "0 2 100" ∷ [])) (wrong_at 2 4)
    ∷ sample (text_of ("1 100 1" ∷ "0 2 100 50 0" ∷ [])) (wrong_at 2 4)
    -- the bytes before 0 and after 9 are no digits
    ∷ sample (text_of ("1 100 1" ∷ "/ 2 100 50" ∷ [])) (wrong_at 2 4)
    ∷ sample (text_of ("1 100 1" ∷ ": 2 100 50" ∷ [])) (wrong_at 2 4)
    -- line 1 has two tasks, and one is there
    ∷ sample (text_of ("2 1 1" ∷ "0 5 1 1" ∷ [])) (wrong_at 3 4)
    -- a blank line before the task
    ∷ sample (text_of ("1 100 1" ∷ "" ∷ "0 2 100 50" ∷ [])) (wrong_at 2 4)
    -- a task after the last
    ∷ sample (text_of ("1 100 1" ∷ "0 2 100 50" ∷ "0 2 100 50" ∷ [])) (wrong_at 3 0)
    ∷ []

-- From a text to a file: a text, the list that is lent, the reply, and what the list holds then.
pub record FileSample : Type 0 where
  pub text : List ℕ
  pub out : List ℕ
  pub reply : Result Written WrongLine
  pub after : List ℕ

-- the replies where no line is wrong: a refusal of writing, and the bytes written
abbrev pub refusal_reply : ℕ → ℕ → Result Written WrongLine
refusal_reply number place = Ok (record { number = number; place = place; bytes = 0 })

abbrev pub bytes_reply : ℕ → Result Written WrongLine
bytes_reply bytes = Ok (record { number = 0; place = 0; bytes = bytes })

-- a list of so many places, each 255
abbrev pub full : ℕ → List ℕ
full places = replicate places 255

-- right texts, wrong lines, and refusals of writing
unfoldable pub file_samples : List FileSample
file_samples =
    -- a right text: its file, and what stood beyond it
    record { text = p4_text; out = full 14; reply = bytes_reply 12; after = p4_file ++ 255 ∷ 255 ∷ [] }
    -- a list just long enough, and one a byte too short
    ∷ record { text = p4_text; out = full 12; reply = bytes_reply 12; after = p4_file }
    ∷ record { text = p4_text; out = full 11; reply = refusal_reply 9 0; after = full 11 }
    -- a wrong line, before writing is asked: the first, a task's, one after the last task
    ∷ record { text = []; out = full 14; reply = wrong_at 1 3; after = full 14 }
    ∷ record { text = cut_text; out = full 28; reply = wrong_at 4 4; after = full 28 }
    ∷ record { text = text_of ("1 100 1" ∷ "0 2 100 50" ∷ "0 2 100 50" ∷ []); out = full 14; reply = wrong_at 3 0; after = full 14 }
    -- what writing refuses, with its place: p below q, a bad window
    ∷ record { text = text_of ("1 1 100" ∷ "0 2 100 50" ∷ []); out = full 14; reply = refusal_reply 5 0; after = full 14 }
    ∷ record { text = text_of ("2 1 1" ∷ "0 9 1 1" ∷ "3 3 1 1" ∷ []); out = full 20; reply = refusal_reply 6 1; after = full 20 }
    ∷ []

-- From a file to a text: a file, the list that is lent, the reply, and what the list holds then. A list of 5,460 bytes is long enough for every table.
pub record ShownSample : Type 0 where
  pub file : List ℕ
  pub out : List ℕ
  pub reply : Written
  pub after : List ℕ

-- a list on both sides of the bound, and a refusal of reading
unfoldable pub shown_samples : List ShownSample
shown_samples =
    -- a list just long enough, and one a byte too short
    record { file = p4_file; out = full 5_460; reply = record { number = 0; place = 0; bytes = 19 }; after = p4_text ++ full 5_441 }
    ∷ record { file = p4_file; out = full 5_459; reply = record { number = 9; place = 0; bytes = 0 }; after = full 5_459 }
    -- what reading refuses, with its place, before 9: a byte too many
    ∷ record { file = p4_file ++ 0 ∷ []; out = full 3; reply = record { number = 3; place = 12; bytes = 0 }; after = full 3 }
    ∷ []

-- a refusal of writing by its number and place, and the line that it is about
pub record RefusedLineSample : Type 0 where
  pub number : ℕ
  pub place : ℕ
  pub line : ℕ

-- every number that writing sends, and what is none
unfoldable pub refused_line_samples : List RefusedLineSample
refused_line_samples =
    -- about a task: the tasks stand on the lines from 2 on
    record { number = 12; place = 0; line = 2 }
    ∷ record { number = 6; place = 3; line = 5 }
    ∷ record { number = 7; place = 63; line = 65 }
    -- about the table as a whole: line 1
    ∷ record { number = 2; place = 0; line = 1 }
    ∷ record { number = 5; place = 0; line = 1 }
    ∷ record { number = 9; place = 0; line = 1 }
    -- no number that writing sends, and a place that is no position
    ∷ record { number = 8; place = 1; line = 1 }
    ∷ record { number = 12; place = 64; line = 1 }
    ∷ []

-- Table files and lines of text, one made from the other: what is replied, and what the lent list holds afterwards. Of plain tables, and of weighted ones.
use Rattle.std.specs.Prelude.{ℕ, ◌≡◌, List, ltb, length, take, IsOkAnd}
use Rattle.std.specs.Prelude.{Result, Ok, Err}
use Rattle.base.specs.Tests.{pick}
use Rattle.base.specs.Lent.{content_after}
use Rattle.table.specs.Answers.{Answer, number_of, place_of, is_accepted, declined, wrote}
use Rattle.table.specs.declared.Written.{Written}
use Rattle.table.specs.Reading.{table_in, read_answer}
use Rattle.table.specs.Writing.{file_of, write_reply, written_over}
use Rattle.weighted_file.specs.Weights.{weighted_in, weighted_answer, file_of_weighted, weighted_write_reply, weighted_written_over}
use Rattle.table_text.specs.declared.WrongLine.{WrongLine}
use Rattle.table_text.specs.TableText.{parse_reply, text_of_table, max_table_text}
use Rattle.table_text.specs.WeightedText.{weighted_parse_reply, weighted_text, max_weighted_text}

-- From a file to the text of its table.

-- the reply, by what reading answers and the text of the table that was read, for a list of `room` bytes: reading's refusals, then 9 for a list that is shorter
-- than the bound of every text, and else the bytes of the text
unfoldable pub shown_reply : ℕ → Answer → List ℕ → ℕ → Written
shown_reply bound answer text room =
    pick (is_accepted answer) (pick (ltb room bound) (declined 9 0) (wrote (length text))) (declined (number_of answer) (place_of answer))

-- what the list holds then: a refusal leaves it as it was
unfoldable pub shown_over : ℕ → Answer → List ℕ → List ℕ → List ℕ
shown_over bound answer text out = content_after (shown_reply bound answer text (length out)).number text out

-- of a plain file
unfoldable pub text_reply : List ℕ → ℕ → Written
text_reply file room = shown_reply max_table_text (read_answer file) (text_of_table (table_in file)) room

unfoldable pub text_over : List ℕ → List ℕ → List ℕ
text_over file out = shown_over max_table_text (read_answer file) (text_of_table (table_in file)) out

-- of a weighted file
unfoldable pub weighted_text_reply : List ℕ → ℕ → Written
weighted_text_reply file room = shown_reply max_weighted_text (weighted_answer file) (weighted_text (weighted_in file)) room

unfoldable pub weighted_text_over : List ℕ → List ℕ → List ℕ
weighted_text_over file out = shown_over max_weighted_text (weighted_answer file) (weighted_text (weighted_in file)) out

-- a text restores a file: it is parsed as the file's table, and the file of what is parsed is the file
pub record RestoresFile (file text : List ℕ) : Type 0 where
  pub table_is : parse_reply text ≡ Ok (table_in file)
  pub file_is : IsOkAnd (parse_reply text) (λ t. file_of t ≡ file)

-- the same of a weighted file
pub record RestoresWeighted (file text : List ℕ) : Type 0 where
  pub weighted_is : weighted_parse_reply text ≡ Ok (weighted_in file)
  pub file_is : IsOkAnd (weighted_parse_reply text) (λ w. file_of_weighted w ≡ file)

-- every text that is shown restores its file, in the sense of its form
abbrev pub TextRestores : (List ℕ → List ℕ → Type 0) → List ℕ → Written → List ℕ → Type 0
TextRestores Restores file reply after = reply.number ≡ 0 → Restores file (take reply.bytes after)

abbrev pub ShownRestores : List ℕ → Written → List ℕ → Type 0
ShownRestores = TextRestores RestoresFile

abbrev pub WeightedRestores : List ℕ → Written → List ℕ → Type 0
WeightedRestores = TextRestores RestoresWeighted

-- what is replied to an input and left in a lent list, `old` before: the text of its table, which restores the file, or a refusal
pub record ShowsText (input old : List ℕ) (reply : Written) (new : List ℕ) : Type 0 where
  pub reply_is : reply ≡ text_reply input (length old)
  pub content : new ≡ text_over input old
  pub restores : ShownRestores input reply new

-- the same of an input that is a weighted file
pub record ShowsWeighted (input old : List ℕ) (reply : Written) (new : List ℕ) : Type 0 where
  pub reply_is : reply ≡ weighted_text_reply input (length old)
  pub content : new ≡ weighted_text_over input old
  pub restores : WeightedRestores input reply new

-- From a text to the file of its table.

-- the reply, by what is found in the text and by what writing replies of a table: the wrong line, or writing's reply
unfoldable pub made_reply : {A : Type 0} → (A → Written) → Result A WrongLine → Result Written WrongLine
made_reply write (Ok found) = Ok (write found)
made_reply write (Err wrong) = Err wrong

-- what the list holds then, by what writing a table leaves in it: a wrong line and a refusal leave it as it was
unfoldable pub made_over : {A : Type 0} → (A → List ℕ) → Result A WrongLine → List ℕ → List ℕ
made_over written (Ok found) out = written found
made_over written (Err wrong) out = out

-- of the text of a plain table
unfoldable pub file_reply : List ℕ → ℕ → Result Written WrongLine
file_reply text room = made_reply (λ t. write_reply t room) (parse_reply text)

unfoldable pub file_over : List ℕ → List ℕ → List ℕ
file_over text out = made_over (λ t. written_over t out) (parse_reply text) out

-- of the text of a weighted one
unfoldable pub weighted_file_reply : List ℕ → ℕ → Result Written WrongLine
weighted_file_reply text room = made_reply (λ w. weighted_write_reply w room) (weighted_parse_reply text)

unfoldable pub weighted_file_over : List ℕ → List ℕ → List ℕ
weighted_file_over text out = made_over (λ w. weighted_written_over w out) (weighted_parse_reply text) out

-- What the programs `plan` and `now` print of an input: some numbers, which stand at its front, and then a table file.
use Rattle.std.specs.Prelude.{ℕ, ◌+◌, ◌*◌, List, ltb, length, get_or, drop}
use Rattle.base.specs.Tests.{pick}
use Rattle.table.specs.Layout.{file_bytes_read, FirstOf}
use Rattle.printed_plan.specs.Printing.{refusal_text, printed, Prints}
use Rattle.printed_plan.specs.NowText.{now_text}

-- the bytes of a number
abbrev pub number_bytes : ℕ
number_bytes = 4

-- the number at the front of some bytes: 'as 4 bytes, high byte first'
unfoldable pub number_in : List ℕ → ℕ
number_in bytes = ((get_or bytes 0 0 * 256 + get_or bytes 1 0) * 256 + get_or bytes 2 0) * 256 + get_or bytes 3 0

-- the numbers of an input: the launch tick, the tick that is asked about, and the number of ticks from it on
abbrev pub launch_in : List ℕ → ℕ
launch_in input = number_in input

abbrev pub tick_in : List ℕ → ℕ
tick_in input = number_in (drop number_bytes input)

abbrev pub span_in : List ℕ → ℕ
span_in input = number_in (drop (2 * number_bytes) input)

-- how many bytes are read of an input that has `front` bytes of numbers: one more than the longest input that is accepted has. What is printed of an input
-- follows from them (`output_prefix`).
abbrev pub input_bytes : ℕ → ℕ
input_bytes front = front + file_bytes_read

-- the text printed of an input that has `front` bytes of numbers: of one that is too short for them REFUSED 1 with its length, and else what is made of it
unfoldable pub output_of : ℕ → (List ℕ → List ℕ) → List ℕ → List ℕ
output_of front text input = pick (ltb (length input) front) (refusal_text 1 (length input)) (text input)

-- The program `plan`: the launch tick, and the file; 'an input of fewer than 4 bytes prints REFUSED 1 with the input's length'.

-- the bytes before the file
abbrev pub plan_front : ℕ
plan_front = number_bytes

-- the text of an input that is long enough: that of its file at its launch tick
abbrev pub plan_of_input : List ℕ → List ℕ
plan_of_input input = printed (launch_in input) (drop plan_front input)

-- the text of every input
abbrev pub plan_output : List ℕ → List ℕ
plan_output = output_of plan_front plan_of_input

-- The program `now`: the launch tick, the tick, the number of ticks, and the file.

-- the bytes before the file
abbrev pub now_front : ℕ
now_front = 3 * number_bytes

-- the text of an input that is long enough: that of its file for its numbers
abbrev pub now_of_input : List ℕ → List ℕ
now_of_input input = now_text (launch_in input) (tick_in input) (span_in input) (drop now_front input)

-- the text of every input
abbrev pub now_output : List ℕ → List ℕ
now_output = output_of now_front now_of_input

-- Printing from the first bytes of an input: the first `filled` places of `first` hold its first `size` bytes, or all of it. Of every such input the whole
-- text is printed.
abbrev pub PrintsFromFirst : (List ℕ → List ℕ) → ℕ → List ℕ → ℕ → List ℕ → ℕ → List ℕ → Type 0
PrintsFromFirst output size first filled old bytes new = (input : List ℕ) → FirstOf size first filled input → Prints (output input) old bytes new

-- What reading answers, as document 01's table of refusals has it, 7 as request 1 and 16 as request 7 has it: for each case the number and the place. And the
-- replies of calls that write bytes.
use Rattle.std.specs.Prelude.{ℕ, Bool, ltb, is_ok, Result, Ok, Err}
use Rattle.base.specs.Tests.{pick}
use Rattle.base.specs.Lowest.{lowest}
use Rattle.table.specs.declared.Refusal.{Refusal}
use Rattle.table.specs.declared.Refusal.TheVariants.{Short, Count, Long, Padding, Period, Window, Kind, Weight}
use Rattle.table.specs.declared.Written.{Written}
use Rattle.table.specs.declared.WriteRefusal.{WriteRefusal}
use Rattle.table.specs.declared.WriteRefusal.TheVariants.{Rule, Wide, Outside, Room}

-- an answer: nothing is refused, or the refusal
abbrev pub Answer : Type 0
Answer = Result (Unit {0}) Refusal

abbrev pub Accepted : Answer
Accepted = Ok tt

-- the number of a refusal
abbrev pub refusal_number : Refusal → ℕ
refusal_number (Short length) = 1
refusal_number Count = 2
refusal_number (Long needed) = 3
refusal_number Padding = 4
refusal_number Period = 5
refusal_number (Window position) = 6
refusal_number (Kind position) = 7
refusal_number (Weight position) = 16

-- the place of a refusal: the file length, the length needed, a position, or 0
abbrev pub refusal_place : Refusal → ℕ
refusal_place (Short length) = length
refusal_place Count = 0
refusal_place (Long needed) = needed
refusal_place Padding = 0
refusal_place Period = 0
refusal_place (Window position) = position
refusal_place (Kind position) = position
refusal_place (Weight position) = position

-- the number and the place of an answer; both are 0 where nothing is refused
abbrev pub number_of : Answer → ℕ
number_of (Ok accepted) = 0
number_of (Err refusal) = refusal_number refusal

abbrev pub place_of : Answer → ℕ
place_of (Ok accepted) = 0
place_of (Err refusal) = refusal_place refusal

-- nothing is refused
abbrev pub is_accepted : Answer → Bool
is_accepted = is_ok

-- what a call returns that answers so: its value where nothing is refused, and else the refusal
abbrev pub answered : {A : Type 0} → Answer → A → Result A Refusal
answered (Ok accepted) value = Ok value
answered (Err refusal) value = Err refusal

-- what such a call answers
abbrev pub answer_of : {A : Type 0} → Result A Refusal → Answer
answer_of (Ok value) = Accepted
answer_of (Err refusal) = Err refusal

-- what two answers come to, one after the other: the first where it refuses, and else the second
abbrev pub first_refusal : Answer → Answer → Answer
first_refusal first second = pick (is_accepted first) second first

-- the refusal that names the lowest position below n that passes a test; where none does, nothing is refused
abbrev pub lowest_refusal : (ℕ → Refusal) → (ℕ → Bool) → ℕ → Answer
lowest_refusal refusal test n = pick (ltb (lowest test n) n) (Err (refusal (lowest test n))) Accepted

-- the reply of a call that writes bytes (writing, moving, a table as text) where it refuses, and the one that reports bytes written: parts that are not named
-- are 0
abbrev pub declined : ℕ → ℕ → Written
declined number place = record { number = number; place = place; bytes = 0 }

abbrev pub wrote : ℕ → Written
wrote bytes = record { number = 0; place = 0; bytes = bytes }

-- the number and the place of a refusal of such a call
abbrev pub write_number : WriteRefusal → ℕ
write_number (Rule refusal) = refusal_number refusal
write_number (Wide position) = 12
write_number (Outside position) = 10
write_number Room = 9

abbrev pub write_place : WriteRefusal → ℕ
write_place (Rule refusal) = refusal_place refusal
write_place (Wide position) = position
write_place (Outside position) = position
write_place Room = 0

-- the reply of such a call by what it comes to
abbrev pub written_of : Result ℕ WriteRefusal → Written
written_of (Ok bytes) = wrote bytes
written_of (Err refusal) = declined (write_number refusal) (write_place refusal)

-- The check of a run list, whoever made it: what the busy count and the queries refuse before they look at anything else. 13, then 15 with the index of
-- the first run whose start is not below its end or lies before the previous end.
use Rattle.std.specs.Prelude.{ℕ, zero, suc, List, Bool, not, ltb, length, get_or, Result, Ok, Err, is_ok}
use Rattle.base.specs.Tests.{pick, or}
use Rattle.base.specs.Lowest.{lowest}
use Rattle.schedule.specs.declared.Run.{Run}
use Rattle.schedule.specs.declared.RunsRefusal.{RunsRefusal}
use Rattle.schedule.specs.declared.RunsRefusal.TheVariants.{TooMany, OutOfOrder}
use Rattle.schedule.specs.Runs.{no_run, too_many}

-- the end of the run before index k; before the first run there is none, and no start lies before tick 0
abbrev pub previous_end : List Run → ℕ → ℕ
previous_end runs zero = 0
previous_end runs (suc k) = (get_or runs k no_run).end

-- the start of the run at index k is not below its end, or lies before the previous end
unfoldable pub out_of_order : List Run → ℕ → Bool
out_of_order runs k =
    or (not (ltb (get_or runs k no_run).start (get_or runs k no_run).end)) (ltb (get_or runs k no_run).start (previous_end runs k))

-- the index of the first run that is out of order, and the number of runs where none is
unfoldable pub first_out_of_order : List Run → ℕ
first_out_of_order runs = lowest (out_of_order runs) (length runs)

-- what the check of a run list answers: that it is accepted, or why it is refused
abbrev pub RunsChecked : Type 0
RunsChecked = Result (Unit {0}) RunsRefusal

-- the one answer that accepts
abbrev pub Accepted : RunsChecked
Accepted = Ok tt

unfoldable pub check_answer : List Run → RunsChecked
check_answer runs =
    pick (too_many runs) (Err TooMany)
    (pick (ltb (first_out_of_order runs) (length runs)) (Err (OutOfOrder (first_out_of_order runs))) Accepted)

-- the number and the place of each refusal, and of each answer, where those of the one that accepts are 0
abbrev pub refusal_number : RunsRefusal → ℕ
refusal_number TooMany = 13
refusal_number (OutOfOrder index) = 15

abbrev pub refusal_place : RunsRefusal → ℕ
refusal_place TooMany = 0
refusal_place (OutOfOrder index) = index

abbrev pub runs_number : RunsChecked → ℕ
runs_number (Ok done) = 0
runs_number (Err refusal) = refusal_number refusal

abbrev pub runs_place : RunsChecked → ℕ
runs_place (Ok done) = 0
runs_place (Err refusal) = refusal_place refusal

-- the check accepts the run list
abbrev pub runs_accepted : RunsChecked → Bool
runs_accepted answer = is_ok answer

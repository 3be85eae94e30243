-- How the samples write what is given and what is expected: runs, lists and replies, each by its plain numbers, as TableSamples of table does with tasks and
-- tables. None of the definitions that the samples are about is used here, so a reply that is expected says what it says whatever they are.
use Rattle.std.specs.Prelude.{ℕ, true, false, List}
use Rattle.table.specs.declared.Written.{Written}
use Rattle.schedule.specs.declared.Run.{Run}
use Rattle.schedule.specs.declared.Judged.{Judged}
use Rattle.schedule.specs.declared.Busy.{Busy}
use Rattle.plans.specs.declared.Planned.{Planned}
use Rattle.plans.specs.Planning.{LentLists}

-- a run by its start, its end and its task
abbrev pub run : ℕ → ℕ → ℕ → Run
run start end task = record { start = start; end = end; task = task }

-- the lists that are lent to planning, by what they hold
abbrev pub lists_of : List ℕ → List ℕ → List ℕ → List ℕ → LentLists
lists_of marks starts ends tasks = record { marks = marks; starts = starts; ends = ends; tasks = tasks }

-- the replies of writing and of moving: a refusal, and the bytes written
abbrev pub not_written : ℕ → ℕ → Written
not_written number place = record { number = number; place = place; bytes = 0 }

abbrev pub bytes_written : ℕ → Written
bytes_written bytes = record { number = 0; place = 0; bytes = bytes }

-- the replies of planning: a refusal, and a plan with its kept, discarded and number of runs
abbrev pub not_planned : ℕ → ℕ → Planned
not_planned number place = record { number = number; place = place; kept = 0; discarded = 0; runs = 0 }

abbrev pub plan_with : ℕ → ℕ → ℕ → Planned
plan_with kept discarded runs = record { number = 0; place = 0; kept = kept; discarded = discarded; runs = runs }

-- the replies of judging: a refusal, a no, and a yes with its counts
abbrev pub not_judged : ℕ → ℕ → Judged
not_judged number place = record { number = number; place = place; yes = false; kept = 0; discarded = 0 }

abbrev pub judged_no : Judged
judged_no = record { number = 0; place = 0; yes = false; kept = 0; discarded = 0 }

abbrev pub judged_yes : ℕ → ℕ → Judged
judged_yes kept discarded = record { number = 0; place = 0; yes = true; kept = kept; discarded = discarded }

-- the replies of the busy count: a refusal, and its sum
abbrev pub not_counted : ℕ → ℕ → Busy
not_counted number place = record { number = number; place = place; ticks = 0 }

abbrev pub counted_ticks : ℕ → Busy
counted_ticks ticks = record { number = 0; place = 0; ticks = ticks }

-- The busy count of an interval from a to b, of a run list that the check accepts: over all runs, the ticks that the run shares with the interval. It is
-- the number of ticks of the interval that some run holds.
use Rattle.std.specs.Prelude.{ℕ, ◌-◌, ◌≤◌, min, max, ◌≡◌, List}
use Rattle.base.specs.Tests.{pick}
use Rattle.schedule.specs.declared.Busy.{Busy}
use Rattle.schedule.specs.declared.Run.{Run}
use Rattle.schedule.specs.Ticks.{ticks_owned}
use Rattle.schedule.specs.Runs.{sum_runs, owner_of}
use Rattle.schedule.specs.RunCheck.{check_answer, runs_number, runs_place, runs_accepted}

-- the ticks that a run shares with the interval: from the later start to the earlier end, and none where that end is not after that start
unfoldable pub shared : ℕ → ℕ → Run → ℕ
shared a b run = min run.end b - max run.start a

-- the sum over all runs
abbrev pub busy_sum : ℕ → ℕ → List Run → ℕ
busy_sum a b runs = sum_runs (shared a b) runs

-- the reply of the busy count: number and place are those of the check, whatever a and b are, and the ticks of a refused list are 0
unfoldable pub busy_reply : List Run → ℕ → ℕ → Busy
busy_reply runs a b = record {
  number = runs_number (check_answer runs);
  place = runs_place (check_answer runs);
  ticks = pick (runs_accepted (check_answer runs)) (busy_sum a b runs) 0;
}

-- what an accepted count tells: it is the number of ticks of the interval that some run holds, counted tick by tick, and so at most the number of ticks
-- that the interval has, which is 0 where a is not below b
abbrev pub CountsTicks : List Run → ℕ → ℕ → Busy → Type 0
CountsTicks runs a b reply = reply.number ≡ 0 → (reply.ticks ≡ ticks_owned (owner_of runs) a b) × (reply.ticks ≤ b - a)

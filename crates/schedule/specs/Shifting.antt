-- Runs that lie later by a number of ticks.
use Rattle.std.specs.Prelude.{ℕ, ◌+◌, List, map}
use Rattle.schedule.specs.declared.Run.{Run}

-- a run later by c ticks
abbrev pub later_run : ℕ → Run → Run
later_run c run = record { start = run.start + c; end = run.end + c; task = run.task }

-- runs later by c ticks
abbrev pub later_runs : ℕ → List Run → List Run
later_runs c runs = map (later_run c) runs

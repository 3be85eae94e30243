-- `schedule::runs_of` meets its contract. The loop's invariant: the array keeps its places, and those below `i` hold their runs.
use Rattle.std.proofs.Common.{◌≡◌, ◌<◌, ℕ, length, get_or}
use Rattle.schedule.specs.Runs.{no_run, run_at_index}
use Rattle.schedule.proofs.runs_of.Given as goal

abbrev pub invariant-loop-i : goal.invariant-loop-i
invariant-loop-i g l = record {
  places : length l.runs ≡ g.row.N;
  filled : (k : ℕ) → k < l.i → get_or l.runs k no_run ≡ run_at_index l.starts l.ends l.tasks k;
}

-- `reading::take_windows` meets its contract: the columns hold the frames of the tasks below `k`, and the cursor stands at task `k`.
use Rattle.std.proofs.Common.{◌≡◌}
use Rattle.table.specs.Layout.{task_start}
use Rattle.table.specs.Reading.{task_in}
use Rattle.table.proofs.WindowLaws.{FramesFilled}
use Rattle.reading.proofs.take_windows.Given as goal

abbrev pub invariant-loop-k : goal.invariant-loop-k
invariant-loop-k l =
    (l.at.at ≡ task_start l.k) × (l.windows.count ≡ l.count) × FramesFilled (task_in l.file) l.k l.windows.releases l.windows.deadlines

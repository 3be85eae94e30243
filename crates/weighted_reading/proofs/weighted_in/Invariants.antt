-- `weighted_reading::weighted_in` meets its contract: the places below `k` hold their tasks and weights, and the cursor stands at row `k`.
use Rattle.std.proofs.Common.{◌≡◌, get_or}
use Rattle.base.specs.Limits.{max_tasks}
use Rattle.base.proofs.ArrayFilling.{Filled}
use Rattle.table.specs.Tables.{no_task, task_of}
use Rattle.table.specs.Layout.{row_start}
use Rattle.weighted_file.specs.Weights.{weighted_width}
use Rattle.weighted_reading.proofs.ReadLaws.{row_at}
use Rattle.weighted_reading.proofs.weighted_in.Given as goal

abbrev pub invariant-loop-k : goal.invariant-loop-k
invariant-loop-k l =
    let header = l.fn.header in
    let table = l.weighted.table in
    (l.at.at ≡ row_start weighted_width l.k)
    × ((table.count ≡ header.count) × (table.p ≡ header.p) × (table.q ≡ header.q))
    × Filled no_task (λ k. task_of (row_at l.file k)) max_tasks header.count l.k table.tasks
    × Filled 0 (λ k. get_or (row_at l.file k) 4 0) max_tasks header.count l.k l.weighted.weights

-- For proofs alone: what reading a weighted file returns, without the weights.
use Rattle.std.specs.Prelude.{Result, Ok, Err}
use Rattle.table.specs.declared.Table.{Table}
use Rattle.table.specs.declared.Refusal.{Refusal}
use Rattle.weighted_file.specs.declared.Weighted.{Weighted}

-- the table of the weighted table, or the refusal
abbrev pub without_weights : Result Weighted Refusal → Result Table Refusal
without_weights (Ok weighted) = Ok weighted.table
without_weights (Err refusal) = Err refusal

-- What `weighted_reading::read_table` returns is that of the weighted file.
use mathlib.Core.Path.{◌≡◌, refl, ◌∙◌}
use Prim.Native.Nat.{ℕ}
use mathlib.Core.List.{List}
use Rattle.std.specs.Prelude.{Result, Ok, Err}
use Rattle.table.specs.Answers.{Answer, answered}
use Rattle.table.specs.LegalReads.{Reads}
use Rattle.table.specs.declared.Refusal.{Refusal}
use Rattle.table.specs.declared.Table.{Table}
use Rattle.weighted_file.specs.declared.Weighted.{Weighted}
use Rattle.weighted_file.specs.Weights.{weighted_read, weighted_read_result}
use Rattle.weighted_reading.specs.TablesRead.{without_weights}

without_answered : (answer : Answer) (weighted : Weighted) → without_weights (answered answer weighted) ≡ answered answer weighted.table
without_answered (Ok accepted) weighted = refl
without_answered (Err refusal) weighted = refl

pub weighted_reads : (s : List ℕ) (result : Result Table Refusal) → result ≡ without_weights (weighted_read_result s) → Reads (weighted_read s) result
unfolding weighted_read_result
weighted_reads s result e = e ∙ without_answered _ _

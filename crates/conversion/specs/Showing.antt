-- For the proofs of conversion's code alone: the text of a table that was read, with the first `width` numbers of each task and its weight. Four of them make a
-- plain table's text, and five a weighted one's.
use Rattle.std.specs.Prelude.{ℕ, List, [], take, replicate, Result, Ok, Err}
use Rattle.base.specs.Limits.{max_tasks}
use Rattle.table.specs.declared.Refusal.{Refusal}
use Rattle.table.specs.declared.Table.{Table}
use Rattle.table_text.specs.TableText.{rows_text}
use Rattle.weighted_file.specs.declared.Weighted.{Weighted}
use Rattle.weighted_file.specs.Weights.{weighted_row}

-- a plain table, as it is shown: its weights are 0
abbrev pub unweighted : Table → Weighted
unweighted t = record { table = t; weights = replicate max_tasks 0 }

-- the numbers of the task at a position
unfoldable pub shown_row : ℕ → Weighted → ℕ → List ℕ
shown_row width w k = take width (weighted_row w k)

-- the text
unfoldable pub shown_text : ℕ → Weighted → List ℕ
shown_text width w = rows_text w.table.count w.table.p w.table.q (shown_row width w)

-- the text of what was read; of a refusal there is none
unfoldable pub read_text : ℕ → Result Weighted Refusal → List ℕ
read_text width (Ok weighted) = shown_text width weighted
read_text width (Err refusal) = []

-- `judging::verdict_lent` meets its contract: columns are as many runs as they have starts.
use Rattle.std.proofs.Common.{ap, length, arith}
use Rattle.schedule.proofs.ColumnLaws.{columns_length}
use Rattle.judging.specs.Lending.{lent_runs}
use Rattle.judging.specs.declared.Lent.{Lent}
use Rattle.judging.proofs.verdict_lent.Goals as goal

pub verdict_of_columns-requires-clause-runs_len : goal.verdict_of_columns-requires-clause-runs_len
verdict_of_columns-requires-clause-runs_len c =
    let columns = c.in-Columns in
    let many = columns_length columns.starts.now columns.ends.now columns.tasks.now in
    omega (arith, c.requires.runs_len, ap (λ (runs : Lent). length (lent_runs runs)) columns.is, many)

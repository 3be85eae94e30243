-- `judging::lent_count` meets its contract: columns are as many runs as they have starts.
use Rattle.std.proofs.Common.{sym, ap, ◌∙◌, length}
use Rattle.schedule.proofs.ColumnLaws.{columns_length}
use Rattle.judging.specs.Lending.{lent_runs}
use Rattle.judging.specs.declared.Lent.{Lent}
use Rattle.judging.proofs.lent_count.Goals as goal

pub returns-in-Columns : goal.returns-in-Columns
returns-in-Columns c = sym (ap (λ (runs : Lent). length (lent_runs runs)) c.in-Columns.is ∙ columns_length _ _ _)

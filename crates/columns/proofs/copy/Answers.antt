-- `columns::copy` meets its contract.
use mathlib.Core.Path.{ap, ◌∙◌}
use mathlib.Core.List.{List, ◌++◌}
use Prim.Native.Nat.{ℕ}
use lib.ListN.{drop}
use Rattle.columns.proofs.ColumnLaws.{part_places}
use Rattle.columns.proofs.copy.Goals as goal

pub returns : goal.returns
returns c =
    ap (λ (front : List ℕ). front ++ drop c.args.count c.args.out.now)
    (c.copy_from_slice.ensures.after ∙ part_places c.args.column.now c.args.first c.args.count c.requires.count_in_bounds)

-- `placing::insert_run` meets its contract.
use Rattle.placement.proofs.RunColumns.{columns_inserted}
use Rattle.placing.proofs.insert_run.Goals as goal

pub returns : goal.returns
returns c =
    columns_inserted _ _ _ _ _ _ _ _ _ _ _ c.requires.at_le_end c.insert.ensures.1 c.insert-2.ensures.1 c.insert-3.ensures.1

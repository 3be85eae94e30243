-- `weighted_file::Weighted::none` meets its contract.
use Rattle.base.specs.Places.{places_from, places}
use Rattle.weighted_file.specs.Weights.{no_weighted}
use Rattle.weighted_file.proofs.Weighted.none.Goals as goal

pub returns : goal.returns
unfolding no_weighted places places_from
returns c =
    rw c.none-table.ensures

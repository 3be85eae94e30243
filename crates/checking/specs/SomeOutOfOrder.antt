-- For the proofs of the code alone: whether some run of a list is out of order.
use Rattle.std.specs.Prelude.{List, Bool, length}
use Rattle.base.specs.Lowest.{some_below}
use Rattle.schedule.specs.declared.Run.{Run}
use Rattle.schedule.specs.RunCheck.{out_of_order}

-- some run is
abbrev pub some_out_of_order : List Run → Bool
some_out_of_order runs = some_below (out_of_order runs) (length runs)

-- `busy::shared_ticks` meets its contract.
use Rattle.std.proofs.Common.{rules}
use Rattle.schedule.specs.BusyCount.{shared}
use Rattle.busy.proofs.shared_ticks.Goals as goal

pub returns : goal.returns
unfolding shared
returns c = search rules

-- `planner::too_short` meets its contract.
use Prim.Native.Nat.{◌-◌, ◌*◌}
use lib.Dec.{ltb}
use Rattle.base.proofs.TestLaws.{cases}
use Rattle.plans.specs.Planning.{too_short}
use Rattle.planner.proofs.too_short.Goals as goal

pub returns : goal.returns
unfolding too_short
returns c =
    let runs = 2 * c.args.n - 1 in
    cases (ltb c.args.marks c.args.n)
    (λ e. rw e)
    (λ e. rw e (cases (ltb c.args.starts runs) (λ f. rw f) (λ f. rw f)))

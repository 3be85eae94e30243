-- `sequencing::free_limits` meets its contract.
use mathlib.Core.Path.{sym}
use native.Mathlib.Omega.{arith}
use Rattle.sequence.proofs.BesideLaws.{free_none, free_some}
use Rattle.sequencing.proofs.free_limits.Goals as goal

pub returns-then-job-eq0 : goal.returns-then-job-eq0
returns-then-job-eq0 c =
    let f = free_none c.args.job c.args.kept.from c.args.kept.room (omega arith) in
    (sym f.0, sym f.1)

pub returns : goal.returns
returns c =
    let f = free_some c.args.job c.args.kept.from c.args.kept.room (omega arith) in
    (sym f.0, sym f.1)

-- `report::put_plan` meets its contract: each part stands behind the one before it.
use native.Mathlib.Omega.{arith}
use Rattle.lines.proofs.PutLaws.{put_three}
use Rattle.printed_plan.specs.Printing.{plan_lines}
use Rattle.report.proofs.put_plan.Goals as goal

pub returns : goal.returns
unfolding plan_lines
returns c =
    put_three _ _ _ _ _ _ _ _ _ _ _ (omega (arith, c.requires.tasks_in_bounds))
    (rw (c.from.ensures, c.from-2.ensures, c.from-3.ensures) at c.put_line-drops.ensures) c.put_drops-runs.ensures c.put_runs.ensures

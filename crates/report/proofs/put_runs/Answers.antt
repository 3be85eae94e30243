use Rattle.schedule.specs.Runs.{run_at_index, runs_of}
use Rattle.printed_plan.specs.Printing.{run_line, run_lines}
use Rattle.lines.proofs.PutLaws.{putting_start, putting_fits, putting_step, putting_end}
use Rattle.printed_plan.proofs.LineLaws.{runs_start, runs_step, runs_end}
use Rattle.report.proofs.put_runs.Goals as goal

pub loop-i-init : goal.loop-i-init
loop-i-init c =
    let a = c.args in
    rw (← runs_start a.starts.now a.ends.now a.tasks.now)
    (putting_start (run_lines (runs_of a.starts.now a.ends.now a.tasks.now)) a.at a.out.now c.requires.tasks_in_bounds)

pub put_run-next-requires : goal.put_run-next-requires
unfolding run_line run_at_index
put_run-next-requires c =
    let a = c.args in
    putting_fits _ _ _ c.requires.tasks_in_bounds (run_line (run_at_index a.starts.now a.ends.now a.tasks.now c.loop-i.i)) _ _ _
    (rw (runs_step a.starts.now a.ends.now a.tasks.now c.loop-i.i c.loop-i-test.true) at c.loop-i.invariant)

pub loop-i-preserved : goal.loop-i-preserved
unfolding run_line run_at_index
loop-i-preserved c =
    let a = c.args in
    putting_step _ _ _ c.requires.tasks_in_bounds _ _ _ _ _ _
    (rw (runs_step a.starts.now a.ends.now a.tasks.now c.loop-i.i c.loop-i-test.true) at c.loop-i.invariant) c.put_run-next.ensures

pub returns : goal.returns
returns c =
    let a = c.args in
    putting_end _ _ _ c.requires.tasks_in_bounds _ _
    (rw (runs_end a.starts.now a.ends.now a.tasks.now c.loop-i.i c.loop-i-test.false) at c.loop-i.invariant)

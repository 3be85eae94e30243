-- `report::put_runs` meets its contract. The loop's invariant: what is left is the RUN lines of the runs that come.
use Rattle.lines.proofs.PutLaws.{Putting}
use Rattle.schedule.specs.Runs.{runs_of}
use Rattle.printed_plan.specs.Printing.{run_lines}
use Rattle.printed_plan.proofs.LineLaws.{runs_left}
use Rattle.report.proofs.put_runs.Given as goal

abbrev pub invariant-loop-i : goal.invariant-loop-i
invariant-loop-i l = Putting (run_lines (runs_of l.starts l.ends l.tasks)) l.at l.initial.out (runs_left l.starts l.ends l.tasks l.i) l.next l.out

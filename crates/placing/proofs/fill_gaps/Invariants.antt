-- `placing::fill_gaps` meets its contract. The loop's invariant: the gaps above the runs from place k on are filled.
use Rattle.schedule.specs.Runs.{run_at_index}
use Rattle.placement.specs.HeldRuns.{Room}
use Rattle.placement.proofs.FillLaws.{Passed}
use Rattle.placing.proofs.fill_gaps.Given as goal

abbrev pub invariant-loop-k : goal.invariant-loop-k
invariant-loop-k l =
    Room l.starts l.ends l.tasks × Passed (run_at_index l.initial.starts l.initial.ends l.initial.tasks) l.fn.span l.job l.work (run_at_index l.starts l.ends l.tasks) l.k l.end l.top l.left

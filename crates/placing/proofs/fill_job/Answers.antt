-- `placing::fill_job` meets its contract.
use Prim.Native.Nat.{ℕ, ◌-◌, ◌≤◌, ◌<◌}
use mathlib.Core.Path.{◌≡◌, sym, ◌∙◌}
use native.Mathlib.Omega.{arith}
use lib.ListN.{set}
use Rattle.schedule.specs.Runs.{run_at_index}
use Rattle.placement.specs.HeldRuns.{runs_down, bottom_of}
use Rattle.placement.proofs.HeldLaws.{runs_none, runs_bottom}
use Rattle.placement.proofs.RunColumns.{columns_here, columns_other}
use Rattle.placement.proofs.FillLaws.{below_none, below-some, below-held}
use Rattle.placing.proofs.fill_job.Goals.{else-first-end, then-first-end}
use Rattle.placing.proofs.fill_job.Goals as goal

pub returns-then-n-eq0 : goal.returns-then-n-eq0
unfolding run_at_index bottom_of
returns-then-n-eq0 c =
    let at_top : c.if-first-end.top ≡ bottom_of c.args.job.deadline (runs_down (run_at_index c.fill_gaps-filled.new.starts c.fill_gaps-filled.new.ends c.fill_gaps-filled.new.tasks) c.args.span.first c.fill_gaps-filled.result.end) =
    let at = run_at_index c.fill_gaps-filled.new.starts c.fill_gaps-filled.new.ends c.fill_gaps-filled.new.tasks in
    elim c.if-first-end.branch [ then-first-end w ↦ w.top-is ∙ sym (runs_bottom at c.args.span.first c.fill_gaps-filled.result.end c.args.job.deadline w.if-first-end.true) | else-first-end w ↦ rw (runs_none at c.args.span.first c.fill_gaps-filled.result.end w.if-first-end.false) w.top-is ] in
    let none : c.gap_ticks-n.result ≡ 0 = omega arith in
    record { first_le_first = (omega arith, omega arith); held_2 = c.fill_gaps-filled.ensures.held; end_value = below_none _ _ _ _ _ _ _ _ _ c.fill_gaps-filled.ensures (at_top) c.gap_ticks-n.ensures none }

pub returns : goal.returns
unfolding run_at_index bottom_of
returns c =
    let at_top : c.if-first-end.top ≡ bottom_of c.args.job.deadline (runs_down (run_at_index c.fill_gaps-filled.new.starts c.fill_gaps-filled.new.ends c.fill_gaps-filled.new.tasks) c.args.span.first c.fill_gaps-filled.result.end) =
    let at = run_at_index c.fill_gaps-filled.new.starts c.fill_gaps-filled.new.ends c.fill_gaps-filled.new.tasks in
    elim c.if-first-end.branch [ then-first-end w ↦ w.top-is ∙ sym (runs_bottom at c.args.span.first c.fill_gaps-filled.result.end c.args.job.deadline w.if-first-end.true) | else-first-end w ↦ rw (runs_none at c.args.span.first c.fill_gaps-filled.result.end w.if-first-end.false) w.top-is ] in
    let top = c.if-first-end.top in
    let n = c.gap_ticks-n.result in
    let front = c.args.span.first - 1 in
    let starts = c.fill_gaps-filled.new.starts in
    let ends = c.fill_gaps-filled.new.ends in
    let tasks = c.fill_gaps-filled.new.tasks in
    let some : 0 < n = omega arith in
    let here = columns_here starts ends tasks front c.args.job.position top n (omega arith) (omega arith) (omega arith) in
    let other : (j : ℕ) → c.args.span.first ≤ j → run_at_index (set starts front (top - n)) (set ends front top) (set tasks front c.args.job.position) j ≡ run_at_index starts ends tasks j =
    λ j l. columns_other starts ends tasks front c.args.job.position top n j (omega arith) in
    let bottom = at_top in
    let gap = c.gap_ticks-n.ensures in
    record { first_le_first = (omega arith, omega arith); held_2 = below-held _ _ _ _ _ _ _ _ _ c.fill_gaps-filled.ensures bottom gap _ some (omega arith) other here; end_value = below-some _ _ _ _ _ _ _ _ _ c.fill_gaps-filled.ensures bottom gap _ some (omega arith) other here }

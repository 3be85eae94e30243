use Prim.Native.Nat.{◌+◌, ◌-◌, ◌≤◌, ◌<◌, min}
use mathlib.Core.Path.{◌≡◌}
use native.Mathlib.Omega.{arith}
use Rattle.base.specs.Limits.{max_tasks, max_plan_runs}
use Rattle.schedule.specs.Runs.{run_at_index}
use Rattle.placement.specs.HeldRuns.{Room}
use Rattle.placement.proofs.FillLaws.{Passed, span_room, passed_start, passed-room, passed-some, passed_none, passed-done, passed_all}
use Rattle.placing.proofs.fill_gaps.Goals.{else-n-gt0, then-n-gt0}
use Rattle.placing.proofs.fill_gaps.Goals as goal

pub loop-k-init : goal.loop-k-init
loop-k-init c =
    (c.requires.room, passed_start _ _ _ _ c.requires.held)

pub returns-then-left-eq0 : goal.returns-then-left-eq0
returns-then-left-eq0 c =
    passed-done _ _ _ _ c.requires.held _ _ _ _ _ c.loop-k.invariant.1 (omega arith)

pub offset_bounds-ends-k : goal.offset_bounds-ends-k
offset_bounds-ends-k c =
    let span-within : c.args.span.end ≤ max_tasks + max_plan_runs =
    omega (arith, span_room (run_at_index c.args.starts.now c.args.ends.now c.args.tasks.now) c.args.span c.args.job c.args.work) in
    omega (arith, span-within)

pub bounds-ends-k : goal.bounds-ends-k
bounds-ends-k c =
    let span-within : c.args.span.end ≤ max_tasks + max_plan_runs =
    omega (arith, span_room (run_at_index c.args.starts.now c.args.ends.now c.args.tasks.now) c.args.span c.args.job c.args.work) in
    omega (arith, span-within)

pub insert_run-requires : goal.insert_run-requires
unfolding run_at_index
insert_run-requires c =
    let at_gap : c.gap_ticks-n.result ≡ min c.loop-k.left (c.loop-k.top - (run_at_index c.loop-k.starts c.loop-k.ends c.loop-k.tasks (c.loop-k.k - 1)).end) = c.gap_ticks-n.ensures in
    let gap-room : c.loop-k.end + 1 ≤ max_tasks + max_plan_runs =
    let more : c.args.span.closed < c.loop-k.k = omega arith in
    omega (arith, passed-room _ _ _ _ c.requires.held _ _ _ _ _ _ more c.loop-k.invariant.1 (at_gap) (omega arith)) in
    let room = gap-room in
    record { n_le_top = omega arith; at_le_end = omega arith; end_in_bounds = (omega arith, omega arith, omega arith) }

pub overflow_add-end : goal.overflow_add-end
unfolding run_at_index
overflow_add-end c =
    let at_gap : c.gap_ticks-n.result ≡ min c.loop-k.left (c.loop-k.top - (run_at_index c.loop-k.starts c.loop-k.ends c.loop-k.tasks (c.loop-k.k - 1)).end) = c.gap_ticks-n.ensures in
    let gap-room : c.loop-k.end + 1 ≤ max_tasks + max_plan_runs =
    let more : c.args.span.closed < c.loop-k.k = omega arith in
    omega (arith, passed-room _ _ _ _ c.requires.held _ _ _ _ _ _ more c.loop-k.invariant.1 (at_gap) (omega arith)) in
    omega (arith, gap-room)

pub offset_bounds-starts-k : goal.offset_bounds-starts-k
offset_bounds-starts-k c =
    let span-within : c.args.span.end ≤ max_tasks + max_plan_runs =
    omega (arith, span_room (run_at_index c.args.starts.now c.args.ends.now c.args.tasks.now) c.args.span c.args.job c.args.work) in
    omega (arith, span-within)

pub bounds-starts-k : goal.bounds-starts-k
unfolding run_at_index
bounds-starts-k c =
    let span-within : c.args.span.end ≤ max_tasks + max_plan_runs =
    omega (arith, span_room (run_at_index c.args.starts.now c.args.ends.now c.args.tasks.now) c.args.span c.args.job c.args.work) in
    let at_gap : c.gap_ticks-n.result ≡ min c.loop-k.left (c.loop-k.top - (run_at_index c.loop-k.starts c.loop-k.ends c.loop-k.tasks (c.loop-k.k - 1)).end) = c.gap_ticks-n.ensures in
    let at-run : let now = run_at_index c.if-n-gt0.starts c.if-n-gt0.ends c.if-n-gt0.tasks in Room c.if-n-gt0.starts c.if-n-gt0.ends c.if-n-gt0.tasks × Passed (run_at_index c.args.starts.now c.args.ends.now c.args.tasks.now) c.args.span c.args.job c.args.work now (c.loop-k.k - 1) c.if-n-gt0.end (now (c.loop-k.k - 1)).start (c.loop-k.left - c.gap_ticks-n.result) =
    let held = c.requires.held in
    let next : c.loop-k.k - 1 + 1 ≡ c.loop-k.k = omega arith in
    let more : c.args.span.closed < c.loop-k.k = omega arith in
    elim c.if-n-gt0.branch [
      | then-n-gt0 w ↦ let kept = w.insert_run.auto in
          rw (w.starts-is, w.ends-is, w.tasks-is, w.end-is)
          ((omega arith, omega arith, omega arith), passed-some _ _ _ _ held _ _ _ _ _ _ more c.loop-k.invariant.1 (at_gap) _ w.if-n-gt0.true (rw next at w.insert_run.ensures))
      | else-n-gt0 w ↦ rw (w.starts-is, w.ends-is, w.tasks-is, w.end-is) (c.loop-k.invariant.0, passed_none _ _ _ _ held _ _ _ _ _ _ more c.loop-k.invariant.1 (at_gap) w.if-n-gt0.false)
    ] in
    omega (arith, span-within, (at-run).0)

pub loop-k-preserved : goal.loop-k-preserved
unfolding run_at_index
loop-k-preserved c =
    let at_gap : c.gap_ticks-n.result ≡ min c.loop-k.left (c.loop-k.top - (run_at_index c.loop-k.starts c.loop-k.ends c.loop-k.tasks (c.loop-k.k - 1)).end) = c.gap_ticks-n.ensures in
    let at-run : let now = run_at_index c.if-n-gt0.starts c.if-n-gt0.ends c.if-n-gt0.tasks in Room c.if-n-gt0.starts c.if-n-gt0.ends c.if-n-gt0.tasks × Passed (run_at_index c.args.starts.now c.args.ends.now c.args.tasks.now) c.args.span c.args.job c.args.work now (c.loop-k.k - 1) c.if-n-gt0.end (now (c.loop-k.k - 1)).start (c.loop-k.left - c.gap_ticks-n.result) =
    let held = c.requires.held in
    let next : c.loop-k.k - 1 + 1 ≡ c.loop-k.k = omega arith in
    let more : c.args.span.closed < c.loop-k.k = omega arith in
    elim c.if-n-gt0.branch [
      | then-n-gt0 w ↦ let kept = w.insert_run.auto in
          rw (w.starts-is, w.ends-is, w.tasks-is, w.end-is)
          ((omega arith, omega arith, omega arith), passed-some _ _ _ _ held _ _ _ _ _ _ more c.loop-k.invariant.1 (at_gap) _ w.if-n-gt0.true (rw next at w.insert_run.ensures))
      | else-n-gt0 w ↦ rw (w.starts-is, w.ends-is, w.tasks-is, w.end-is) (c.loop-k.invariant.0, passed_none _ _ _ _ held _ _ _ _ _ _ more c.loop-k.invariant.1 (at_gap) w.if-n-gt0.false)
    ] in
    at-run

pub returns : goal.returns
returns c =
    passed_all _ _ _ _ c.requires.held _ _ _ _ _ c.loop-k.invariant.1 (omega arith)

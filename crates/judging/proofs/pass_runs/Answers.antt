use Rattle.std.proofs.Common.{◌<◌, ◌^◌, sym, ◌∙◌, get_or, arith}
use Rattle.schedule.specs.JobArrays.{no_job}
use Rattle.schedule.specs.Runs.{no_run}
use Rattle.schedule.proofs.PassLaws.{passed_start, passed_task, passed_run, passed_step, passed_all, passed_totals}
use Rattle.judging.proofs.PassLaws.{run_in, fits_there}
use Rattle.judging.proofs.pass_runs.Goals as goal

pub loop-run-init : goal.loop-run-init
loop-run-init c = passed_start _ _ _

pub returns-in_err-job : goal.returns-in_err-job
returns-in_err-job c =
    rw c.from_residual.ensures (passed_task _ _ _ _ _ _ c.loop-run.invariant (omega arith) c.in_err-job.ensures.lookup.3)

pub returns-then-not-run_fits : goal.returns-then-not-run_fits
returns-then-not-run_fits c =
    let known = c.in_ok-job.ensures.lookup.3 in
    passed_run _ _ _ _ _ _ c.loop-run.invariant (omega arith) known.0
    (fits_there _ _ _ _ _ _ _ (known.1 no_job) c.run_fits.ensures c.if-not-run_fits.true)

pub overflow_sub-run : goal.overflow_sub-run
overflow_sub-run c =
    let nonempty = run_in _ _ _ _ (sym c.run_fits.ensures ∙ c.if-not-run_fits.false) in omega arith

pub loop-run-preserved : goal.loop-run-preserved
loop-run-preserved c =
    let known = c.in_ok-job.ensures.lookup.3 in
    let run = get_or c.args.runs.now c.loop-run.run-index no_run in
    let small : run.end < 2 ^ 32 = omega arith in
    rw c.from.ensures
    (passed_step _ _ _ _ _ _ c.loop-run.invariant (omega arith) known.0 c.requires.jobs_len
    (fits_there _ _ _ _ _ _ _ (known.1 no_job) c.run_fits.ensures c.if-not-run_fits.false) small)

pub returns : goal.returns
returns c = (passed_all _ _ _ _ _ _ c.loop-run.invariant (omega arith), passed_totals _ _ _ _ _ _ c.loop-run.invariant (omega arith))

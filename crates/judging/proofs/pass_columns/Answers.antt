use Rattle.std.proofs.Common.{◌<◌, ◌^◌, sym, ◌∙◌, get_or, arith}
use Rattle.schedule.specs.JobArrays.{no_job}
use Rattle.schedule.proofs.ColumnLaws.{columns_length}
use Rattle.schedule.proofs.PassLaws.{passed_start, passed_all, passed_totals}
use Rattle.judging.proofs.PassLaws.{run_in, fits_there, column_unknown, column_bad, column_step}
use Rattle.judging.proofs.pass_columns.Goals as goal

pub loop-i-init : goal.loop-i-init
loop-i-init c = passed_start _ _ _

pub returns-in_err-job : goal.returns-in_err-job
returns-in_err-job c =
    rw c.from_residual.ensures (column_unknown _ _ _ _ _ _ _ _ c.loop-i.invariant (omega arith) c.in_err-job.ensures.lookup.3)

pub returns-then-not-run_fits : goal.returns-then-not-run_fits
returns-then-not-run_fits c =
    let known = c.in_ok-job.ensures.lookup.3 in
    column_bad _ _ _ _ _ _ _ _ c.loop-i.invariant (omega arith) known.0
    (fits_there _ _ _ _ _ _ _ (known.1 no_job) c.run_fits.ensures c.if-not-run_fits.true)

pub overflow_sub-run : goal.overflow_sub-run
overflow_sub-run c =
    let nonempty = run_in _ _ _ _ (sym c.run_fits.ensures ∙ c.if-not-run_fits.false) in omega arith

pub loop-i-preserved : goal.loop-i-preserved
loop-i-preserved c =
    let known = c.in_ok-job.ensures.lookup.3 in
    let small : get_or c.args.ends.now c.loop-i.i 0 < 2 ^ 32 = omega arith in
    rw c.from.ensures
    (column_step _ _ _ _ _ _ _ _ c.loop-i.invariant (omega arith) known.0 c.requires.jobs_len
    (fits_there _ _ _ _ _ _ _ (known.1 no_job) c.run_fits.ensures c.if-not-run_fits.false) small)

pub returns : goal.returns
returns c =
    let few = columns_length c.args.starts.now c.args.ends.now c.args.tasks.now in (
      passed_all _ _ _ _ _ _ c.loop-i.invariant (omega (arith, few)),
      passed_totals _ _ _ _ _ _ c.loop-i.invariant (omega (arith, few)),
    )

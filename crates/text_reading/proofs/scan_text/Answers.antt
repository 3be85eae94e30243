use mathlib.Core.Path.{◌∙◌}
use native.Mathlib.Omega.{arith}
use Rattle.std.proofs.lemmas.Result.{err_from_is_err_and}
use Rattle.text_reading.proofs.ScanSteps.{next_ended, scan_start, scan_next, scan_wrong, first_wrong, second_wrong, text_taken}
use Rattle.text_reading.proofs.ScanLaws.{scan_parsed}
use Rattle.text_reading.proofs.scan_text.Goals as goal

pub loop-byte-init : goal.loop-byte-init
loop-byte-init c =
    scan_start _ _ _ c.new-scan.ensures

pub returns-in_err-step : goal.returns-in_err-step
returns-in_err-step c =
    let p = err_from_is_err_and c.from_residual.result c.from_residual.ensures.1 in
    rw (p.1, p.2)
    (scan_wrong _ _ _ _ c.loop-byte-test.true c.loop-byte.invariant _ c.in_err-step.ensures.reply ∙ scan_parsed _ (omega arith) (omega arith) _)

pub loop-byte-preserved : goal.loop-byte-preserved
loop-byte-preserved c =
    scan_next _ _ _ _ c.loop-byte-test.true c.loop-byte.invariant _ c.in_ok-step.ensures.reply

pub returns-in_err-ended : goal.returns-in_err-ended
returns-in_err-ended c =
    let p = err_from_is_err_and c.from_residual-in_err-ended.result c.from_residual-in_err-ended.ensures.1 in
    rw (p.1, p.2)
    (first_wrong _ _ _ _ c.loop-byte-test.false c.loop-byte.invariant _ c.in_err-ended.ensures ∙ scan_parsed _ (omega arith) (omega arith) _)

pub end_line-requires-2 : goal.end_line-requires-2
end_line-requires-2 c =
    omega (arith, next_ended _ _ _ c.in_ok-ended.ensures)

pub returns-in_err-closed : goal.returns-in_err-closed
returns-in_err-closed c =
    let p = err_from_is_err_and c.from_residual-in_err-closed.result c.from_residual-in_err-closed.ensures.1 in
    rw (p.1, p.2)
    (second_wrong _ _ _ _ c.loop-byte-test.false c.loop-byte.invariant _ c.in_ok-ended.ensures _ c.in_err-closed.ensures
    ∙ scan_parsed _ (omega arith) (omega arith) _)

pub returns : goal.returns
returns c =
    text_taken _ _ _ _ c.loop-byte-test.false c.loop-byte.invariant _ c.in_ok-ended.ensures _ c.in_ok-closed.ensures
    ∙ scan_parsed _ (omega arith) (omega arith) _

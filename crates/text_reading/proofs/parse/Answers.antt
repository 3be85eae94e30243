-- `text_reading::parse` meets its contract: the scan for four numbers a task finds the plain table.
use mathlib.Core.Path.{ap, ◌∙◌}
use Rattle.std.proofs.lemmas.Result.{err_from_is_err_and}
use Rattle.text_reading.proofs.ScanLaws.{plain_of, plain_scanned}
use Rattle.text_reading.proofs.parse.Goals as goal

pub returns-in_err-weighted : goal.returns-in_err-weighted
unfolding plain_of
returns-in_err-weighted c =
    let p = err_from_is_err_and c.from_residual.result c.from_residual.ensures.1 in
    rw (p.1, p.2) (ap plain_of c.in_err-weighted.ensures ∙ plain_scanned _)

pub returns : goal.returns
unfolding plain_of
returns c =
    ap plain_of c.in_ok-weighted.ensures ∙ plain_scanned _

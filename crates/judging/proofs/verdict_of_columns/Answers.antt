-- `judging::verdict_of_columns` meets its contract.
use Rattle.std.proofs.Common.{◌∙◌, get_or, arith, length}
use Rattle.schedule.specs.JobArrays.{no_job}
use Rattle.schedule.proofs.VerdictLaws.{pass_fails, pass_totals}
use Rattle.judging.proofs.ListLaws.{exact_is}
use Rattle.judging.proofs.verdict_of_columns.Goals as goal

pub returns-in-None : goal.returns-in-None
returns-in-None c = pass_fails _ _ _ _ c.in-None.ensures

pub returns-in-Some : goal.returns-in-Some
returns-in-Some c =
    let jobs = c.args.jobs.now in
    let passed = c.in-Some.ensures in
    c.totals_exact.ensures
    ∙ (exact_is jobs c.args.marks.now c.requires.marks_len c.in-Some.ticks (omega arith)
    ∙ pass_totals (λ k. get_or jobs k no_job) (length jobs) _ _ c.in-Some.ticks passed.0 c.requires.jobs_len passed.1)

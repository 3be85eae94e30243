-- `judging::run_fits` meets its contract.
use Rattle.std.proofs.Common.{rules}
use borrow.Author.Tests.{tests}
use Rattle.schedule.specs.Passing.{run_fits}
use Rattle.judging.proofs.run_fits.Goals as goal

pub returns-then-job-run : goal.returns-then-job-run
unfolding run_fits
returns-then-job-run c = search (rules, tests)

pub returns-else-job-run : goal.returns-else-job-run
unfolding run_fits
returns-else-job-run c = search (rules, tests)

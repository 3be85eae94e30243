-- `choosing::choose` meets its contract.
use mathlib.Core.Path.{◌∙◌}
use native.Mathlib.Omega.{arith}
use lib.ListN.{length}
use Rattle.schedule.specs.JobArrays.{no_job}
use Rattle.choice.specs.Choice.{count_one}
use Rattle.choice.specs.Decisions.{row_of, Last}
use Rattle.choice.proofs.BuildLaws.{outermost_small, reaches_last, Gives, last_gives}
use Rattle.choice.proofs.JobLists.{places_whole}
use Rattle.choosing.proofs.choose.Goals as goal

pub overflow_sub-result : goal.overflow_sub-result
overflow_sub-result c =
    let last : Last (row_of c.args.jobs.now) c.rows_of-parts.result.most = reaches_last _ _ c.rows_of-parts.ensures.1 in
    let found : Gives count_one c.args.jobs.now c.rows_of-parts.result.most =
    last_gives _ _ _ (rw (places_whole no_job c.args.jobs.now) at (outermost_small _ (length c.args.jobs.now) c.requires.all_bounded)) c.requires.count_value (last) in
    omega (arith, (found).others, c.rows_of-parts.ensures.2)

pub returns : goal.returns
returns c =
    let last : Last (row_of c.args.jobs.now) c.rows_of-parts.result.most = reaches_last _ _ c.rows_of-parts.ensures.1 in
    let found : Gives count_one c.args.jobs.now c.rows_of-parts.result.most =
    last_gives _ _ _ (rw (places_whole no_job c.args.jobs.now) at (outermost_small _ (length c.args.jobs.now) c.requires.all_bounded)) c.requires.count_value (last) in
    let gives = found in
    (c.read_back-keeps.ensures ∙ gives.marks, gives.keeps, omega (arith, gives.others, c.rows_of-parts.ensures.2))

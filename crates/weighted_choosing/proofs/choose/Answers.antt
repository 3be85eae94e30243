-- `weighted_choosing::choose` meets its contract.
use lib.ListN.{length}
use Rattle.schedule.specs.JobArrays.{no_job}
use Rattle.choice.proofs.BuildLaws.{outermost_small, last_gives}
use Rattle.choice.proofs.JobLists.{places_whole}
use Rattle.weighted_choosing.proofs.choose.Goals as goal

pub returns : goal.returns
returns c =
    let found = last_gives _ _ _ (rw (places_whole no_job c.args.jobs.now) at (outermost_small _ (length c.args.jobs.now) c.requires.all_bounded)) c.requires.count_value c.rows_of-most.ensures.last in
    rw (← found.marks) c.read_back.ensures

-- `schedule::job_of` meets its contract.
use Rattle.schedule.specs.Jobs.{job_of}
use Rattle.schedule.proofs.job_of.Goals as goal

pub returns : goal.returns
unfolding job_of
returns c =
    rw (c.release_tick.ensures.tick, c.deadline_tick.ensures.tick)

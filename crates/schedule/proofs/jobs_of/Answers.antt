use native.Mathlib.Omega.{arith}
use Rattle.base.proofs.ArrayFilling.{filled_start, filled_set, filled_whole}
use Rattle.table.specs.Tables.{task_at}
use Rattle.schedule.specs.Jobs.{job_at}
use Rattle.schedule.proofs.jobs_of.Goals as goal

pub loop-k-init : goal.loop-k-init
loop-k-init c = filled_start _ _ _ _

pub job_of-requires : goal.job_of-requires
unfolding task_at
job_of-requires c =
    record { launch_le_max_launch = c.requires.launch_le_max_launch; q_value = c.requires.q_value; release_le_last_frame = c.requires.by_index c.loop-k.k (omega arith) }

pub loop-k-preserved : goal.loop-k-preserved
unfolding job_at task_at
loop-k-preserved c = filled_set _ _ _ _ _ _ _ (omega arith) (omega arith) c.job_of.ensures c.loop-k.invariant

pub returns : goal.returns
returns c = filled_whole _ _ _ _ _ _ (λ k a b. omega arith) c.loop-k.invariant

-- Answers without a launch tick: the ticks of jobs are counted from the launch, and no 14 is sent. The theorems say that with launch 0 every such answer
-- holds.
use Rattle.std.specs.Prelude.{ℕ, List}
use Rattle.clock.specs.Clock.{release_offset, deadline_offset}
use Rattle.table.specs.declared.Table.{Table}
use Rattle.table.specs.Tables.{task_at}
use Rattle.table.specs.Reading.{ReadTable, reply_on_read}
use Rattle.schedule.specs.declared.Job.{Job}
use Rattle.schedule.specs.declared.Judged.{Judged}
use Rattle.schedule.specs.declared.Run.{Run}
use Rattle.schedule.specs.Jobs.{job_between}
use Rattle.schedule.specs.Judging.{verdict_by_jobs, judge_declined, judge_by_verdict}

-- the job at a position of a table
unfoldable pub earlier_job_at : Table → ℕ → Job
earlier_job_at t k =
    let task = task_at t k in
    job_between (release_offset t.p t.q task.release) (deadline_offset t.p t.q task.deadline) k task

-- the reply of judging: reading's refusals, then 11 and 13
unfoldable pub earlier_judged : ReadTable → List ℕ → List Run → Judged
earlier_judged read marks runs =
    reply_on_read judge_declined (λ t. judge_by_verdict (verdict_by_jobs (earlier_job_at t) t.count marks runs) t marks runs) read

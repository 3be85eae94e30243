-- What a launch tick does to the jobs of a table and to the judge: the windows lie later by it, and runs later by it get the verdict that the runs get with
-- launch 0. With launch 0 every earlier answer holds.
use Prim.Native.Nat.{ℕ}
use mathlib.Core.Path.{◌≡◌, fun_ext}
use mathlib.Core.List.{List}
use mathlib.Core.Bool.{false}
use lib.ListN.{length-map}
use Rattle.clock.specs.Clock.{bad_launch}
use Rattle.clock.proofs.ClockLaws.{release_launch_0, deadline_launch_0, release_later, deadline_later}
use Rattle.table.specs.declared.Table.{Table}
use Rattle.table.specs.Tables.{task_at}
use Rattle.table.specs.Reading.{ReadTable}
use Rattle.schedule.specs.declared.Run.{Run}
use Rattle.schedule.specs.Jobs.{job_of, job_at}
use Rattle.schedule.specs.Runs.{too_many}
use Rattle.schedule.specs.Judging.{verdict_by_jobs, verdict, judge_by_verdict, judge_table, judge_reply}
use Rattle.schedule.specs.Shifting.{later_run, later_runs}
use Rattle.schedule.specs.LaterJobs.{later_job}
use Rattle.schedule.specs.Earlier.{earlier_job_at, earlier_judged}
use Rattle.schedule.proofs.ShiftLaws.{nonempty_shift, order_shift, known_shift, windows_shift, totals_shift}

-- The job at a position lies later by the launch tick than with launch 0,
pub job_launch : (launch : ℕ) (t : Table) (k : ℕ) → job_at launch t k ≡ later_job launch (job_at 0 t k)
unfolding job_at job_of
job_launch launch t k =
    rw (release_later launch t.p t.q (task_at t k).release, deadline_later launch t.p t.q (task_at t k).deadline)

-- which is where it is without a launch tick.
pub job_launch_0 : (t : Table) (k : ℕ) → job_at 0 t k ≡ earlier_job_at t k
unfolding job_at job_of earlier_job_at
job_launch_0 t k = rw (release_launch_0 t.p t.q (task_at t k).release, deadline_launch_0 t.p t.q (task_at t k).deadline)

-- Runs later by the launch tick get the verdict that the runs get with launch 0.
pub verdict_launch : (launch : ℕ) (t : Table) (marks : List ℕ) (runs : List Run) → verdict launch t marks (later_runs launch runs) ≡ verdict 0 t marks runs
unfolding verdict verdict_by_jobs
verdict_launch launch t marks runs =
    rw (
      fun_ext (job_launch launch t),
      nonempty_shift launch runs,
      order_shift launch runs,
      known_shift launch t.count runs,
      windows_shift launch (job_at 0 t) runs,
      totals_shift launch (job_at 0 t) marks t.count runs,
    )

-- So the judge's reply to them at an accepted launch tick is its reply to the runs with launch 0, refusals too.
pub judge_launch : (launch : ℕ) (read : ReadTable) (marks : List ℕ) (runs : List Run) → bad_launch launch ≡ false
    → judge_reply launch read marks (later_runs launch runs) ≡ judge_reply 0 read marks runs
unfolding judge_reply judge_table judge_by_verdict too_many
judge_launch launch read marks runs low =
    rw (low, length-map runs (later_run launch), verdict_launch launch read.table marks runs)

-- With launch 0 every earlier answer of the judge holds.
pub judge_launch_0 : (read : ReadTable) (marks : List ℕ) (runs : List Run) → judge_reply 0 read marks runs ≡ earlier_judged read marks runs
unfolding judge_reply judge_table verdict earlier_judged
judge_launch_0 read marks runs = rw (fun_ext (job_launch_0 read.table))

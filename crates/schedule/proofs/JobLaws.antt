-- Laws of the jobs of a table.
use Prim.Native.Nat.{ℕ, ◌≤◌, ◌<◌}
use native.Mathlib.Omega.{arith}
use Rattle.base.specs.Limits.{last_frame, max_launch, last_tick}
use Rattle.clock.specs.Clock.{release_tick, deadline_tick}
use Rattle.clock.proofs.ClockLaws.{ticks_bounded}
use Rattle.table.specs.declared.Table.{Table}
use Rattle.table.specs.Tables.{task_at}
use Rattle.table.specs.Writing.{Legal}
use Rattle.table.proofs.FileLaws.{narrow_known}
use Rattle.schedule.specs.Jobs.{job_of, job_at}
use Rattle.schedule.specs.JobArrays.{Bounded}

-- the frames of an accepted table
pub legal_frames : (t : Table) → Legal t → (k : ℕ) → k < t.count → ((task_at t k).release ≤ last_frame) × ((task_at t k).deadline ≤ last_frame)
legal_frames t l k h =
    let n = narrow_known (task_at t k) (l.narrow k h) in
    (omega (arith, n.release), omega (arith, n.deadline))

-- each job of an accepted table at an accepted launch tick is within its limits
pub job_bounded : (launch : ℕ) (t : Table) → launch ≤ max_launch → Legal t → (k : ℕ) → k < t.count → Bounded (job_at launch t k)
unfolding job_at job_of
job_bounded launch t low legal k l =
    let task = narrow_known (task_at t k) (legal.narrow k l) in
    let ticks : (f : ℕ) → f ≤ last_frame → (release_tick launch t.p t.q f ≤ last_tick) × (deadline_tick launch t.p t.q f ≤ last_tick) =
    λ f h. ticks_bounded launch t.p t.q f low legal.timed h in
    record {
      release = (ticks (task_at t k).release (omega (arith, task.release))).0;
      deadline = (ticks (task_at t k).deadline (omega (arith, task.deadline))).1;
      mandatory = omega (arith, task.mandatory);
      optional = omega (arith, task.optional);
    }

-- What a launch tick does to the jobs of a table in the order of its kind, last first: they stand in the same order, and each lies later by it.
use Prim.Native.Nat.{ℕ}
use mathlib.Core.Path.{◌≡◌, refl}
use mathlib.Core.List.{List, [], ◌∷◌, map}
use Rattle.table.specs.declared.Table.{Table}
use Rattle.schedule.specs.Jobs.{job_at}
use Rattle.schedule.specs.LaterJobs.{later_jobs}
use Rattle.schedule.specs.Earlier.{earlier_job_at}
use Rattle.schedule.proofs.LaunchLaws.{job_launch, job_launch_0}
use Rattle.orders.specs.KindOrder.{order_last_first, jobs_last_first}

-- the jobs of some positions
positions_launch : (launch : ℕ) (t : Table) (order : List ℕ) → map (job_at launch t) order ≡ later_jobs launch (map (job_at 0 t) order)
positions_launch launch t [] = refl
positions_launch launch t (k ∷ order) = rw (job_launch launch t k, positions_launch launch t order)

positions_launch_0 : (t : Table) (order : List ℕ) → map (job_at 0 t) order ≡ map (earlier_job_at t) order
positions_launch_0 t [] = refl
positions_launch_0 t (k ∷ order) = rw (job_launch_0 t k, positions_launch_0 t order)

-- The jobs lie later by the launch tick than with launch 0,
pub jobs_launch : (launch : ℕ) (t : Table) → jobs_last_first launch t ≡ later_jobs launch (jobs_last_first 0 t)
unfolding jobs_last_first
jobs_launch launch t = positions_launch launch t (order_last_first t)

-- which is where they are without a launch tick.
pub jobs_launch_0 : (t : Table) → jobs_last_first 0 t ≡ map (earlier_job_at t) (order_last_first t)
unfolding jobs_last_first
jobs_launch_0 t = positions_launch_0 t (order_last_first t)

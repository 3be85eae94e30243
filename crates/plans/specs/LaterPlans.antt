-- For proofs alone: planning jobs that lie later by a number of ticks.
use Rattle.std.specs.Prelude.{ℕ, ◌≡◌, List, Bool}
use Rattle.schedule.specs.declared.Job.{Job}
use Rattle.schedule.specs.Shifting.{later_runs}
use Rattle.schedule.specs.LaterJobs.{LaterOwner}
use Rattle.choice.specs.Choice.{keep_none, kept, discarded}
use Rattle.plans.specs.Planning.{unmet_by, chosen_by, runs_by, mark_at}
use Rattle.plans.specs.PlanParts.{fits_by, placed_by}

-- what planning gives for jobs in the order of their table's kind, last first, and for others that lie later by c ticks: the same task can't be met,
-- the same lists fit, the same list is chosen, each list has the same counts and marks, and its placing and its runs lie later by c ticks
pub record LaterPlan (nested : Bool) (weight : ℕ → ℕ) (c : ℕ) (jobs later : List Job) : Type 0 where
  pub unmet : (n : ℕ) → unmet_by nested n later ≡ unmet_by nested n jobs
  pub fit : (keeps : List Bool) → fits_by nested later keeps ≡ fits_by nested jobs keeps
  pub none : keep_none later ≡ keep_none jobs
  pub keeps : chosen_by nested weight later ≡ chosen_by nested weight jobs
  pub kept : (keeps : List Bool) → kept later keeps ≡ kept jobs keeps
  pub discarded : (keeps : List Bool) → discarded later keeps ≡ discarded jobs keeps
  pub marks : (keeps : List Bool) (k : ℕ) → mark_at later keeps k ≡ mark_at jobs keeps k
  pub placed : (keeps : List Bool) → LaterOwner c (placed_by nested jobs keeps) (placed_by nested later keeps)
  pub runs : (keeps : List Bool) → runs_by nested later keeps ≡ later_runs c (runs_by nested jobs keeps)

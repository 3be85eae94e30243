-- A keep list of similar jobs that fits, placed, discards what the list discards, and is with its marks by position a running.
use Prim.Native.Nat.{ℕ}
use mathlib.Core.Path.{◌≡◌}
use mathlib.Core.List.{List}
use mathlib.Core.Bool.{Bool, true}
use Rattle.schedule.specs.declared.Job.{Job}
use Rattle.schedule.specs.Jobs.{work_of}
use Rattle.schedule.specs.Runnings.{Whole, discarded_weight}
use Rattle.schedule.specs.Runs.{Together}
use Rattle.choice.specs.Choice.{works_of, discarded_worth, weighed}
use Rattle.placement.proofs.PlacedRunnings.{list_discards}
use Rattle.placement.proofs.PlanLaws.{SameMarks, marks_say, listed_together}
use Rattle.sequence.specs.Similar.{SimilarJobs}
use Rattle.sequence.specs.InOrder.{fits_in_order, placed_in_order, runs_in_order}
use Rattle.sequence.proofs.OrderSufficiency.{order_work, order_running, order_listed}

-- A list that fits, placed, discards what the list discards.
pub order_discards : (weight : ℕ → ℕ) (jobs : List Job) (keeps : List Bool) → SimilarJobs jobs → fits_in_order jobs keeps ≡ true
    → discarded_weight weight jobs (placed_in_order jobs keeps) ≡ discarded_worth (weighed weight) jobs keeps
order_discards weight jobs keeps s e = list_discards weight (placed_in_order jobs keeps) jobs keeps (order_work jobs keeps s e)

-- Marks by position and the runs are together a running.
pub order_together : (jobs : List Job) (keeps : List Bool) (marks : List ℕ) → SimilarJobs jobs → fits_in_order jobs keeps ≡ true → SameMarks jobs keeps marks
    → Together jobs marks (runs_in_order jobs keeps)
order_together jobs keeps marks s e m =
    listed_together Whole work_of (placed_in_order jobs keeps) jobs (works_of jobs keeps) marks (runs_in_order jobs keeps) (order_listed jobs keeps s e)
    (order_running jobs keeps s e) (order_work jobs keeps s e) (marks_say jobs keeps marks m)

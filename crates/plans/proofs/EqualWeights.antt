-- Weights that agree on the positions of a table give it the same plan, reply and lists.
use Prim.Native.Nat.{ℕ, ◌<◌}
use mathlib.Core.Path.{◌≡◌, refl, ap, fun_ext}
use mathlib.Core.List.{List, [], ◌∷◌}
use mathlib.Core.Bool.{Bool, true, false}
use Rattle.base.specs.Members.{All}
use Rattle.table.specs.declared.Table.{Table}
use Rattle.table.specs.Kinds.{is_nested}
use Rattle.schedule.specs.declared.Job.{Job}
use Rattle.schedule.proofs.JudgeLaws.{job_position}
use Rattle.choice.specs.Choice.{fits, discarded_worth, weighed, kept_ticks, discard_marks, best_list, choice_key, chosen_over}
use Rattle.sequence.specs.InOrder.{fits_in_order}
use Rattle.sequence.specs.OrderChoice.{choice_key_in_order, chosen_in_order_over}
use Rattle.orders.specs.KindOrder.{jobs_last_first}
use Rattle.orders.proofs.OrderLaws.{all_jobs}
use Rattle.plans.specs.declared.Planned.{Planned}
use Rattle.plans.specs.Planning.{LentLists, chosen_by, marks_by, plan_runs_by, made_by, reply_by, written_by, after_by, plan_table, lists_after}

module _ (v w : ℕ → ℕ) where
  -- the weights agree on the positions of jobs
  abbrev Agree : List Job → Type 0
  Agree jobs = All (λ job. v job.position ≡ w job.position) jobs

  -- Each list discards as much,
  discarded-same : (jobs : List Job) → Agree jobs → (keeps : List Bool)
      → discarded_worth (weighed v) jobs keeps ≡ discarded_worth (weighed w) jobs keeps
  unfolding discarded_worth
  discarded-same [] a keeps = refl
  discarded-same (job ∷ jobs) a [] = refl
  discarded-same (job ∷ jobs) a (keep ∷ keeps) = rw (a.0, discarded-same jobs a.1 keeps)

  -- so the same list is chosen,
  chosen-same : (nested : Bool) (jobs : List Job) → Agree jobs → chosen_by nested v jobs ≡ chosen_by nested w jobs
  unfolding chosen_by chosen_over chosen_in_order_over choice_key choice_key_in_order
  chosen-same true jobs a =
      ap (λ (key : List Bool → List ℕ). best_list (fits jobs) key jobs)
      (fun_ext (λ keeps. ap (λ (n : ℕ). n ∷ kept_ticks jobs keeps ∷ discard_marks keeps) (discarded-same jobs a keeps)))
  chosen-same false jobs a =
      ap (λ (key : List Bool → List ℕ). best_list (fits_in_order jobs) key jobs)
      (fun_ext (λ keeps. ap (λ (n : ℕ). n ∷ discard_marks keeps) (discarded-same jobs a keeps)))

  -- and the plan is the same:
  module _ (launch : ℕ) (t : Table) (agree : (k : ℕ) → k < t.count → v k ≡ w k) where
    -- its keep list,
    keeps_same : chosen_by (is_nested t) v (jobs_last_first launch t) ≡ chosen_by (is_nested t) w (jobs_last_first launch t)
    keeps_same =
        chosen-same (is_nested t) (jobs_last_first launch t)
        (all_jobs launch t (λ job. v job.position ≡ w job.position) (λ k l. rw (job_position launch t k) (agree k l)))

    -- the reply,
    pub reply-same : (lists : LentLists) → plan_table launch v t lists ≡ plan_table launch w t lists
    unfolding plan_table reply_by made_by plan_runs_by
    reply-same lists = rw keeps_same

    -- and what the lists hold.
    pub lists_same : (reply : Planned) (lists : LentLists) → lists_after launch v t reply lists ≡ lists_after launch w t reply lists
    unfolding lists_after after_by written_by marks_by plan_runs_by
    lists_same reply lists = rw keeps_same

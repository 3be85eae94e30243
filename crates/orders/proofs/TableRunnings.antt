-- A running of a table is a running of its jobs in the order of its kind, and discards as much: what is proved of those jobs holds of the table.
use Prim.Native.Nat.{ℕ, ◌+◌, ◌≤◌}
use mathlib.Core.Path.{◌≡◌, refl, sym, ap, ◌∙◌}
use mathlib.Core.Logic.{◌↔◌}
use mathlib.Core.List.{List, [], ◌∷◌, map}
use native.Mathlib.Omega.{arith}
use lib.Dec.{eqb}
use lib.ListN.{get_or}
use Rattle.base.specs.Tests.{pick, and}
use Rattle.base.proofs.MemberLaws.{all_members, all_places, any_places}
use Rattle.table.specs.declared.Table.{Table}
use Rattle.schedule.specs.declared.Job.{Job}
use Rattle.schedule.specs.declared.Run.{Run}
use Rattle.schedule.specs.Jobs.{job_at, jobs_of, counts}
use Rattle.schedule.specs.Ticks.{Owner}
use Rattle.schedule.specs.Runnings.{WindowHolds, got, RunningOf, Whole, Running, discarded_weight, LeastWeight}
use Rattle.schedule.specs.Runs.{owner_of, TogetherOf}
use Rattle.schedule.proofs.JudgeLaws.{discards_places}
use Rattle.orders.specs.KindOrder.{kind_before, order_last_first, jobs_last_first}
use Rattle.orders.proofs.SortLaws.{sum_over, sum_order}
use Rattle.orders.proofs.OrderLaws.{all_jobs, any_jobs}

-- A running of a table's jobs in one order is one in the other, whatever each job may get.
pub running_of_order : (launch : ℕ) (May : Job → ℕ → Type 0) (t : Table) (owner : Owner)
    → RunningOf May (jobs_of launch t) owner ↔ RunningOf May (jobs_last_first launch t) owner
unfolding jobs_of
running_of_order launch May t owner =
    let Right : Job → Type 0 = λ job. May job (got owner job) in (
      λ r.
          record {
            inside = λ tick i e. (any_jobs launch t (WindowHolds tick i)).1 ((any_places (WindowHolds tick i) (job_at launch t) t.count).0 (r.inside tick i e));
            gets = all_jobs launch t Right ((all_places Right (job_at launch t) t.count).0 r.gets);
          },
      λ r.
          record {
            inside = λ tick i e. (any_places (WindowHolds tick i) (job_at launch t) t.count).1 ((any_jobs launch t (WindowHolds tick i)).0 (r.inside tick i e));
            gets = (all_places Right (job_at launch t) t.count).1
                (λ k l. (all_members Right (jobs_last_first launch t)).0 r.gets (job_at launch t k) ((any_jobs launch t (λ other. other ≡ job_at launch t k)).1 (k, l, refl)));
          },
    )

-- So it is where each job gets one of its two amounts.
pub running_order : (launch : ℕ) (t : Table) (owner : Owner) → Running (jobs_of launch t) owner ↔ Running (jobs_last_first launch t) owner
running_order launch t owner = running_of_order launch Whole t owner

-- Numbers by position and runs that are together a running of the jobs last first are one of the table's jobs.
pub together_of_order : (launch : ℕ) (May : Job → ℕ → Type 0) (workBy : Job → ℕ → ℕ) (t : Table) (numbers : List ℕ) (runs : List Run)
    → TogetherOf May workBy (jobs_last_first launch t) numbers runs → TogetherOf May workBy (jobs_of launch t) numbers runs
unfolding jobs_of
together_of_order launch May workBy t numbers runs g =
    let Works : Job → Type 0 = λ job. got (owner_of runs) job ≡ workBy job (get_or numbers job.position 0) in
    record {
      running = (running_of_order launch May t (owner_of runs)).1 g.running;
      work = (all_places Works (job_at launch t) t.count).1
          (λ k l. (all_members Works (jobs_last_first launch t)).0 g.work (job_at launch t k) ((any_jobs launch t (λ other. other ≡ job_at launch t k)).1 (k, l, refl)));
    }

-- what is discarded at a position, and in all as a sum over positions
abbrev discarded_at : (ℕ → ℕ) → ℕ → Table → Owner → ℕ → ℕ
discarded_at weight launch t owner k =
    pick (and (counts (job_at launch t k)) (eqb (got owner (job_at launch t k)) (job_at launch t k).mandatory)) (weight (job_at launch t k).position) 0

discards_sum : (weight : ℕ → ℕ) (launch : ℕ) (t : Table) (owner : Owner) (js : List ℕ)
    → discarded_weight weight (map (job_at launch t) js) owner ≡ sum_over (discarded_at weight launch t owner) js
unfolding discarded_weight
discards_sum weight launch t owner [] = refl
discards_sum weight launch t owner (j ∷ js) =
    ap (λ (x : ℕ). discarded_at weight launch t owner j + x) (discards_sum weight launch t owner js)

-- Both orders discard as much.
pub discards_order : (weight : ℕ → ℕ) (launch : ℕ) (t : Table) (owner : Owner)
    → discarded_weight weight (jobs_of launch t) owner ≡ discarded_weight weight (jobs_last_first launch t) owner
unfolding jobs_of jobs_last_first order_last_first
discards_order weight launch t owner =
    discards_places weight (job_at launch t) owner (λ k. and (counts (job_at launch t k)) (eqb (got owner (job_at launch t k)) (job_at launch t k).mandatory)) t.count (λ k l. refl)
    ∙ sym (discards_sum weight launch t owner (order_last_first t) ∙ sum_order (kind_before t) (discarded_at weight launch t owner) t.count)

-- A running exists of the one exactly where one exists of the other.
pub exists_order : (launch : ℕ) (t : Table) → ((owner : Owner) × Running (jobs_of launch t) owner) ↔ ((owner : Owner) × Running (jobs_last_first launch t) owner)
exists_order launch t = (λ r. (r.0, (running_order launch t r.0).0 r.1), λ r. (r.0, (running_order launch t r.0).1 r.1))

-- What every running of the jobs last first discards at least, every running of the table does.
pub least_order : (weight : ℕ → ℕ) (launch : ℕ) (t : Table) (d : ℕ)
    → ((owner : Owner) → Running (jobs_last_first launch t) owner → d ≤ discarded_weight weight (jobs_last_first launch t) owner)
    → (owner : Owner) → Running (jobs_of launch t) owner → d ≤ discarded_weight weight (jobs_of launch t) owner
least_order weight launch t d least owner r = omega (arith, discards_order weight launch t owner, least owner ((running_order launch t owner).0 r))

-- Where some running of the jobs last first discards just as much, a running of the table does exactly where none discards less than it.
pub fewest_order : (weight : ℕ → ℕ) (launch : ℕ) (t : Table) (d : ℕ) (best : Owner) → Running (jobs_last_first launch t) best
    → discarded_weight weight (jobs_last_first launch t) best ≡ d
    → ((owner : Owner) → Running (jobs_last_first launch t) owner → d ≤ discarded_weight weight (jobs_last_first launch t) owner)
    → (owner : Owner) → Running (jobs_of launch t) owner → (discarded_weight weight (jobs_of launch t) owner ≡ d) ↔ LeastWeight weight (jobs_of launch t) owner
fewest_order weight launch t d best b e least owner r = (
  λ q other s. omega (arith, least_order weight launch t d least other s),
  λ f. omega (arith, least_order weight launch t d least owner r, f best ((running_order launch t best).1 b), discards_order weight launch t best),
)

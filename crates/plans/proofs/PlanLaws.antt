-- Demands 2 and 3 as theorems about the definitions, for every accepted table.
use Prim.Native.Nat.{ℕ, ◌-◌, ◌*◌, ◌≤◌, ◌<◌}
use mathlib.Core.Path.{◌≡◌, refl, sym, ap, fun_ext, ◌∙◌}
use mathlib.Core.Logic.{◌↔◌}
use mathlib.Core.Bool.{Bool, true, false, not}
use native.Mathlib.Omega.{arith}
use lib.Dec.{ltb, eqb}
use lib.ListN.{length, get_or}
use borrow.Author.Tests.{le-ltb, eq-eqb, not-false}
use Rattle.base.specs.Tests.{pick, and}
use Rattle.base.proofs.TestLaws.{cases, both_absurd}
use Rattle.base.proofs.LowestLaws.{none_passes}
use Rattle.base.proofs.PlaceLaws.{places_length, places_at}
use Rattle.clock.specs.Clock.{bad_launch}
use Rattle.table.specs.declared.Table.{Table}
use Rattle.table.specs.Answers.{Accepted}
use Rattle.table.specs.Kinds.{is_nested}
use Rattle.table.specs.Reading.{ReadTable, one_each}
use Rattle.table.specs.Writing.{Legal}
use Rattle.table.specs.LegalReads.{LegalRead}
use Rattle.table.proofs.FileLaws.{legal_count}
use Rattle.schedule.specs.Jobs.{job_of, job_at, jobs_of, work_of, counts}
use Rattle.schedule.specs.Ticks.{Owner}
use Rattle.schedule.specs.Runnings.{Whole, Running, discarded_weight, discards}
use Rattle.base.specs.Members.{All}
use Rattle.schedule.specs.Runs.{too_many, owner_of, Together}
use Rattle.schedule.specs.Judging.{verdict, first_bad_mark, judge_says, judge_by_verdict, judge_table, judge_reply, marked_weight, kept_count, discarded_count}
use Rattle.schedule.proofs.JudgeLaws.{job_position, together_discards, judge_verdict}
use Rattle.base.specs.Limits.{max_runs}
use Rattle.choice.specs.Choice.{discarded_worth, weighed}
use Rattle.placement.proofs.RunOrder.{Listed}
use Rattle.placement.proofs.PlanLaws.{SameMarks}
use Rattle.orders.specs.KindOrder.{kind_before, order_last_first, jobs_last_first}
use Rattle.orders.proofs.SortLaws.{count_order}
use Rattle.orders.proofs.OrderLaws.{all_jobs, jobs_length, jobs_distinct}
use Rattle.orders.proofs.TableRunnings.{together_of_order, discards_order, exists_order, least_order, fewest_order}
use Rattle.plans.specs.Planning.{LentLists, short_lists, mark_at, marks_by, plan_runs_by, plan_declined, made_by, reply_by, plan_marks, plan_runs, plan_table, plan_reply}
use Rattle.plans.specs.PlanParts.{fits_by, placed_by, plan_of, mandatory_fit, unmet_place, chosen_marks}
use Rattle.plans.specs.Demands.{NoRunning, OptimalBy, Optimal, WeightOptimal}
use Rattle.plans.specs.KindJobs.{JobsOfKind}
use Rattle.plans.proofs.JobPlans.{length_by, exists_by, unmet_test, listed_by, few_by, together_by, running_by, discards_by, chosen_meets_by, least_by}
use Rattle.plans.proofs.TableJobs.{kind_jobs}
use Rattle.plans.proofs.MarkLaws.{mark_low, marks_same, kept_marks}

-- the positions of its jobs are below the count
pub jobs_below : (launch : ℕ) (t : Table) → All (λ job. job.position < t.count) (jobs_last_first launch t)
jobs_below launch t = all_jobs launch t (λ job. job.position < t.count) (λ k l. rw (job_position launch t k) l)

-- an unmet task is found exactly where they do not fit
unmet_table : (launch : ℕ) (t : Table) → ltb (unmet_place launch t) t.count ≡ not (mandatory_fit launch t)
unfolding unmet_place mandatory_fit
unmet_table launch t = unmet_test (is_nested t) t.count (jobs_last_first launch t) (jobs_below launch t)

pub none_unmet : (launch : ℕ) (t : Table) → ltb (unmet_place launch t) t.count ≡ false → mandatory_fit launch t ≡ true
none_unmet launch t e = not-false (mandatory_fit launch t) (sym (unmet_table launch t) ∙ e)

some_unmet : (launch : ℕ) (t : Table) → ltb (unmet_place launch t) t.count ≡ true → mandatory_fit launch t ≡ false
some_unmet launch t e = turned (mandatory_fit launch t) (sym (unmet_table launch t) ∙ e)
  where
    turned : (b : Bool) → not b ≡ true → b ≡ false
    turned true h = sym h
    turned false h = refl

-- A running of an accepted table exists exactly when its mandatory parts alone fit.
pub table_running_exists : (launch : ℕ) (t : Table) → Legal t → ((owner : Owner) × Running (jobs_of launch t) owner) ↔ (mandatory_fit launch t ≡ true)
unfolding mandatory_fit
table_running_exists launch t legal =
    let law = exists_by (is_nested t) (jobs_last_first launch t) (kind_jobs launch t legal) in
    (λ r. law.0 ((exists_order launch t).0 r), λ e. (exists_order launch t).1 (law.1 e))

-- What planning replies on the table of an accepted file, test by test.
pub table_reply : (launch : ℕ) (weight : ℕ → ℕ) (t : Table) (lists : LentLists)
    → plan_table launch weight t lists
    ≡ pick (bad_launch launch) (plan_declined 14 0)
    (pick (ltb (unmet_place launch t) t.count) (plan_declined 8 (unmet_place launch t))
    (pick (short_lists t.count lists) (plan_declined 9 0) (plan_of launch weight t)))
unfolding plan_table reply_by unmet_place plan_of
table_reply launch weight t lists = refl

-- Demand 2, refusal 8, on the table of an accepted file.
table_impossible : (launch : ℕ) (weight : ℕ → ℕ) (t : Table) → bad_launch launch ≡ false → Legal t → (lists : LentLists)
    → ((plan_table launch weight t lists).number ≡ 8) ↔ NoRunning launch t
unfolding plan_of made_by
table_impossible launch weight t low legal lists =
    rw (table_reply launch weight t lists, low)
    (cases (ltb (unmet_place launch t) t.count)
    (λ e. rw e (λ z owner r. both_absurd (mandatory_fit launch t) ((table_running_exists launch t legal).0 (owner, r)) (some_unmet launch t e), λ f. refl))
    (λ e.
    let r = (table_running_exists launch t legal).1 (none_unmet launch t e) in
    rw e
    (cases (short_lists t.count lists)
    (λ h. rw h (λ z. absurd (omega arith), λ f. absurd (f r.0 r.1)))
    (λ h. rw h (λ z. absurd (omega arith), λ f. absurd (f r.0 r.1))))))

-- What is known of the plan of an accepted table whose mandatory parts fit.
module _ (launch : ℕ) (weight : ℕ → ℕ) (t : Table) (legal : Legal t) (none : mandatory_fit launch t ≡ true) where
  kind : JobsOfKind (is_nested t) (jobs_last_first launch t)
  kind = kind_jobs launch t legal

  -- its keep list fits
  pub keeps_fit : fits_by (is_nested t) (jobs_last_first launch t) (chosen_marks launch weight t) ≡ true
  unfolding chosen_marks mandatory_fit
  keeps_fit = (chosen_meets_by (is_nested t) weight (jobs_last_first launch t) none).fit

  -- its marks say what the keep list says
  pub plan_marks_lem : SameMarks (jobs_last_first launch t) (chosen_marks launch weight t) (plan_marks launch weight t)
  unfolding plan_marks marks_by chosen_marks
  plan_marks_lem =
      marks_same (jobs_last_first launch t) (chosen_marks launch weight t) t.count
      (length_by (is_nested t) (jobs_last_first launch t) (chosen_marks launch weight t) keeps_fit) (jobs_distinct launch t) (jobs_below launch t)

  -- none of its runs is empty, they stand by start, and they say who has each tick
  pub plan_listed : Listed (placed_by (is_nested t) (jobs_last_first launch t) (chosen_marks launch weight t)) (plan_runs launch weight t)
  unfolding plan_runs plan_runs_by chosen_marks
  plan_listed = listed_by (is_nested t) (jobs_last_first launch t) (chosen_marks launch weight t) kind keeps_fit

  pub plan_owner : owner_of (plan_runs launch weight t) ≡ placed_by (is_nested t) (jobs_last_first launch t) (chosen_marks launch weight t)
  plan_owner = fun_ext plan_listed.says

  -- marks and runs are together a running of the table
  pub plan_together : Together (jobs_of launch t) (plan_marks launch weight t) (plan_runs launch weight t)
  unfolding plan_runs plan_runs_by chosen_marks
  plan_together =
      together_of_order launch Whole work_of t (plan_marks launch weight t) (plan_runs launch weight t)
      (together_by (is_nested t) (jobs_last_first launch t) (chosen_marks launch weight t) (plan_marks launch weight t) kind keeps_fit plan_marks_lem)

  -- the weight that its keep list discards
  abbrev lost : ℕ
  lost = discarded_worth (weighed weight) (jobs_last_first launch t) (chosen_marks launch weight t)

  -- no running discards less
  plan-least : (owner : Owner) → Running (jobs_last_first launch t) owner → lost ≤ discarded_weight weight (jobs_last_first launch t) owner
  unfolding chosen_marks mandatory_fit
  plan-least = least_by (is_nested t) weight (jobs_last_first launch t) kind none

  -- its placing discards what its keep list does, whatever the parts weigh
  plan-discards : (by : ℕ → ℕ)
      → discarded_weight by (jobs_last_first launch t) (placed_by (is_nested t) (jobs_last_first launch t) (chosen_marks launch weight t))
      ≡ discarded_worth (weighed by) (jobs_last_first launch t) (chosen_marks launch weight t)
  plan-discards by = discards_by (is_nested t) by (jobs_last_first launch t) (chosen_marks launch weight t) kind keeps_fit

  -- so do its runs
  runs-discard : (by : ℕ → ℕ)
      → discarded_weight by (jobs_of launch t) (owner_of (plan_runs launch weight t))
      ≡ discarded_worth (weighed by) (jobs_last_first launch t) (chosen_marks launch weight t)
  runs-discard by =
      ap (discarded_weight by (jobs_of launch t)) plan_owner
      ∙ (discards_order by launch t (placed_by (is_nested t) (jobs_last_first launch t) (chosen_marks launch weight t)) ∙ plan-discards by)

  -- Demand 3, by the weight that the keep list discards.
  pub plan_optimal : OptimalBy weight launch t (plan_marks launch weight t) (plan_runs launch weight t) lost
  plan_optimal =
      record {
        together = plan_together;
        discarded = runs-discard weight;
        least = least_order weight launch t lost plan-least;
        exactly = fewest_order weight launch t lost
            (placed_by (is_nested t) (jobs_last_first launch t) (chosen_marks launch weight t))
            (running_by (is_nested t) (jobs_last_first launch t) (chosen_marks launch weight t) kind keeps_fit)
            (plan-discards weight)
            plan-least;
      }

  -- The running discards as many parts as the reply reports.
  pub plan_counted_lem : discards (jobs_of launch t) (owner_of (plan_runs launch weight t)) ≡ (plan_of launch weight t).discarded
  unfolding plan_of made_by chosen_marks
  plan_counted_lem = runs-discard one_each

  -- there are never more than 2n − 1 runs
  pub plan_few : length (plan_runs launch weight t) ≤ 2 * t.count - 1
  unfolding plan_runs plan_runs_by chosen_marks
  plan_few = omega (arith, few_by (is_nested t) (jobs_last_first launch t) (chosen_marks launch weight t) kind keeps_fit, jobs_length launch t)

  -- the marks are one a task, and none is above 1
  pub marks_length : length (plan_marks launch weight t) ≡ t.count
  unfolding plan_marks marks_by chosen_marks
  marks_length = places_length (mark_at (jobs_last_first launch t) (chosen_marks launch weight t)) t.count

  pub marks_low : (k : ℕ) → k < t.count → get_or (plan_marks launch weight t) k 0 ≤ 1
  unfolding plan_marks marks_by chosen_marks
  marks_low k l =
      rw (places_at (mark_at (jobs_last_first launch t) (chosen_marks launch weight t)) t.count k 0 l)
      (omega (arith, mark_low (jobs_last_first launch t) (chosen_marks launch weight t) k))

  -- the judge's counts are the plan's
  plan-kept : kept_count t (plan_marks launch weight t) ≡ (plan_of launch weight t).kept
  unfolding plan_of made_by chosen_marks jobs_last_first order_last_first job_at job_of marked_weight
  plan-kept =
      sym
      (kept_marks launch t (plan_marks launch weight t) (order_last_first t) (chosen_marks launch weight t) plan_marks_lem
      ∙ count_order (kind_before t) (λ k. and (counts (job_at launch t k)) (eqb (get_or (plan_marks launch weight t) k 0) 1)) t.count)

  plan-discarded : discarded_count t (plan_marks launch weight t) ≡ (plan_of launch weight t).discarded
  plan-discarded =
      sym (together_discards one_each launch t (plan_marks launch weight t) (plan_runs launch weight t) marks_low plan_together) ∙ plan_counted_lem

  -- what the marks of discarded parts weigh is what the keep list discards
  marks-lost : marked_weight 0 weight t (plan_marks launch weight t) ≡ lost
  marks-lost =
      sym (together_discards weight launch t (plan_marks launch weight t) (plan_runs launch weight t) marks_low plan_together) ∙ runs-discard weight

  -- Demand 3 of a table with weights.
  pub weight_optimal : WeightOptimal launch weight t (plan_marks launch weight t) (plan_runs launch weight t) (plan_of launch weight t).discarded
  weight_optimal = record { optimal = rw marks-lost plan_optimal; counted = plan_counted_lem }

  -- the judge says yes
  plan-verdict : verdict launch t (plan_marks launch weight t) (plan_runs launch weight t) ≡ true
  plan-verdict = (judge_verdict launch t (plan_marks launch weight t) (plan_runs launch weight t)).1 (plan_listed.nonempty, plan_listed.ordered, plan_together)

  -- Demand 2: the judge accepts the plan, with the plan's counts.
  table-judged : bad_launch launch ≡ false
      → judge_table launch t (plan_marks launch weight t) (plan_runs launch weight t) ≡ judge_says true (plan_of launch weight t).kept (plan_of launch weight t).discarded
  unfolding judge_table judge_by_verdict first_bad_mark too_many
  table-judged low =
      let good : first_bad_mark (plan_marks launch weight t) t.count ≡ t.count =
      none_passes (λ k. ltb 1 (get_or (plan_marks launch weight t) k 0)) t.count (λ k l. le-ltb 1 (get_or (plan_marks launch weight t) k 0) (marks_low k l)) in
      rw (
        low,
        marks_length,
        eq-eqb t.count t.count refl,
        good,
        le-ltb t.count t.count (omega arith),
        le-ltb max_runs (length (plan_runs launch weight t)) (omega (arith, plan_few, legal_count legal)),
        plan-verdict,
        plan-kept,
        plan-discarded,
      )

-- Demand 3 of a table without weights: each part weighs 1, and the weight that is discarded is the number that the reply reports.
pub count_optimal : (launch : ℕ) (t : Table) → Legal t → mandatory_fit launch t ≡ true
    → Optimal launch t (plan_marks launch one_each t) (plan_runs launch one_each t) (plan_of launch one_each t).discarded
unfolding plan_of made_by chosen_marks
count_optimal launch t legal none = plan_optimal launch one_each t legal none

-- Demand 2, refusal 8: on an accepted file and launch tick 8 is sent exactly when no running of the table completes all mandatory parts.
pub plan_impossible : (launch : ℕ) (read : ReadTable) → LegalRead read → (lists : LentLists) → read.answer ≡ Accepted → bad_launch launch ≡ false
    → ((plan_reply launch read lists).number ≡ 8) ↔ NoRunning launch read.table
unfolding plan_reply
plan_impossible launch read legal lists e low = rw e (table_impossible launch read.weight read.table low (legal e) lists)

-- what a plan was made from: the file and the launch tick are accepted, and the mandatory parts fit
pub record Plannable (launch : ℕ) (read : ReadTable) : Type 0 where
  pub accepted : read.answer ≡ Accepted
  pub launched : bad_launch launch ≡ false
  pub legal : Legal read.table
  pub none : mandatory_fit launch read.table ≡ true

-- Demand 2: the judge accepts every plan, with the plan's counts.
pub plan_judged : (launch : ℕ) (read : ReadTable) → Plannable launch read
    → judge_reply launch read (plan_marks launch read.weight read.table) (plan_runs launch read.weight read.table)
    ≡ judge_says true (plan_of launch read.weight read.table).kept (plan_of launch read.weight read.table).discarded
unfolding judge_reply
plan_judged launch read p = rw p.accepted (table-judged launch read.weight read.table p.legal p.none p.launched)

-- What the code holds of jobs, and what it means: the jobs of a table in the order of its kind, last first, and their keep list.
use Prim.Native.Nat.{ℕ, ◌-◌, ◌*◌, ◌≤◌, ◌<◌}
use mathlib.Core.Path.{◌≡◌, sym, ap, subst, ◌∙◌}
use mathlib.Core.Bool.{Bool, true, false}
use mathlib.Core.List.{List}
use native.Mathlib.Omega.{arith}
use lib.Dec.{ltb, eqb}
use lib.ListN.{length, get_or, take}
use borrow.Author.Tests.{le-ltb, ltb-false, not-false}
use Rattle.base.specs.Limits.{max_tasks, max_launch}
use Rattle.base.specs.Tests.{or}
use Rattle.base.specs.Arrays.{first_places, Distinct}
use Rattle.base.specs.Members.{All}
use Rattle.base.proofs.TestLaws.{or_left, or_right}
use Rattle.base.proofs.MemberLaws.{all_places}
use Rattle.table.specs.declared.Table.{Table}
use Rattle.table.specs.Kinds.{is_nested}
use Rattle.table.specs.Writing.{Legal}
use Rattle.table.proofs.FileLaws.{legal_count}
use Rattle.schedule.specs.declared.Job.{Job}
use Rattle.schedule.specs.JobArrays.{no_job, Bounded}
use Rattle.schedule.proofs.JudgeLaws.{job_position}
use Rattle.choice.specs.Choice.{keep_none}
use Rattle.choice.proofs.JobLists.{places_whole, front_places}
use Rattle.choice.specs.KeepLists.{ChosenFor}
use Rattle.placement.specs.Chains.{positions}
use Rattle.orders.specs.KindOrder.{jobs_last_first}
use Rattle.orders.proofs.OrderLaws.{any_jobs, jobs_bounded, jobs_length}
use Rattle.plans.specs.declared.Planned.{Planned}
use Rattle.plans.specs.Planning.{LentLists, unmet_by, chosen_by, runs_by, short_lists, too_short, marks_by, plan_runs_by, plan_made, made_by, reply_by, written_by, after_by}
use Rattle.plans.specs.PlanParts.{fits_by, written_with, refused_by}
use Rattle.plans.specs.KindJobs.{HeldJobs}
use Rattle.plans.proofs.JobPlans.{distinct_by, unmet_test, chosen_meets_by}
use Rattle.plans.proofs.TableJobs.{kind_jobs}
use Rattle.plans.proofs.PlanLaws.{jobs_below}
use Rattle.plans.proofs.ReplyLaws.{jobs_refused, jobs_planned, lists_kept, lists_written}

-- the lists are long enough
pub record Room (n marks starts ends tasks : ℕ) : Type 0 where
  pub marks_room : n ≤ marks
  pub starts_room : 2 * n - 1 ≤ starts
  pub ends_room : 2 * n - 1 ≤ ends
  pub tasks_room : 2 * n - 1 ≤ tasks

pub room_known : (n marks starts ends tasks : ℕ) → too_short n marks starts ends tasks ≡ false → Room n marks starts ends tasks
unfolding too_short
room_known n marks starts ends tasks e =
    let columns = or (ltb starts (2 * n - 1)) (or (ltb ends (2 * n - 1)) (ltb tasks (2 * n - 1))) in
    let rest = or_right (ltb marks n) columns e in
    let last = or_right (ltb starts (2 * n - 1)) (or (ltb ends (2 * n - 1)) (ltb tasks (2 * n - 1))) rest in
    record {
      marks_room = ltb-false marks n (or_left (ltb marks n) columns e);
      starts_room = ltb-false starts (2 * n - 1) (or_left (ltb starts (2 * n - 1)) (or (ltb ends (2 * n - 1)) (ltb tasks (2 * n - 1))) rest);
      ends_room = ltb-false ends (2 * n - 1) (or_left (ltb ends (2 * n - 1)) (ltb tasks (2 * n - 1)) last);
      tasks_room = ltb-false tasks (2 * n - 1) (or_right (ltb ends (2 * n - 1)) (ltb tasks (2 * n - 1)) last);
    }

-- an array whose first places are the jobs of an accepted table holds them at its front
pub front_jobs : (launch : ℕ) (t : Table) (jobs : List Job) → length jobs ≡ max_tasks → Legal t → first_places no_job jobs t.count ≡ jobs_last_first launch t
    → take t.count jobs ≡ jobs_last_first launch t
front_jobs launch t jobs size legal same = front_places no_job jobs t.count (omega (arith, (legal_count legal).1)) ∙ same

-- The jobs of an accepted table at an accepted launch tick, in the order of its kind, last first.
pub held_table : (launch : ℕ) (t : Table) → launch ≤ max_launch → Legal t → (jobs : List Job) → jobs ≡ jobs_last_first launch t
    → HeldJobs (is_nested t) jobs
held_table launch t low legal jobs same =
    let size : length jobs ≡ t.count = ap length same ∙ jobs_length launch t in
    let whole = places_whole no_job jobs in
    record {
      some = rw size (legal_count legal).0;
      few = rw size (legal_count legal).1;
      kind = rw same (kind_jobs launch t legal);
      bounded = (all_places Bounded (λ k. get_or jobs k no_job) (length jobs)).0 (rw (whole, same) (jobs_bounded launch t low legal));
      below = (all_places (λ job. job.position < length jobs) (λ k. get_or jobs k no_job) (length jobs)).0 (rw (whole, size, same) (jobs_below launch t));
      cover = λ k l. rw same ((any_jobs launch t (λ job. job.position ≡ k)).1 (k, rw size at l, job_position launch t k));
    }

-- Jobs of a kind.
module _ (nested : Bool) (jobs : List Job) (held : HeldJobs nested jobs) where
  -- no two have one position
  pub array_distinct : Distinct (positions jobs)
  array_distinct = distinct_by nested jobs held.kind

  -- where no unmet job is found the mandatory parts alone fit
  pub array_none : length jobs ≤ unmet_by nested (length jobs) jobs → fits_by nested jobs (keep_none jobs) ≡ true
  array_none l =
      let below : All (λ job. job.position < length jobs) jobs =
      subst (λ (all : List Job). All (λ job. job.position < length jobs) all) (places_whole no_job jobs)
      ((all_places (λ job. job.position < length jobs) (λ k. get_or jobs k no_job) (length jobs)).1 held.below) in
      let fit = fits_by nested jobs (keep_none jobs) in
      not-false fit (sym (unmet_test nested (length jobs) jobs below) ∙ le-ltb (unmet_by nested (length jobs) jobs) (length jobs) l)

-- What planning jobs gives, from what is refused of them before they are planned.
module _ (nested : Bool) (weight : ℕ → ℕ) (jobs : List Job) (lists : LentLists) (refusal : Planned)
    (is : refusal ≡ refused_by nested (length jobs) jobs (length lists.marks) (length lists.starts) (length lists.ends) (length lists.tasks))
  where
    -- Where something is, it is the reply, and the lists stay.
    pub refused-plan : eqb refusal.number 0 ≡ false
        → (refusal ≡ reply_by nested weight (length jobs) jobs lists) × (lists ≡ after_by nested weight (length jobs) jobs refusal lists)
    refused-plan refuses = (
      jobs_refused nested weight (length jobs) jobs lists refusal is refuses,
      lists_kept nested weight (length jobs) jobs refusal lists refuses,
    )

    -- Where nothing is,
    module _ (zero_is : refusal.number ≡ 0) where
      planned : (length jobs ≤ unmet_by nested (length jobs) jobs) × (short_lists (length jobs) lists ≡ false)
          × (made_by nested weight jobs ≡ reply_by nested weight (length jobs) jobs lists)
      planned = jobs_planned nested weight (length jobs) jobs lists refusal is zero_is

      -- the mandatory parts alone fit,
      pub none-fit : HeldJobs nested jobs → fits_by nested jobs (keep_none jobs) ≡ true
      none-fit held = array_none nested jobs held planned.0

      -- and what is put under the list that is chosen is the plan:
      module _ (keeps : List Bool) (k d : ℕ) (list : ChosenFor (chosen_by nested weight) jobs keeps k d) where
        -- it fits, and the lists are long enough,
        pub put-known : HeldJobs nested jobs → (fits_by nested jobs keeps ≡ true) × (short_lists (length jobs) lists ≡ false)
        put-known held = (rw list.0 (chosen_meets_by nested weight jobs (none-fit held)).fit, planned.1)

        -- the reply and the lists are those of the plan.
        pub put-plan : (reply : Planned) (new : LentLists) → reply ≡ plan_made k d (length (runs_by nested jobs keeps))
            → new ≡ written_with nested (length jobs) jobs keeps lists
            → (reply ≡ reply_by nested weight (length jobs) jobs lists) × (new ≡ after_by nested weight (length jobs) jobs reply lists)
        unfolding made_by plan_runs_by written_with written_by marks_by
        put-plan reply new e f =
            let made : reply ≡ made_by nested weight jobs = e ∙ rw (list.0, list.1, list.2) in
            let written : new ≡ written_by nested weight (length jobs) jobs lists = f ∙ rw list.0 in (
              made ∙ planned.2,
              written ∙ lists_written nested weight (length jobs) jobs reply lists (ap (λ (p : Planned). p.number) made),
            )

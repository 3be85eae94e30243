-- From the pass over the runs and the totals to the verdict, and from the verdict to the reply.
use Prim.Native.Nat.{ℕ, ◌≤◌, ◌<◌}
use mathlib.Core.Path.{◌≡◌, refl, sym, ap, ◌∙◌}
use mathlib.Core.Bool.{Bool, true, false}
use mathlib.Core.Logic.{◌↔◌}
use mathlib.Core.List.{List, [], ◌∷◌}
use native.Mathlib.Omega.{arith}
use lib.Dec.{ltb, eqb}
use lib.ListN.{length, get_or}
use borrow.Author.Tests.{ltb-true, lt-ltb, le-ltb, eq-eqb, ne_eqb}
use Rattle.base.specs.Limits.{max_tasks}
use Rattle.base.specs.Tests.{pick, and}
use Rattle.base.specs.Lowest.{every_below}
use Rattle.base.proofs.TestLaws.{cases, and_left, and_right}
use Rattle.base.proofs.LowestLaws.{every_same}
use Rattle.base.proofs.PlaceLaws.{places_at}
use Rattle.base.specs.Members.{every_member}
use Rattle.clock.specs.Clock.{bad_launch}
use Rattle.table.specs.declared.Table.{Table}
use Rattle.table.specs.Answers.{Accepted, number_of, place_of, is_accepted}
use Rattle.table.specs.Reading.{ReadTable}
use Rattle.schedule.specs.declared.Job.{Job}
use Rattle.schedule.specs.declared.Judged.{Judged}
use Rattle.schedule.specs.Jobs.{job_of, job_at, work_of, counts}
use Rattle.schedule.specs.JobArrays.{no_job, job_array}
use Rattle.schedule.specs.Ticks.{count_below}
use Rattle.schedule.specs.declared.Run.{Run}
use Rattle.schedule.specs.Runs.{too_many}
use Rattle.schedule.specs.Judging.{none_empty, follow_from, each_follows, known_tasks, in_windows, total_of, exact_totals, verdict_by_jobs, verdict}
use Rattle.schedule.specs.Judging.{marked_weight, count_marked, kept_count, discarded_count, first_bad_mark, judge_declined, judge_by_verdict, judge_table, judge_reply, Acceptable}
use Rattle.schedule.proofs.TickLaws.{count_same}
use Rattle.schedule.proofs.JudgeLaws.{judge_sound}
use Rattle.schedule.specs.Passing.{passes, verdict_by_pass}

-- a run does not pass
pub pass_fails : (job : ℕ → Job) (n : ℕ) (marks : List ℕ) (runs : List Run) → passes job n 0 runs ≡ false → false ≡ verdict_by_pass job n marks runs
unfolding verdict_by_pass
pass_fails job n marks runs e = rw e

-- the runs pass, and the totals are looked at
pub pass_totals : (job : ℕ → Job) (n : ℕ) (marks : List ℕ) (runs : List Run) (totals : List ℕ) → passes job n 0 runs ≡ true → n ≤ max_tasks
    → ((k : ℕ) → k < max_tasks → get_or totals k 0 ≡ total_of runs k)
    → every_below (λ k. eqb (get_or totals k 0) (work_of (job k) (get_or marks k 0))) n ≡ verdict_by_pass job n marks runs
unfolding verdict_by_pass
pass_totals job n marks runs totals e m h =
    rw e
    (every_same (λ k. eqb (get_or totals k 0) (work_of (job k) (get_or marks k 0))) (λ k. eqb (total_of runs k) (work_of (job k) (get_or marks k 0))) n
    (λ k l. ap (λ (x : ℕ). eqb x (work_of (job k) (get_or marks k 0))) (h k (omega arith))))

-- jobs that agree at the positions below n make the same conditions
windows_same : (f g : ℕ → Job) (n : ℕ) → ((k : ℕ) → k < n → f k ≡ g k) → (runs : List Run) → known_tasks n runs ≡ true → in_windows f runs ≡ in_windows g runs
unfolding every_member
windows_same f g n h [] e = refl
windows_same f g n h (run ∷ runs) e =
    let task = ltb-true run.task n (and_left (ltb run.task n) (known_tasks n runs) e) in
    rw (h run.task task, windows_same f g n h runs (and_right (ltb run.task n) (known_tasks n runs) e))

exact_same : (f g : ℕ → Job) (n : ℕ) (marks : List ℕ) (runs : List Run) → ((k : ℕ) → k < n → f k ≡ g k) → exact_totals f marks n runs ≡ exact_totals g marks n runs
exact_same f g n marks runs h =
    every_same (λ k. eqb (total_of runs k) (work_of (f k) (get_or marks k 0))) (λ k. eqb (total_of runs k) (work_of (g k) (get_or marks k 0))) n
    (λ k l. ap (λ (job : Job). eqb (total_of runs k) (work_of job (get_or marks k 0))) (h k l))

regroup : (a b c d e : Bool) → and (and a (and b (and c d))) e ≡ and a (and b (and c (and d e)))
regroup true true true d e = refl
regroup true true false d e = refl
regroup true false c d e = refl
regroup false b c d e = refl

both : (f g : ℕ → Job) (n : ℕ) (marks : List ℕ) (runs : List Run) → ((k : ℕ) → k < n → f k ≡ g k)
    → and (known_tasks n runs) (and (in_windows f runs) (exact_totals f marks n runs)) ≡ and (known_tasks n runs) (and (in_windows g runs) (exact_totals g marks n runs))
both f g n marks runs h =
    cases (known_tasks n runs)
    (λ e. rw (windows_same f g n h runs e, exact_same f g n marks runs h))
    (λ e. rw e)

-- the five conditions are the verdict on the table's own jobs
pub pass_verdict : (launch : ℕ) (t : Table) (marks : List ℕ) (runs : List Run) (job : ℕ → Job) → ((k : ℕ) → k < t.count → job k ≡ job_at launch t k)
    → verdict_by_pass job t.count marks runs ≡ verdict launch t marks runs
unfolding verdict_by_pass passes verdict verdict_by_jobs each_follows
pass_verdict launch t marks runs job h =
    regroup (none_empty runs) (follow_from 0 runs) (known_tasks t.count runs) (in_windows job runs) (exact_totals job marks t.count runs)
    ∙ ap (λ (b : Bool). and (none_empty runs) (and (follow_from 0 runs) b)) (both job (job_at launch t) t.count marks runs h)

-- the jobs of a table, as an array has them
pub jobs_at : (launch : ℕ) (t : Table) (jobs : List Job) → t.count ≤ max_tasks → jobs ≡ job_array launch t
    → (k : ℕ) → k < t.count → get_or jobs k no_job ≡ job_at launch t k
jobs_at launch t jobs m e k l =
    rw (e, places_at (λ k. pick (ltb k t.count) (job_at launch t k) no_job) max_tasks k no_job (omega arith), lt-ltb k t.count l)

-- how many parts have a mark is the same over such an array and over the table
pub marked_same : (mark launch : ℕ) (t : Table) (marks : List ℕ) (job : ℕ → Job) → ((k : ℕ) → k < t.count → job k ≡ job_at launch t k)
    → count_below (λ k. and (counts (job k)) (eqb (get_or marks k 0) mark)) t.count ≡ count_marked mark t marks
unfolding marked_weight job_at job_of
marked_same mark launch t marks job h =
    count_same (λ k. and (counts (job k)) (eqb (get_or marks k 0) mark)) (λ k. and (counts (job_at launch t k)) (eqb (get_or marks k 0) mark)) t.count
    (λ k l. ap (λ (j : Job). and (counts j) (eqb (get_or marks k 0) mark)) (h k l))

-- the reply, test by test, in the order of the refusals
module _ (launch : ℕ) (t : Table) (marks : List ℕ) (runs : List Run) where
  pub launch_refused : bad_launch launch ≡ true → judge_declined 14 0 ≡ judge_table launch t marks runs
  unfolding judge_table judge_by_verdict
  launch_refused e = rw e

  module _ (accepted : bad_launch launch ≡ false) where
    pub length-refused : (length marks ≡ t.count → ⊥) → judge_declined 11 t.count ≡ judge_table launch t marks runs
    unfolding judge_table judge_by_verdict
    length-refused e = rw (accepted, ne_eqb (length marks) t.count e)

    module _ (long : length marks ≡ t.count) where
      pub mark-refused : first_bad_mark marks t.count < t.count → judge_declined 11 (first_bad_mark marks t.count) ≡ judge_table launch t marks runs
      unfolding judge_table judge_by_verdict
      mark-refused l = rw (accepted, eq-eqb (length marks) t.count long, lt-ltb (first_bad_mark marks t.count) t.count l)

      module _ (good : t.count ≤ first_bad_mark marks t.count) where
        pub runs-refused : too_many runs ≡ true → judge_declined 13 0 ≡ judge_table launch t marks runs
        unfolding judge_table judge_by_verdict
        runs-refused e = rw (accepted, eq-eqb (length marks) t.count long, le-ltb (first_bad_mark marks t.count) t.count good, e)

        module _ (few : too_many runs ≡ false) where
          pub says-yes : verdict launch t marks runs ≡ true
              → ◌≡◌ {A = Judged} (record { number = 0; place = 0; yes = true; kept = kept_count t marks; discarded = discarded_count t marks }) (judge_table launch t marks runs)
          unfolding judge_table judge_by_verdict
          says-yes e = rw (accepted, eq-eqb (length marks) t.count long, le-ltb (first_bad_mark marks t.count) t.count good, few, e)

          pub says-no : verdict launch t marks runs ≡ false
              → ◌≡◌ {A = Judged} (record { number = 0; place = 0; yes = false; kept = 0; discarded = 0 }) (judge_table launch t marks runs)
          unfolding judge_table judge_by_verdict
          says-no e = rw (accepted, eq-eqb (length marks) t.count long, le-ltb (first_bad_mark marks t.count) t.count good, few, e)

-- a refusal of reading is the judge's
pub read_refused : (launch : ℕ) (read : ReadTable) (marks : List ℕ) (runs : List Run) → is_accepted read.answer ≡ false
    → judge_declined (number_of read.answer) (place_of read.answer) ≡ judge_reply launch read marks runs
unfolding judge_reply
read_refused launch read marks runs e = rw e

-- on an accepted file the judge replies as on its table
pub read_accepted : (launch : ℕ) (read : ReadTable) (marks : List ℕ) (runs : List Run) → read.answer ≡ Accepted
    → judge_table launch read.table marks runs ≡ judge_reply launch read marks runs
unfolding judge_reply
read_accepted launch read marks runs e = rw e

-- a reply that is the judge's is sound
pub sound_of : (launch : ℕ) (read : ReadTable) (marks : List ℕ) (runs : List Run) (r : Judged) → r ≡ judge_reply launch read marks runs
    → r.number ≡ 0 → (r.yes ≡ true) ↔ Acceptable launch read.table marks runs
sound_of launch read marks runs r e z =
    let law = judge_sound launch read marks runs (ap (λ (j : Judged). j.number) (sym e) ∙ z) in
    (λ y. law.0 (ap (λ (j : Judged). j.yes) (sym e) ∙ y), λ f. ap (λ (j : Judged). j.yes) e ∙ law.1 f)

-- Laws of judging: a yes is said exactly where a keep list and runs are together a running, and what it counts is what the running discards.
use Prim.Native.Nat.{ℕ, zero, suc, ◌+◌, ◌-◌, ◌≤◌, ◌<◌}
use mathlib.Core.Path.{◌≡◌, refl, sym, ap, ◌∙◌}
use mathlib.Core.Logic.{◌↔◌, inl, inr}
use mathlib.Core.List.{List}
use mathlib.Core.Bool.{Bool, true, false, not}
use mathlib.Core.Option.{some}
use native.Mathlib.Omega.{arith}
use lib.Dec.{leb, ltb, eqb}
use lib.ListN.{length, get_or}
use borrow.Author.Tests.{leb-true, ltb-true, eqb-true, eqb-false, le-leb, lt-ltb, eq-eqb, ne_eqb}
use Rattle.base.specs.Tests.{pick, and}
use Rattle.base.specs.Places.{places_from, places}
use Rattle.base.proofs.TestLaws.{cases, and_true, and_left, and_right}
use Rattle.base.proofs.LowestLaws.{every_below_lem}
use Rattle.clock.specs.Clock.{bad_launch}
use Rattle.table.specs.declared.Table.{Table}
use Rattle.table.specs.Answers.{Answer, number_of, is_accepted}
use Rattle.table.specs.Reading.{ReadTable}
use Rattle.table.proofs.AnswerLaws.{refused_number}
use Rattle.schedule.specs.declared.Job.{Job}
use Rattle.schedule.specs.declared.Judged.{Judged}
use Rattle.schedule.specs.Jobs.{job_of, job_at, jobs_of, work_of, counts}
use Rattle.schedule.specs.Ticks.{Owner, sum_below}
use Rattle.schedule.specs.Runnings.{WindowHolds, got, Gets, discarded_weight, Whole}
use Rattle.base.specs.Members.{All, Any}
use Rattle.base.proofs.MemberLaws.{all_map, any_map, all_members, any_member, all_places, any_places}
use Rattle.base.specs.Sums.{total}
use Rattle.schedule.specs.declared.Run.{Run}
use Rattle.schedule.specs.Runs.{run_holds, owner_of, Together, too_many}
use Rattle.schedule.specs.Judging.{none_empty, each_follows, known_tasks, inside_window, in_windows, total_of, exact_totals, verdict_by_jobs, verdict, marked_weight, kept_count, discarded_count, first_bad_mark, judge_says, judge_by_verdict, judge_table, judge_reply, Acceptable}
use Rattle.schedule.proofs.RunLaws.{in_holds, run_holds_lem, every_each, owner_is_run, owner_has_run, run_ticks}

-- The conditions of the verdict, as facts of each run and of each task.

-- every start is below its end
pub nonempty_each : (runs : List Run) → (none_empty runs ≡ true) ↔ All (λ run. run.start < run.end) runs
nonempty_each =
    every_each (λ run. ltb run.start run.end) (λ run. run.start < run.end)
    (λ run. (ltb-true run.start run.end, lt-ltb run.start run.end))

-- every task number is below n
pub known_each : (n : ℕ) (runs : List Run) → (known_tasks n runs ≡ true) ↔ All (λ run. run.task < n) runs
known_each n = every_each (λ run. ltb run.task n) (λ run. run.task < n) (λ run. (ltb-true run.task n, lt-ltb run.task n))

-- every run is inside its window
abbrev pub InWindow : (ℕ → Job) → Run → Type 0
InWindow job run = ((job run.task).release ≤ run.start) × (run.end ≤ (job run.task).deadline)

pub windows_each : (job : ℕ → Job) (runs : List Run) → (in_windows job runs ≡ true) ↔ All (InWindow job) runs
windows_each job = every_each (λ run. inside_window (job run.task) run) (InWindow job) (λ run. window_test (job run.task) run)
  where
    window_test : (own : Job) (run : Run) → (inside_window own run ≡ true) ↔ ((own.release ≤ run.start) × (run.end ≤ own.deadline))
    window_test own run =
        let late = leb own.release run.start in
        let early = leb run.end own.deadline in (
          λ e. (leb-true own.release run.start (and_left late early e), leb-true run.end own.deadline (and_right late early e)),
          λ h. and_true late early (le-leb own.release run.start h.0) (le-leb run.end own.deadline h.1),
        )

-- each task's runs total its work
pub totals_each : (job : ℕ → Job) (marks : List ℕ) (n : ℕ) (runs : List Run)
    → (exact_totals job marks n runs ≡ true) ↔ ((k : ℕ) → k < n → total_of runs k ≡ work_of (job k) (get_or marks k 0))
totals_each job marks n runs =
    let work : ℕ → ℕ = λ k. work_of (job k) (get_or marks k 0) in
    let each = every_below_lem (λ k. eqb (total_of runs k) (work k)) n in (
      λ e k l. eqb-true (total_of runs k) (work k) (each.0 e k l),
      λ h. each.1 (λ k l. eq-eqb (total_of runs k) (work k) (h k l)),
    )

-- the verdict is yes exactly where all five hold
pub verdict_five : (launch : ℕ) (t : Table) (marks : List ℕ) (runs : List Run)
    → (verdict launch t marks runs ≡ true)
    ↔ ((none_empty runs ≡ true) × (each_follows runs ≡ true) × (known_tasks t.count runs ≡ true) × (in_windows (job_at launch t) runs ≡ true)
    × (exact_totals (job_at launch t) marks t.count runs ≡ true))
unfolding verdict verdict_by_jobs
verdict_five launch t marks runs = five (none_empty runs) (each_follows runs) (known_tasks t.count runs) (in_windows (job_at launch t) runs) (exact_totals (job_at launch t) marks t.count runs)
  where
    five : (a b c d e : Bool) → (and a (and b (and c (and d e))) ≡ true) ↔ ((a ≡ true) × (b ≡ true) × (c ≡ true) × (d ≡ true) × (e ≡ true))
    five a b c d e = (
      λ h.
          let h₁ = and_right a (and b (and c (and d e))) h in
          let h₂ = and_right b (and c (and d e)) h₁ in
          let h₃ = and_right c (and d e) h₂ in
          (and_left a (and b (and c (and d e))) h, and_left b (and c (and d e)) h₁, and_left c (and d e) h₂, and_left d e h₃, and_right d e h₃),
      λ h. rw (h.0, h.1, h.2, h.3, h.4),
    )

-- The jobs of a table.

-- the job at a position has it
pub job_position : (launch : ℕ) (t : Table) (k : ℕ) → (job_at launch t k).position ≡ k
unfolding job_at job_of
job_position launch t k = refl

-- a job of position i holds a tick exactly where i is in the table and the window at i has the tick
pub job_holds : (launch : ℕ) (t : Table) (tick i : ℕ)
    → Any (WindowHolds tick i) (jobs_of launch t) ↔ ((i < t.count) × ((job_at launch t i).release ≤ tick) × (tick < (job_at launch t i).deadline))
unfolding jobs_of
job_holds launch t tick i = (
  λ h.
      let m = (any_places (WindowHolds tick i) (job_at launch t) t.count).0 h in
      let e : m.0 ≡ i = sym (job_position launch t m.0) ∙ m.2.0 in
      (rw e at m.1, rw e at m.2.1, rw e at m.2.2),
  λ h. (any_places (WindowHolds tick i) (job_at launch t) t.count).1 (i, h.0, (job_position launch t i, h.1, h.2)),
)

-- in order and in the windows, a task's job gets what the task's runs total
pub got_total : (launch : ℕ) (t : Table) (runs : List Run) → none_empty runs ≡ true → each_follows runs ≡ true → All (InWindow (job_at launch t)) runs
    → (k : ℕ) → got (owner_of runs) (job_at launch t k) ≡ total_of runs k
unfolding each_follows
got_total launch t runs ne io w k =
    rw (job_position launch t k)
    (run_ticks 0 runs ne io k (job_at launch t k).release (job_at launch t k).deadline
    (all_map (InWindow (job_at launch t)) (λ run. run.task ≡ k → ((job_at launch t k).release ≤ run.start) × (run.end ≤ (job_at launch t k).deadline)) runs
    (λ run h e. rw (← e) h) w))

-- a job that gets the work of its mark gets one of its two amounts
work_gets : (owner : Owner) (job : Job) (mark : ℕ) → got owner job ≡ work_of job mark → Gets Whole owner job
work_gets owner job mark e =
    cases (eqb mark 1)
    (λ h. inr (rw h at e))
    (λ h. let q : got owner job ≡ job.mandatory + 0 = rw h at e in inl (omega arith))

-- in the windows, whoever has a tick is in the table and has it in its window
owned_in : (launch : ℕ) (t : Table) (runs : List Run) → All (λ run. run.task < t.count) runs → All (InWindow (job_at launch t)) runs
    → (tick i : ℕ) → owner_of runs tick ≡ some i → (i < t.count) × ((job_at launch t i).release ≤ tick) × (tick < (job_at launch t i).deadline)
owned_in launch t runs known win tick i e =
    let m = any_member (λ run. (run_holds run tick ≡ true) × (run.task ≡ i)) runs (owner_has_run runs tick i e) in
    let h = run_holds_lem m.0 tick m.2.0 in
    let k : i < t.count = rw m.2.1 at ((all_members (λ run. run.task < t.count) runs).0 known m.0 m.1) in
    let w : ((job_at launch t i).release ≤ m.0.start) × (m.0.end ≤ (job_at launch t i).deadline) = rw m.2.1 at ((all_members (InWindow (job_at launch t)) runs).0 win m.0 m.1) in
    (k, omega arith, omega arith)

-- a yes: the keep list and the runs are together a running
yes_together : (launch : ℕ) (t : Table) (marks : List ℕ) (runs : List Run) → none_empty runs ≡ true → each_follows runs ≡ true → All (λ run. run.task < t.count) runs
    → All (InWindow (job_at launch t)) runs → ((k : ℕ) → k < t.count → total_of runs k ≡ work_of (job_at launch t k) (get_or marks k 0)) → Together (jobs_of launch t) marks runs
unfolding jobs_of
yes_together launch t marks runs ne io known win total =
    let Works : Job → Type 0 = λ job. got (owner_of runs) job ≡ work_of job (get_or marks job.position 0) in
    let works = (all_places Works (job_at launch t) t.count).1 (λ k l. got_total launch t runs ne io win k ∙ rw (job_position launch t k) (total k l)) in
    record {
      running = record {
        inside = λ tick i e. (job_holds launch t tick i).1 (owned_in launch t runs known win tick i e);
        gets = all_map Works (Gets Whole (owner_of runs)) (jobs_of launch t) (λ job e. work_gets (owner_of runs) job (get_or marks job.position 0) e) works;
      };
      work = works;
    }

-- together a running: each job gets the work of its mark
pub together_work : (launch : ℕ) (t : Table) (marks : List ℕ) (runs : List Run) → Together (jobs_of launch t) marks runs
    → (k : ℕ) → k < t.count → got (owner_of runs) (job_at launch t k) ≡ work_of (job_at launch t k) (get_or marks k 0)
unfolding jobs_of
together_work launch t marks runs g k l =
    (all_places (λ job. got (owner_of runs) job ≡ work_of job (get_or marks job.position 0)) (job_at launch t) t.count).0 g.work k l
    ∙ ap (λ p. work_of (job_at launch t k) (get_or marks p 0)) (job_position launch t k)

-- together a running: each run's task is in the table and has the run's ticks in its window
run_tick : (launch : ℕ) (t : Table) (marks : List ℕ) (runs : List Run) → none_empty runs ≡ true → each_follows runs ≡ true → Together (jobs_of launch t) marks runs
    → (run : Run) → Any (λ r. r ≡ run) runs → (tick : ℕ) → run.start ≤ tick → tick < run.end
    → (run.task < t.count) × ((job_at launch t run.task).release ≤ tick) × (tick < (job_at launch t run.task).deadline)
unfolding each_follows
run_tick launch t marks runs ne io g run m tick a b =
    let held = any_map (λ r. r ≡ run) (λ r. (run_holds r tick ≡ true) × (r.task ≡ run.task)) runs (λ r e. rw e (in_holds run tick a b, refl)) m in
    (job_holds launch t tick run.task).0 (g.running.inside tick run.task (owner_is_run 0 runs ne io tick run.task held))

-- so the run lies in its window
run_inside : (launch : ℕ) (t : Table) (marks : List ℕ) (runs : List Run) → none_empty runs ≡ true → each_follows runs ≡ true → Together (jobs_of launch t) marks runs
    → (run : Run) → Any (λ r. r ≡ run) runs → (run.task < t.count) × InWindow (job_at launch t) run
run_inside launch t marks runs ne io g run m =
    let l = (all_members (λ r. r.start < r.end) runs).0 ((nonempty_each runs).0 ne) run m in
    let first = run_tick launch t marks runs ne io g run m run.start (omega arith) l in
    let last = run_tick launch t marks runs ne io g run m (run.end - 1) (omega arith) (omega arith) in
    (first.0, (first.1, omega arith))

-- together a running: each task's runs total its work
together_total : (launch : ℕ) (t : Table) (marks : List ℕ) (runs : List Run) → none_empty runs ≡ true → each_follows runs ≡ true → All (InWindow (job_at launch t)) runs
    → Together (jobs_of launch t) marks runs → (k : ℕ) → k < t.count → total_of runs k ≡ work_of (job_at launch t k) (get_or marks k 0)
together_total launch t marks runs ne io win g k l = sym (got_total launch t runs ne io win k) ∙ together_work launch t marks runs g k l

-- the theorem of the judge: yes exactly where the runs are not empty, are in order, and are with the keep list a running
pub judge_verdict : (launch : ℕ) (t : Table) (marks : List ℕ) (runs : List Run)
    → (verdict launch t marks runs ≡ true) ↔ ((none_empty runs ≡ true) × (each_follows runs ≡ true) × Together (jobs_of launch t) marks runs)
judge_verdict launch t marks runs = (
  λ e.
      let v = (verdict_five launch t marks runs).0 e in (
        v.0,
        v.1,
        yes_together launch t marks runs v.0 v.1 ((known_each t.count runs).0 v.2) ((windows_each (job_at launch t) runs).0 v.3)
            ((totals_each (job_at launch t) marks t.count runs).0 v.4),
      ),
  λ h.
      let inside = run_inside launch t marks runs h.0 h.1 h.2 in
      let known = (all_members (λ run. run.task < t.count) runs).1 (λ run m. (inside run m).0) in
      let win = (all_members (InWindow (job_at launch t)) runs).1 (λ run m. (inside run m).1) in
      (verdict_five launch t marks runs).1 (
        h.0,
        h.1,
        (known_each t.count runs).1 known,
        (windows_each (job_at launch t) runs).1 win,
        (totals_each (job_at launch t) marks t.count runs).1 (together_total launch t marks runs h.0 h.1 win h.2),
      ),
)

-- what a running discards, from place i on
discards_from : (weight : ℕ → ℕ) (at : ℕ → Job) (owner : Owner) (test : ℕ → Bool) (i n : ℕ)
    → ((k : ℕ) → i ≤ k → k < i + n → and (counts (at k)) (eqb (got owner (at k)) (at k).mandatory) ≡ test k)
    → discarded_weight weight (places_from at i n) owner + sum_below (λ k. pick (test k) (weight (at k).position) 0) i
    ≡ sum_below (λ k. pick (test k) (weight (at k).position) 0) (i + n)
unfolding discarded_weight places_from sum_below
discards_from weight at owner test i zero h = let e : i + 0 ≡ i = omega arith in rw e (omega arith)
discards_from weight at owner test i (suc n) h =
    let e : suc i + n ≡ i + suc n = omega arith in
    let q = discards_from weight at owner test (suc i) n (λ k l m. h k (omega arith) (omega arith)) in
    rw (← e) (omega (arith, q, ap (λ (b : Bool). pick b (weight (at i).position) 0) (h i (omega arith) (omega arith))))

-- what a running discards, place by place
pub discards_places : (weight : ℕ → ℕ) (at : ℕ → Job) (owner : Owner) (test : ℕ → Bool) (n : ℕ)
    → ((k : ℕ) → k < n → and (counts (at k)) (eqb (got owner (at k)) (at k).mandatory) ≡ test k)
    → discarded_weight weight (places at n) owner ≡ sum_below (λ k. pick (test k) (weight (at k).position) 0) n
unfolding places sum_below
discards_places weight at owner test n h =
    let e : 0 + n ≡ n = omega arith in
    omega (arith, rw e at (discards_from weight at owner test 0 n (λ k l m. h k (omega arith))))

-- a job that gets the work of its mark has its optional part discarded exactly where it has one and the mark is 0
pub discarded_mark : (owner : Owner) (job : Job) (mark : ℕ) → mark ≤ 1 → got owner job ≡ work_of job mark
    → and (counts job) (eqb (got owner job) job.mandatory) ≡ and (counts job) (eqb mark 0)
discarded_mark owner job mark l e =
    cases (counts job)
    (λ c.
    let o = ltb-true 0 job.optional c in
    cases (eqb mark 1)
    (λ h.
    let m = eqb-true mark 1 h in
    let q : got owner job ≡ job.mandatory + job.optional = rw h at e in
    rw (c, ne_eqb (got owner job) job.mandatory (λ z. omega arith), ne_eqb mark 0 (λ z. omega arith)))
    (λ h.
    let m = eqb-false mark 1 h in
    let q : got owner job ≡ job.mandatory + 0 = rw h at e in
    rw (c, eq-eqb (got owner job) job.mandatory (omega arith), eq-eqb mark 0 (omega arith))))
    (λ c. rw c)

-- what the marks of discarded parts weigh is what the running discards; so the discarded count of the judge is how many it discards
pub together_discards : (weight : ℕ → ℕ) (launch : ℕ) (t : Table) (marks : List ℕ) (runs : List Run) → ((k : ℕ) → k < t.count → get_or marks k 0 ≤ 1)
    → Together (jobs_of launch t) marks runs → discarded_weight weight (jobs_of launch t) (owner_of runs) ≡ marked_weight 0 weight t marks
unfolding jobs_of job_at job_of marked_weight
together_discards weight launch t marks runs low g =
    discards_places weight (job_at launch t) (owner_of runs) (λ k. and (counts (job_at launch t k)) (eqb (get_or marks k 0) 0)) t.count
    (λ k l. discarded_mark (owner_of runs) (job_at launch t k) (get_or marks k 0) (low k l) (together_work launch t marks runs g k l))

-- the reply of a judge that refuses nothing is the verdict, with the counts that come with a yes
pub table_says : (launch : ℕ) (t : Table) (marks : List ℕ) (runs : List Run) → (judge_table launch t marks runs).number ≡ 0
    → judge_table launch t marks runs ≡ judge_says (verdict launch t marks runs) (kept_count t marks) (discarded_count t marks)
unfolding judge_table judge_by_verdict
table_says launch t marks runs =
    cases (bad_launch launch)
    (λ d. rw d (λ z. absurd (omega arith)))
    (λ d.
    rw d
    (cases (not (eqb (length marks) t.count))
    (λ e. rw e (λ z. absurd (omega arith)))
    (λ e.
    rw e
    (cases (ltb (first_bad_mark marks t.count) t.count)
    (λ f. rw f (λ z. absurd (omega arith)))
    (λ f. rw f (cases (too_many runs) (λ g. rw g (λ z. absurd (omega arith))) (λ g. rw g (λ z. refl))))))))

-- a refusal of reading has a number
refused_nonzero : (a : Answer) → is_accepted a ≡ false → number_of a ≡ 0 → ⊥
refused_nonzero a e z = eqb-false (number_of a) 0 (refused_number a e) z

-- Where the judge refuses nothing, it says yes exactly when the runs follow one another in time, none is empty, and list and runs together are
-- a running.
pub judge_sound : (launch : ℕ) (read : ReadTable) (marks : List ℕ) (runs : List Run) → (judge_reply launch read marks runs).number ≡ 0
    → ((judge_reply launch read marks runs).yes ≡ true) ↔ Acceptable launch read.table marks runs
unfolding judge_reply
judge_sound launch read marks runs =
    cases (is_accepted read.answer)
    (λ e.
    rw e
    (λ z.
    let same = ap (λ (j : Judged). j.yes) (table_says launch read.table marks runs z) in
    let law = judge_verdict launch read.table marks runs in (
      λ y. let f = law.0 (sym same ∙ y) in record { follow = f.1; nonempty = f.0; together = f.2 },
      λ f. same ∙ law.1 (f.nonempty, f.follow, f.together),
    )))
    (λ e. rw e (λ z. absurd (refused_nonzero read.answer e z)))

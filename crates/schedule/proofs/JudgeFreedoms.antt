-- Two freedoms that the judge leaves to a keep list and a run list: marks at optional parts of 0 ticks, and runs of one task that touch.
use Prim.Native.Nat.{ℕ, ◌+◌, ◌-◌, ◌≤◌, ◌<◌}
use mathlib.Core.Path.{◌≡◌, refl, sym, ap, ◌∙◌}
use mathlib.Core.List.{List, [], ◌∷◌, ◌++◌}
use mathlib.Core.Bool.{Bool, and-false}
use native.Mathlib.Omega.{arith}
use lib.Dec.{leb, ltb, eqb}
use lib.ListN.{get_or}
use borrow.Author.Tests.{leb-true, ltb-true, ltb-false, le-leb, lt-ltb}
use Rattle.base.specs.Tests.{pick, and}
use Rattle.base.proofs.TestLaws.{cases, pick_same}
use Rattle.base.proofs.LowestLaws.{every_same}
use Rattle.base.specs.Members.{every_member}
use Rattle.table.specs.declared.Table.{Table}
use Rattle.table.specs.Answers.{is_accepted}
use Rattle.table.specs.Reading.{ReadTable}
use Rattle.schedule.specs.declared.Job.{Job}
use Rattle.schedule.specs.declared.Run.{Run}
use Rattle.schedule.specs.Jobs.{job_of, job_at, work_of, counts}
use Rattle.schedule.specs.Runs.{run_of, sum_runs}
use Rattle.schedule.specs.Judging.{none_empty, follow_from, each_follows, known_tasks, inside_window, in_windows, total_of, exact_totals, verdict_by_jobs, verdict}
use Rattle.schedule.specs.Judging.{marked_weight, kept_count, discarded_count, judge_says, judge_reply}
use Rattle.schedule.specs.Freedoms.{SameAtParts, EquallyGood}
use Rattle.schedule.proofs.TickLaws.{count_same}
use Rattle.schedule.proofs.JudgeLaws.{table_says}

-- 'A mark of 1 or 0 for an optional part of 0 ticks is equally good.'

-- one job: the work is the same, and so is whether the mark enters a count
work_free : (job : Job) (mark other : ℕ) → (0 < job.optional → mark ≡ other) → work_of job mark ≡ work_of job other
work_free job mark other h =
    cases (counts job)
    (λ c. rw (h (ltb-true 0 job.optional c)))
    (λ c. let z : job.optional ≡ 0 = omega (arith, ltb-false 0 job.optional c) in simp (z, pick_same))

count_free : (job : Job) (mark other v : ℕ) → (0 < job.optional → mark ≡ other) → and (counts job) (eqb mark v) ≡ and (counts job) (eqb other v)
count_free job mark other v h = cases (counts job) (λ c. rw (h (ltb-true 0 job.optional c))) (λ c. rw c)

-- each task's runs total its work: tests that agree at every task
exact_free : (launch : ℕ) (t : Table) (marks other : List ℕ) (runs : List Run) → SameAtParts t marks other
    → exact_totals (job_at launch t) marks t.count runs ≡ exact_totals (job_at launch t) other t.count runs
unfolding job_at job_of
exact_free launch t marks other runs h =
    let test : List ℕ → ℕ → Bool = λ list k. eqb (total_of runs k) (work_of (job_at launch t k) (get_or list k 0)) in
    every_same (test marks) (test other) t.count
    (λ k l. ap (eqb (total_of runs k)) (work_free (job_at launch t k) (get_or marks k 0) (get_or other k 0) (h k l)))

-- marks at optional parts of 0 ticks are free: whatever they are, the lists are equally good
pub zero_marks_free : (launch : ℕ) (t : Table) (marks other : List ℕ) (runs : List Run) → SameAtParts t marks other → EquallyGood launch t marks other runs
unfolding verdict verdict_by_jobs marked_weight job_at job_of
zero_marks_free launch t marks other runs h =
    let enters : List ℕ → ℕ → ℕ → Bool = λ list v k. and (counts (job_at launch t k)) (eqb (get_or list k 0) v) in
    let same : (v k : ℕ) → k < t.count → enters marks v k ≡ enters other v k = λ v k l. count_free (job_at launch t k) (get_or marks k 0) (get_or other k 0) v (h k l) in
    record {
      yes = rw (exact_free launch t marks other runs h);
      kept = count_same (enters marks 1) (enters other 1) t.count (same 1);
      discarded = count_same (enters marks 0) (enters other 0) t.count (same 0);
    }

-- so the judge, where it refuses nothing, says the same of both
pub zero_marks_says : (launch : ℕ) (t : Table) (marks other : List ℕ) (runs : List Run) → SameAtParts t marks other
    → judge_says (verdict launch t marks runs) (kept_count t marks) (discarded_count t marks)
    ≡ judge_says (verdict launch t other runs) (kept_count t other) (discarded_count t other)
zero_marks_says launch t marks other runs h =
    let good = zero_marks_free launch t marks other runs h in
    rw (good.yes, good.kept, good.discarded)

-- and where it refuses neither list, its two replies are one
pub zero_marks_judged : (launch : ℕ) (read : ReadTable) (marks other : List ℕ) (runs : List Run) → SameAtParts read.table marks other
    → (judge_reply launch read marks runs).number ≡ 0 → (judge_reply launch read other runs).number ≡ 0
    → judge_reply launch read marks runs ≡ judge_reply launch read other runs
unfolding judge_reply
zero_marks_judged launch read marks other runs h =
    let t = read.table in
    cases (is_accepted read.answer)
    (λ e.
    rw e
    (λ a b.
    table_says launch t marks runs a
    ∙ (zero_marks_says launch t marks other runs h ∙ sym (table_says launch t other runs b))))
    (λ e. rw e (λ a b. refl))

-- 'Two runs of one task may touch.'

-- A run from s to e is cut at m, and stands between other runs. Each condition of the verdict by itself.
module _ (s m e k : ℕ) (first : s < m) (second : m < e) (after : List Run) where
  -- a test that the whole run passes exactly where both parts do, and a number of it that is the sum of theirs
  every-cut : (test : Run → Bool) → test (run_of s e k) ≡ and (test (run_of s m k)) (test (run_of m e k)) → (before : List Run)
      → every_member test (before ++ run_of s e k ∷ after) ≡ every_member test (before ++ run_of s m k ∷ run_of m e k ∷ after)
  unfolding every_member
  every-cut test h [] = rw h (cases (test (run_of s m k)) (λ t. rw t) (λ t. rw t))
  every-cut test h (run ∷ before) = rw (every-cut test h before)

  sum-cut : (number : Run → ℕ) → number (run_of s e k) ≡ number (run_of s m k) + number (run_of m e k) → (before : List Run)
      → sum_runs number (before ++ run_of s e k ∷ after) ≡ sum_runs number (before ++ run_of s m k ∷ run_of m e k ∷ after)
  sum-cut number h [] = omega (arith, h)
  sum-cut number h (run ∷ before) = rw (sum-cut number h before)

  nonempty-cut : (before : List Run) → none_empty (before ++ run_of s e k ∷ after) ≡ none_empty (before ++ run_of s m k ∷ run_of m e k ∷ after)
  nonempty-cut = every-cut (λ run. ltb run.start run.end) (rw (lt-ltb s e (omega arith), lt-ltb s m first, lt-ltb m e second))

  follow-cut : (from : ℕ) (before : List Run)
      → follow_from from (before ++ run_of s e k ∷ after) ≡ follow_from from (before ++ run_of s m k ∷ run_of m e k ∷ after)
  unfolding follow_from
  follow-cut from [] = rw (le-leb m m (omega arith))
  follow-cut from (run ∷ before) = rw (follow-cut run.end before)

  known-cut : (n : ℕ) (before : List Run)
      → known_tasks n (before ++ run_of s e k ∷ after) ≡ known_tasks n (before ++ run_of s m k ∷ run_of m e k ∷ after)
  known-cut n = every-cut (λ run. ltb run.task n) (cases (ltb k n) (λ t. rw t) (λ t. rw t))

  -- one window: the whole run is in it exactly where both parts are
  window-cut : (own : Job) → inside_window own (run_of s e k) ≡ and (inside_window own (run_of s m k)) (inside_window own (run_of m e k))
  window-cut own =
      let lo = own.release in
      let hi = own.deadline in
      cases (leb lo s)
      (λ a.
      let low : lo ≤ s = leb-true lo s a in
      rw (a, le-leb lo m (omega arith))
      (cases (leb e hi)
      (λ b. let high : e ≤ hi = leb-true e hi b in rw (b, le-leb m hi (omega arith)))
      (λ b. rw (b, and-false (leb m hi)))))
      (λ a. rw a)

  windows-cut : (job : ℕ → Job) (before : List Run)
      → in_windows job (before ++ run_of s e k ∷ after) ≡ in_windows job (before ++ run_of s m k ∷ run_of m e k ∷ after)
  windows-cut job = every-cut (λ run. inside_window (job run.task) run) (window-cut (job k))

  total-cut : (before : List Run) (i : ℕ) → total_of (before ++ run_of s e k ∷ after) i ≡ total_of (before ++ run_of s m k ∷ run_of m e k ∷ after) i
  total-cut before i =
      sum-cut (λ run. pick (eqb run.task i) (run.end - run.start) 0) (cases (eqb k i) (λ t. rw t (omega arith)) (λ t. rw t (omega arith))) before

  exact-cut : (job : ℕ → Job) (marks : List ℕ) (n : ℕ) (before : List Run)
      → exact_totals job marks n (before ++ run_of s e k ∷ after) ≡ exact_totals job marks n (before ++ run_of s m k ∷ run_of m e k ∷ after)
  exact-cut job marks n before = every_same _ _ n (λ i l. rw (total-cut before i))

-- a run cut in two that touch is judged as the whole one
pub touching_runs_free : (launch : ℕ) (t : Table) (marks : List ℕ) (before after : List Run) (s m e k : ℕ) → s < m → m < e
    → verdict launch t marks (before ++ run_of s e k ∷ after) ≡ verdict launch t marks (before ++ run_of s m k ∷ run_of m e k ∷ after)
unfolding verdict verdict_by_jobs each_follows
touching_runs_free launch t marks before after s m e k first second =
    rw (
      nonempty-cut s m e k first second after before,
      follow-cut s m e k first second after 0 before,
      known-cut s m e k first second after t.count before,
      windows-cut s m e k first second after (job_at launch t) before,
      exact-cut s m e k first second after (job_at launch t) marks t.count before,
    )

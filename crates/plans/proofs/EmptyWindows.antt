-- Plans of tables with a window that has no tick: 8 where its task has mandatory ticks; else the table is planned where the other tasks have a running, and
-- its optional part is dropped, where it has ticks.
use Prim.Native.Nat.{ℕ, zero, suc, ◌+◌, ◌-◌, ◌≤◌, ◌<◌}
use mathlib.Core.Path.{◌≡◌, refl, sym, ◌∙◌}
use mathlib.Core.Bool.{false}
use mathlib.Core.Logic.{◌↔◌}
use mathlib.Core.List.{List, ◌∷◌, ◌++◌}
use native.Mathlib.Omega.{arith}
use lib.Dec.{eqb}
use lib.ListN.{get_or}
use borrow.Author.Tests.{eq-eqb}
use Rattle.base.specs.Tests.{pick}
use Rattle.base.specs.Places.{places_from, places}
use Rattle.base.proofs.MemberLaws.{all_places}
use Rattle.base.proofs.PlaceLaws.{places_around}
use Rattle.clock.specs.Clock.{bad_launch}
use Rattle.table.specs.Answers.{Accepted}
use Rattle.table.specs.declared.Table.{Table}
use Rattle.table.specs.Tables.{task_at}
use Rattle.table.specs.Reading.{ReadTable}
use Rattle.table.specs.LegalReads.{LegalRead}
use Rattle.schedule.specs.declared.Job.{Job}
use Rattle.schedule.specs.Jobs.{job_of, job_at, jobs_of, window_ticks, work_of}
use Rattle.schedule.specs.Ticks.{Owner}
use Rattle.schedule.specs.Runnings.{got, Gets, Running, Whole}
use Rattle.schedule.specs.Runs.{owner_of}
use Rattle.schedule.proofs.EmptyWindows.{empty_got, empty_gets, empty_running}
use Rattle.plans.specs.Planning.{LentLists, plan_marks, plan_runs, plan_reply}
use Rattle.plans.proofs.PlanLaws.{plan_together, marks_low, plan_impossible, Plannable}
use Rattle.plans.proofs.ReplyLaws.{plan_made_lem}

-- Where reading refuses nothing and the launch tick is accepted, a task with mandatory ticks in an empty window is refused.
pub empty_refused : (launch : ℕ) (read : ReadTable) → LegalRead read → (lists : LentLists) → read.answer ≡ Accepted → bad_launch launch ≡ false
    → (k : ℕ) → k < read.table.count → window_ticks (job_at launch read.table k) ≡ 0 → 0 < (task_at read.table k).mandatory
    → (plan_reply launch read lists).number ≡ 8
unfolding job_at job_of jobs_of
empty_refused launch read lawful lists accepted low k l e m =
    (plan_impossible launch read lawful lists accepted low).1 (
    λ owner r.
    let gets = (all_places (Gets Whole owner) (job_at launch read.table) read.table.count).0 r.gets k l in
    let none = (empty_gets owner (job_at launch read.table k) e).0 gets in
    omega arith
    )

-- the jobs of a table but the one at a position
abbrev pub other_jobs : ℕ → Table → ℕ → List Job
other_jobs launch t k = places (job_at launch t) k ++ places_from (job_at launch t) (k + 1) (t.count - (k + 1))

-- Where such a task has no mandatory ticks, 8 is sent exactly where the other tasks have no running.
pub empty_planned : (launch : ℕ) (read : ReadTable) → LegalRead read → (lists : LentLists) → read.answer ≡ Accepted → bad_launch launch ≡ false
    → (k : ℕ) → k < read.table.count → window_ticks (job_at launch read.table k) ≡ 0 → (task_at read.table k).mandatory ≡ 0
    → ((plan_reply launch read lists).number ≡ 8) ↔ ((owner : Owner) → Running (other_jobs launch read.table k) owner → ⊥)
unfolding job_at job_of jobs_of
empty_planned launch read lawful lists accepted low k l e z =
    let t : Table = read.table in
    let split : jobs_of launch t ≡ places (job_at launch t) k ++ job_at launch t k ∷ places_from (job_at launch t) (k + 1) (t.count - (k + 1)) =
    places_around (job_at launch t) t.count k l in
    let eight = plan_impossible launch read lawful lists accepted low in
    let beside : (owner : Owner) → Running (jobs_of launch t) owner ↔ (((task_at t k).mandatory ≡ 0) × Running (other_jobs launch t k) owner) =
    λ owner. rw split (empty_running owner (places (job_at launch t) k) (places_from (job_at launch t) (k + 1) (t.count - (k + 1))) (job_at launch t k) e) in
    (λ n owner r. eight.0 n owner ((beside owner).1 (z, r)), λ none. eight.1 (λ owner r. none owner ((beside owner).0 r).1))

-- a work of 0 ticks: no mandatory ticks, and a part that has ticks is not kept
no_work : (mandatory optional mark : ℕ) → mark ≤ 1 → 0 ≡ mandatory + pick (eqb mark 1) optional 0 → (mandatory ≡ 0) × (0 < optional → mark ≡ 0)
no_work mandatory optional zero low e = (omega arith, λ p. refl)
no_work mandatory optional (suc k) low e =
    let whole : 0 ≡ mandatory + optional = rw (eq-eqb (suc k) 1 (omega arith)) at e in
    (omega arith, λ p. absurd (omega arith))

-- In a planned table the task of an empty window has no mandatory ticks, and its optional part, where it has ticks, is dropped.
pub empty_dropped : (launch : ℕ) (read : ReadTable) → LegalRead read → (lists : LentLists) → (plan_reply launch read lists).number ≡ 0
    → (k : ℕ) → k < read.table.count → window_ticks (job_at launch read.table k) ≡ 0
    → ((task_at read.table k).mandatory ≡ 0) × (0 < (task_at read.table k).optional → get_or (plan_marks launch read.weight read.table) k 0 ≡ 0)
unfolding job_at job_of jobs_of
empty_dropped launch read lawful lists planned k l e =
    let t : Table = read.table in
    let p : Plannable launch read = (plan_made_lem launch read lawful lists planned).made in
    let works =
    (all_places (λ job. got (owner_of (plan_runs launch read.weight t)) job ≡ work_of job (get_or (plan_marks launch read.weight t) job.position 0)) (job_at launch t) t.count).0
    (plan_together launch read.weight t p.legal p.none).work
    k
    l in
    no_work (task_at t k).mandatory (task_at t k).optional (get_or (plan_marks launch read.weight t) k 0) (marks_low launch read.weight t p.legal p.none k l)
    (sym (empty_got (owner_of (plan_runs launch read.weight t)) (job_at launch t k) e) ∙ works)

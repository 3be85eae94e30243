-- What a launch tick does to a plan: with launch 0 every earlier answer holds; at every accepted launch tick the reply and the keep list are the same, and
-- each run lies later by it than with launch 0. All of it from the one law of jobs that lie later, for both kinds of tables.
use Prim.Native.Nat.{ℕ}
use mathlib.Core.Path.{◌≡◌, refl, sym, ap, ◌∙◌}
use mathlib.Core.Bool.{false}
use lib.Dec.{eqb}
use Rattle.base.proofs.TestLaws.{cases}
use Rattle.clock.specs.Clock.{bad_launch}
use Rattle.table.specs.declared.Table.{Table}
use Rattle.table.specs.Kinds.{is_nested}
use Rattle.table.specs.Reading.{ReadTable}
use Rattle.schedule.specs.Shifting.{later_runs}
use Rattle.orders.specs.KindOrder.{jobs_last_first}
use Rattle.orders.proofs.LaunchLaws.{jobs_launch, jobs_launch_0}
use Rattle.plans.specs.declared.Planned.{Planned}
use Rattle.plans.specs.Planning.{LentLists, after_by, written_by, plan_marks, plan_runs, plan_table, plan_reply, lists_after, lists_left}
use Rattle.plans.specs.PlanParts.{plan_of, chosen_marks}
use Rattle.plans.specs.Launch.{earlier_jobs, earlier_reply, earlier_lists, EarlierAtZero, LaterByLaunch}
use Rattle.plans.proofs.ShiftLaws.{plan_later, marks_later, runs_later, made_later, reply_later}
use Rattle.plans.proofs.ReplyLaws.{Replied, runs_taken}

-- With launch 0 every earlier answer of planning holds: its reply,
pub reply_launch_0 : (read : ReadTable) (lists : LentLists) → plan_reply 0 read lists ≡ earlier_reply read lists
unfolding plan_reply plan_table earlier_reply earlier_jobs
reply_launch_0 read lists = rw (jobs_launch_0 read.table)

-- and what the lent lists hold afterwards.
pub lists_launch_0 : (read : ReadTable) (reply : Planned) (lists : LentLists) → lists_left 0 read reply lists ≡ earlier_lists read reply lists
unfolding lists_after earlier_lists earlier_jobs
lists_launch_0 read reply lists = rw (jobs_launch_0 read.table)

-- The keep list is the same for every launch tick, and so are the marks;
pub keeps_launch : (launch : ℕ) (weight : ℕ → ℕ) (t : Table) → chosen_marks launch weight t ≡ chosen_marks 0 weight t
unfolding chosen_marks
keeps_launch launch weight t = rw (jobs_launch launch t) (plan_later (is_nested t) weight launch (jobs_last_first 0 t)).keeps

pub marks_launch : (launch : ℕ) (weight : ℕ → ℕ) (t : Table) → plan_marks launch weight t ≡ plan_marks 0 weight t
unfolding plan_marks
marks_launch launch weight t = rw (jobs_launch launch t) (marks_later (is_nested t) weight launch t.count (jobs_last_first 0 t))

-- each run lies later by the launch tick than with launch 0;
pub runs_launch : (launch : ℕ) (weight : ℕ → ℕ) (t : Table) → plan_runs launch weight t ≡ later_runs launch (plan_runs 0 weight t)
unfolding plan_runs
runs_launch launch weight t = rw (jobs_launch launch t) (runs_later (is_nested t) weight launch (jobs_last_first 0 t))

-- and the reply of a plan is the same; so is every reply at an accepted launch tick, refusals too.
pub made_launch : (launch : ℕ) (weight : ℕ → ℕ) (t : Table) → plan_of launch weight t ≡ plan_of 0 weight t
unfolding plan_of
made_launch launch weight t = rw (jobs_launch launch t) (made_later (is_nested t) weight launch (jobs_last_first 0 t))

pub reply_launch : (launch : ℕ) (read : ReadTable) (lists : LentLists) → bad_launch launch ≡ false → plan_reply launch read lists ≡ plan_reply 0 read lists
unfolding plan_reply plan_table
reply_launch launch read lists low =
    let t = read.table in
    rw (low, jobs_launch launch t, reply_later (is_nested t) read.weight launch t.count (jobs_last_first 0 t) lists)

-- Two accepted launch ticks: the same reply and the same keep list.
pub launches_agree : (a b : ℕ) (read : ReadTable) (lists : LentLists) → bad_launch a ≡ false → bad_launch b ≡ false
    → (plan_reply a read lists ≡ plan_reply b read lists) × (chosen_marks a read.weight read.table ≡ chosen_marks b read.weight read.table)
launches_agree a b read lists low high =
    (reply_launch a read lists low ∙ sym (reply_launch b read lists high), keeps_launch a read.weight read.table ∙ sym (keeps_launch b read.weight read.table))

-- the lent marks are the same for every launch tick
lent_marks : (launch : ℕ) (weight : ℕ → ℕ) (t : Table) (reply : Planned) (lists : LentLists) → (lists_after launch weight t reply lists).marks ≡ (lists_after 0 weight t reply lists).marks
unfolding lists_after after_by written_by
lent_marks launch weight t reply lists =
    cases (eqb reply.number 0)
    (λ e. rw (e, jobs_launch launch t, marks_later (is_nested t) weight launch t.count (jobs_last_first 0 t)))
    (λ e. rw e)

-- The clauses of the plan call, from its reply and the content of the lent lists.
pub call_launch_0 : (launch : ℕ) (read : ReadTable) (reply : Planned) (old new : LentLists) → Replied launch read reply old new
    → EarlierAtZero launch read reply old new
call_launch_0 launch read reply old new r zero =
    record {
      reply_is = r.reply_is ∙ (ap (λ (l : ℕ). plan_reply l read old) zero ∙ reply_launch_0 read old);
      lists_are = r.lists_are ∙ (ap (λ (l : ℕ). lists_left l read reply old) zero ∙ lists_launch_0 read reply old);
    }

pub call_launch : (launch : ℕ) (read : ReadTable) (reply : Planned) (old new : LentLists) → Replied launch read reply old new
    → LaterByLaunch launch read reply old new
call_launch launch read reply old new r low =
    let same = r.reply_is ∙ reply_launch launch read old low in
    let zero : Replied 0 read reply old (lists_left 0 read reply old) = record { lawful = r.lawful; reply_is = same; lists_are = refl } in
    record {
      reply_is = same;
      marks_are = ap (λ (l : LentLists). l.marks) r.lists_are ∙ lent_marks launch read.weight read.table reply old;
      runs_later = λ z.
          runs_taken launch read reply old new r z
          ∙ (runs_launch launch read.weight read.table ∙ ap (later_runs launch) (sym (runs_taken 0 read reply old (lists_left 0 read reply old) zero z)));
    }

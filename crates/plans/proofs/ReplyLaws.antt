-- From the reply and the content of the lent lists to demands 2 and 3 and to the rules.
use Prim.Native.Nat.{ℕ, ◌≤◌}
use mathlib.Core.Path.{◌≡◌, refl, sym, ap, ◌∙◌}
use mathlib.Core.Bool.{Bool, true, false}
use mathlib.Core.List.{List, map}
use native.Mathlib.Omega.{arith}
use lib.Dec.{ltb, eqb}
use lib.ListN.{length, take, drop, length-map}
use borrow.Author.Tests.{ltb-true, ltb-false, eqb-false}
use Rattle.base.specs.Places.{places}
use Rattle.base.specs.Lent.{written_front}
use Rattle.base.proofs.TestLaws.{cases, both_absurd}
use Rattle.clock.specs.Clock.{bad_launch}
use Rattle.table.specs.declared.Table.{Table}
use Rattle.table.specs.Answers.{Accepted, number_of, place_of, is_accepted}
use Rattle.table.specs.Kinds.{is_nested}
use Rattle.table.specs.Writing.{Legal}
use Rattle.table.specs.Reading.{ReadTable, plain_read}
use Rattle.table.specs.LegalReads.{LegalRead}
use Rattle.table.proofs.AnswerLaws.{refused_number, never_eight, accepted_is}
use Rattle.schedule.specs.declared.Job.{Job}
use Rattle.schedule.specs.declared.Run.{Run}
use Rattle.schedule.specs.Runs.{starts_of, ends_of, tasks_of}
use Rattle.schedule.specs.Judging.{judge_says}
use Rattle.plans.specs.declared.Planned.{Planned}
use Rattle.plans.specs.Planning.{LentLists, short_lists, unmet_by, runs_by, mark_at, made_by, reply_by, written_by, after_by, plan_marks, plan_runs, plan_declined, plan_table, plan_reply, lists_after, lists_left}
use Rattle.plans.specs.PlanParts.{plan_of, unmet_place, written_with, refused_by}
use Rattle.plans.specs.Demands.{marks_in, runs_in, JudgeAccepts, PlannedOptimal, PlannedByWeight}
use Rattle.orders.specs.KindOrder.{jobs_last_first}
use Rattle.orders.proofs.OrderLaws.{jobs_length}
use Rattle.plans.specs.Rules.{FirstUnmet, FirstExceeding, PlannedByRules, EightFirst}
use Rattle.plans.proofs.PlanLaws.{table_reply, none_unmet, marks_length, count_optimal, weight_optimal, Plannable, plan_judged}
use Rattle.plans.proofs.UnmetFirst.{unmet_first}
use Rattle.plans.proofs.ExceedingFirst.{first_exceeding, exceeding_first}
use Rattle.plans.proofs.RulesSettle.{plan_rules}
use Rattle.schedule.proofs.ColumnLaws.{columns_runs}
use Rattle.base.proofs.ListLaws.{front_taken}

-- The replies on a table, by the tests that lead to them: 14, 8, 9, and the plan.
pub table_launch : (launch : ℕ) (weight : ℕ → ℕ) (t : Table) (lists : LentLists) → bad_launch launch ≡ true → plan_table launch weight t lists ≡ plan_declined 14 0
table_launch launch weight t lists e = rw (table_reply launch weight t lists, e)

-- The replies on jobs. What is refused of them before they are planned is the reply, where it refuses;
pub jobs_refused : (nested : Bool) (weight : ℕ → ℕ) (n : ℕ) (jobs : List Job) (lists : LentLists) (refusal : Planned)
    → refusal ≡ refused_by nested n jobs (length lists.marks) (length lists.starts) (length lists.ends) (length lists.tasks)
    → eqb refusal.number 0 ≡ false → refusal ≡ reply_by nested weight n jobs lists
unfolding refused_by reply_by
jobs_refused nested weight n jobs lists refusal is refuses = is ∙ same (sym (ap (λ (p : Planned). eqb p.number 0) is) ∙ refuses)
  where
    same : eqb (refused_by nested n jobs (length lists.marks) (length lists.starts) (length lists.ends) (length lists.tasks)).number 0 ≡ false
        → refused_by nested n jobs (length lists.marks) (length lists.starts) (length lists.ends) (length lists.tasks)
        ≡ reply_by nested weight n jobs lists
    same =
        cases (ltb (unmet_by nested n jobs) n)
        (λ e. rw e (λ z. refl))
        (λ e. rw e (cases (short_lists n lists) (λ h. rw h (λ z. refl)) (λ h. rw h (λ z. both_absurd true refl z))))

-- and where it does not, no job is unmet, the lists are long enough, and the reply is that of the plan.
pub jobs_planned : (nested : Bool) (weight : ℕ → ℕ) (n : ℕ) (jobs : List Job) (lists : LentLists) (refusal : Planned)
    → refusal ≡ refused_by nested n jobs (length lists.marks) (length lists.starts) (length lists.ends) (length lists.tasks)
    → refusal.number ≡ 0
    → (n ≤ unmet_by nested n jobs) × (short_lists n lists ≡ false) × (made_by nested weight jobs ≡ reply_by nested weight n jobs lists)
unfolding refused_by reply_by
jobs_planned nested weight n jobs lists refusal is zero_is = known (sym (ap (λ (p : Planned). p.number) is) ∙ zero_is)
  where
    known : (refused_by nested n jobs (length lists.marks) (length lists.starts) (length lists.ends) (length lists.tasks)).number ≡ 0
        → (n ≤ unmet_by nested n jobs) × (short_lists n lists ≡ false) × (made_by nested weight jobs ≡ reply_by nested weight n jobs lists)
    known =
        cases (ltb (unmet_by nested n jobs) n)
        (λ e. rw e (λ z. absurd (omega arith)))
        (λ e.
        rw e
        (cases (short_lists n lists)
        (λ h. rw h (λ z. absurd (omega arith)))
        (λ h. rw h (λ z. (ltb-false (unmet_by nested n jobs) n e, refl, refl)))))

-- A refusal leaves every lent list as it was.
pub lists_kept : (nested : Bool) (weight : ℕ → ℕ) (n : ℕ) (jobs : List Job) (reply : Planned) (lists : LentLists) → eqb reply.number 0 ≡ false
    → lists ≡ after_by nested weight n jobs reply lists
unfolding after_by
lists_kept nested weight n jobs reply lists e = rw e

-- A plan is written at the front of each.
pub lists_written : (nested : Bool) (weight : ℕ → ℕ) (n : ℕ) (jobs : List Job) (reply : Planned) (lists : LentLists) → reply.number ≡ 0
    → written_by nested weight n jobs lists ≡ after_by nested weight n jobs reply lists
unfolding after_by
lists_written nested weight n jobs reply lists e = rw e

-- lists of which each has what was written at its front
pub written_lists : (nested : Bool) (n : ℕ) (jobs : List Job) (keeps : List Bool) (old new : LentLists)
    → new.marks ≡ written_front (places (mark_at jobs keeps) n) old.marks
    → new.starts ≡ written_front (starts_of (runs_by nested jobs keeps)) old.starts
    → new.ends ≡ written_front (ends_of (runs_by nested jobs keeps)) old.ends
    → new.tasks ≡ written_front (tasks_of (runs_by nested jobs keeps)) old.tasks
    → new ≡ written_with nested n jobs keeps old
unfolding written_with
written_lists nested n jobs keeps old new m s e k = rw (← m, ← s, ← e, ← k) refl

-- What planning the jobs of a table gives is what planning the table gives.
module _ (launch : ℕ) (weight : ℕ → ℕ) (t : Table) (nested : Bool) (is : is_nested t ≡ nested) (jobs : List Job) (same : jobs ≡ jobs_last_first launch t) where
  pub reply_of_jobs : bad_launch launch ≡ false → (lists : LentLists) → reply_by nested weight (length jobs) jobs lists ≡ plan_table launch weight t lists
  unfolding plan_table
  reply_of_jobs low lists = rw (low, is, same, jobs_length launch t) refl

  pub lists_of_jobs : (reply : Planned) (lists : LentLists) → after_by nested weight (length jobs) jobs reply lists ≡ lists_after launch weight t reply lists
  unfolding lists_after
  lists_of_jobs reply lists = rw (is, same, jobs_length launch t) refl

-- the same of a table's plan, and the lists that hold it
pub table_kept : (launch : ℕ) (weight : ℕ → ℕ) (t : Table) (reply : Planned) (lists : LentLists) → eqb reply.number 0 ≡ false → lists ≡ lists_after launch weight t reply lists
unfolding lists_after
table_kept launch weight t reply lists e = lists_kept (is_nested t) weight t.count (jobs_last_first launch t) reply lists e

abbrev plan_written : ℕ → (ℕ → ℕ) → Table → LentLists → LentLists
plan_written launch weight t lists = written_by (is_nested t) weight t.count (jobs_last_first launch t) lists

-- The replies on a file: what reading refuses, and what its table gets.
pub file_refused : (launch : ℕ) (read : ReadTable) (lists : LentLists) → is_accepted read.answer ≡ false
    → plan_reply launch read lists ≡ plan_declined (number_of read.answer) (place_of read.answer)
unfolding plan_reply
file_refused launch read lists e = rw e

pub file_accepted : (launch : ℕ) (read : ReadTable) (lists : LentLists) → read.answer ≡ Accepted
    → plan_reply launch read lists ≡ plan_table launch read.weight read.table lists
unfolding plan_reply
file_accepted launch read lists e = rw e

-- a table that gets a plan: its reply, and that the launch tick is accepted and the mandatory parts fit
table_planned : (launch : ℕ) (weight : ℕ → ℕ) (t : Table) (lists : LentLists) → (plan_table launch weight t lists).number ≡ 0
    → (bad_launch launch ≡ false) × (ltb (unmet_place launch t) t.count ≡ false) × (plan_table launch weight t lists ≡ plan_of launch weight t)
table_planned launch weight t lists =
    rw (table_reply launch weight t lists)
    (cases (bad_launch launch)
    (λ d. rw d (λ z. absurd (omega arith)))
    (λ d.
    rw d
    (cases (ltb (unmet_place launch t) t.count)
    (λ e. rw e (λ z. absurd (omega arith)))
    (λ e.
    rw e
    (cases (short_lists t.count lists) (λ h. rw h (λ z. absurd (omega arith))) (λ h. rw h (λ z. (refl, refl, refl))))))))

-- a reply of 0 is that of a plan
pub record Made (launch : ℕ) (read : ReadTable) (reply : Planned) : Type 0 where
  pub made : Plannable launch read
  pub reply_is : reply ≡ plan_of launch read.weight read.table

pub plan_made_lem : (launch : ℕ) (read : ReadTable) → LegalRead read → (lists : LentLists) → (plan_reply launch read lists).number ≡ 0 → Made launch read (plan_reply launch read lists)
unfolding plan_reply
plan_made_lem launch read lawful lists =
    cases (is_accepted read.answer)
    (λ e.
    rw e
    (λ z.
    let accepted = accepted_is read.answer e in
    let known = table_planned launch read.weight read.table lists z in
    record {
      made = record {
        accepted = accepted;
        launched = known.0;
        legal = lawful accepted;
        none = none_unmet launch read.table known.1;
      };
      reply_is = known.2;
    }))
    (λ e. rw e (λ z. absurd (eqb-false (number_of read.answer) 0 (refused_number read.answer e) z)))

-- what was written stands at the front of a lent list
written_taken : (n : ℕ) (written lent : List ℕ) → length written ≡ n → take n (written_front written lent) ≡ written
written_taken n written lent l = rw (← l) (front_taken written (drop (length written) lent))

-- the reply and the content after planning are those of the definitions, and an accepted table is legal
pub record Replied (launch : ℕ) (read : ReadTable) (reply : Planned) (old new : LentLists) : Type 0 where
  pub lawful : LegalRead read
  pub reply_is : reply ≡ plan_reply launch read old
  pub lists_are : new ≡ lists_left launch read reply old

module _ (launch : ℕ) (read : ReadTable) (reply : Planned) (old new : LentLists) (r : Replied launch read reply old new) (zero_is : reply.number ≡ 0) where
  -- what is known after a reply of 0: a plan was made, and the first places of the lists hold its marks and runs
  pub made : Made launch read reply
  made = rw r.reply_is (plan_made_lem launch read r.lawful old (rw r.reply_is at zero_is))

  pub runs_are : reply.runs ≡ length (plan_runs launch read.weight read.table)
  unfolding plan_of made_by plan_runs
  runs_are = ap (λ (p : Planned). p.runs) made.reply_is

  written : new ≡ plan_written launch read.weight read.table old
  unfolding lists_after
  written = r.lists_are ∙ sym (lists_written (is_nested read.table) read.weight read.table.count (jobs_last_first launch read.table) reply old zero_is)

  pub marks_taken : marks_in read.table new ≡ plan_marks launch read.weight read.table
  unfolding written_by plan_marks plan_runs
  marks_taken =
      ap (λ (l : LentLists). take read.table.count l.marks) written
      ∙ written_taken read.table.count (plan_marks launch read.weight read.table) old.marks (marks_length launch read.weight read.table made.made.legal made.made.none)

  -- the first places of a column hold one number of each run
  column-taken : (part : Run → ℕ) (column : LentLists → List ℕ)
      → column (plan_written launch read.weight read.table old) ≡ written_front (map part (plan_runs launch read.weight read.table)) (column old)
      → take reply.runs (column new) ≡ map part (plan_runs launch read.weight read.table)
  column-taken part column e =
      ap (λ (l : LentLists). take reply.runs (column l)) written
      ∙ (ap (take reply.runs) e
      ∙ written_taken reply.runs (map part (plan_runs launch read.weight read.table)) (column old) (length-map (plan_runs launch read.weight read.table) part ∙ sym runs_are))

  pub starts_taken : take reply.runs new.starts ≡ starts_of (plan_runs launch read.weight read.table)
  unfolding written_by plan_marks plan_runs
  starts_taken = column-taken (λ run. run.start) (λ l. l.starts) refl

  pub ends_taken : take reply.runs new.ends ≡ ends_of (plan_runs launch read.weight read.table)
  unfolding written_by plan_marks plan_runs
  ends_taken = column-taken (λ run. run.end) (λ l. l.ends) refl

  pub tasks_taken : take reply.runs new.tasks ≡ tasks_of (plan_runs launch read.weight read.table)
  unfolding written_by plan_marks plan_runs
  tasks_taken = column-taken (λ run. run.task) (λ l. l.tasks) refl

  pub runs_taken : runs_in reply new ≡ plan_runs launch read.weight read.table
  runs_taken = rw (starts_taken, ends_taken, tasks_taken) (columns_runs (plan_runs launch read.weight read.table))

-- Demand 2: the judge accepts what was written, with the plan's counts.
pub reply_judged : (launch : ℕ) (read : ReadTable) (reply : Planned) (old new : LentLists) → Replied launch read reply old new → JudgeAccepts launch read reply new
reply_judged launch read reply old new r z =
    let m = made launch read reply old new r z in
    rw (marks_taken launch read reply old new r z, runs_taken launch read reply old new r z)
    (plan_judged launch read m.made ∙ sym (ap (λ (p : Planned). judge_says true p.kept p.discarded) m.reply_is))

-- Demand 3, of what was written: of a table without weights, and of one with them.
pub reply_optimal : (launch : ℕ) (file : List ℕ) (reply : Planned) (old new : LentLists) → Replied launch (plain_read file) reply old new
    → PlannedOptimal launch file reply new
reply_optimal launch file reply old new r z =
    let read = plain_read file in
    let m = made launch read reply old new r z in
    rw (marks_taken launch read reply old new r z, runs_taken launch read reply old new r z, ap (λ (p : Planned). p.discarded) m.reply_is)
    (count_optimal launch read.table m.made.legal m.made.none)

pub reply_by_weight : (launch : ℕ) (read : ReadTable) (reply : Planned) (old new : LentLists) → Replied launch read reply old new
    → PlannedByWeight launch read reply new
reply_by_weight launch read reply old new r z =
    let m = made launch read reply old new r z in
    rw (marks_taken launch read reply old new r z, runs_taken launch read reply old new r z, ap (λ (p : Planned). p.discarded) m.reply_is)
    (weight_optimal launch read.weight read.table m.made.legal m.made.none)

-- The rules of choosing and placing, of what was written.
pub reply_by_rules : (launch : ℕ) (read : ReadTable) (reply : Planned) (old new : LentLists) → Replied launch read reply old new
    → PlannedByRules launch read reply new
reply_by_rules launch read reply old new r z =
    let m = made launch read reply old new r z in
    rw (marks_taken launch read reply old new r z, runs_taken launch read reply old new r z)
    (plan_rules launch read.weight read.table m.made.legal m.made.none)

-- In a nested table the search for an unmet task is that for one that exceeds its window.
unmet_exceeding : (launch : ℕ) (t : Table) → is_nested t ≡ true → unmet_place launch t ≡ first_exceeding launch t
unfolding unmet_place unmet_by first_exceeding
unmet_exceeding launch t e = rw e refl

-- The place of an 8, on the table of an accepted file and on any file: no refusal of reading has the number 8.
table_first : (launch : ℕ) (weight : ℕ → ℕ) (t : Table) → Legal t → (lists : LentLists) → (plan_table launch weight t lists).number ≡ 8
    → FirstUnmet launch t (plan_table launch weight t lists).place × (is_nested t ≡ true → FirstExceeding launch t (plan_table launch weight t lists).place)
unfolding plan_of made_by
table_first launch weight t legal lists =
    rw (table_reply launch weight t lists)
    (cases (bad_launch launch)
    (λ d. rw d (λ z. absurd (omega arith)))
    (λ d.
    rw d
    (cases (ltb (unmet_place launch t) t.count)
    (λ e.
    let found = ltb-true (unmet_place launch t) t.count e in
    rw e (λ z. (
      (unmet_first launch t legal (unmet_place launch t)).0 (refl, found),
      λ n. (exceeding_first launch t (unmet_place launch t)).0 (sym (unmet_exceeding launch t n), found),
    )))
    (λ e. rw e (cases (short_lists t.count lists) (λ h. rw h (λ z. absurd (omega arith))) (λ h. rw h (λ z. absurd (omega arith))))))))

pub plan_first : (launch : ℕ) (read : ReadTable) → LegalRead read → (lists : LentLists) → EightFirst launch read (plan_reply launch read lists)
unfolding plan_reply
plan_first launch read lawful lists =
    cases (is_accepted read.answer)
    (λ e. rw e (table_first launch read.weight read.table (lawful (accepted_is read.answer e)) lists))
    (λ e. rw e (λ z. absurd (never_eight read.answer z)))

-- What planning a file leaves to print, from the reply and the lists of the plan call, and what the printing calls need of it.
use Prim.Native.Nat.{ℕ, zero, suc, ◌≤◌}
use mathlib.Core.Path.{◌≡◌, sym, ap, ◌∙◌}
use mathlib.Core.List.{List, [], ◌∷◌, map}
use native.Mathlib.Omega.{arith}
use lib.ListN.{length, take, length-map}
use Rattle.table.proofs.RoundTrip.{read_legal}
use Rattle.base.specs.Limits.{max_tasks}
use Rattle.table.specs.Reading.{one_each, plain_read, table_in, read_reply}
use Rattle.schedule.specs.declared.Run.{Run}
use Rattle.plans.specs.declared.Planned.{Planned}
use Rattle.plans.specs.Planning.{LentLists, lists_for, lists_left, plan_marks, plan_runs}
use Rattle.plans.proofs.PlanLaws.{marks_length}
use Rattle.plans.proofs.ReplyLaws.{Replied, made, runs_are, marks_taken, starts_taken, ends_taken, tasks_taken, runs_taken}
use Rattle.printed_plan.specs.Printing.{long_reply}
use Rattle.report.specs.declared.FilePlan.{FilePlan}
use Rattle.report.specs.FilePlans.{left_by, file_plan, lists_in_plan, runs_in_plan}

-- The reply and the lists of the plan call and the count of the table that was read are what is left.
pub left_is : (launch : ℕ) (file : List ℕ) (plan : FilePlan) → Replied launch (plain_read file) plan.reply (lists_for max_tasks) (lists_in_plan plan)
    → plan.count ≡ (read_reply file).table.count → plan ≡ file_plan launch file
unfolding file_plan long_reply
left_is launch file plan r count =
    let after : Planned → LentLists = λ reply. lists_left launch (plain_read file) reply (lists_for max_tasks) in
    let lists : lists_in_plan plan ≡ after (long_reply launch file) = r.lists_are ∙ ap after r.reply_is in
    λ i. left_by (r.reply_is i) (count i) (lists i)

-- a list from whose front n numbers can be taken has n places
taken_all : (n : ℕ) (list : List ℕ) → length (take n list) ≡ n → n ≤ length list
taken_all zero list e = omega arith
taken_all (suc n) [] e = absurd (omega (arith, e))
taken_all (suc n) (x ∷ list) e = let rest : length (take n list) ≡ n = omega (arith, e) in omega (arith, taken_all n list rest)

taken_there : (n : ℕ) (list front : List ℕ) → take n list ≡ front → length front ≡ n → n ≤ length list
taken_there n list front e l = taken_all n list (ap length e ∙ l)

-- A plan was made: the first places of the lists are there, and hold its marks and its runs.
pub record PlanInLists (launch : ℕ) (file : List ℕ) (plan : FilePlan) : Type 0 where
  pub count_is : plan.count ≡ (table_in file).count
  pub marks_there : plan.count ≤ length plan.marks
  pub starts_there : plan.reply.runs ≤ length plan.starts
  pub ends_there : plan.reply.runs ≤ length plan.ends
  pub tasks_there : plan.reply.runs ≤ length plan.tasks
  pub marks_are : take plan.count plan.marks ≡ plan_marks launch one_each (table_in file)
  pub runs_are : runs_in_plan plan ≡ plan_runs launch one_each (table_in file)

module _ (launch : ℕ) (file : List ℕ) (plan : FilePlan) (is : plan ≡ file_plan launch file) where
  -- the reply is that of planning into lists long enough for every table
  pub reply_left : plan.reply ≡ long_reply launch file
  unfolding file_plan
  reply_left = ap (λ (p : FilePlan). p.reply) is

  -- reply and lists are those of the plan call
  replied : Replied launch (plain_read file) plan.reply (lists_for max_tasks) (lists_in_plan plan)
  unfolding file_plan long_reply
  replied =
      record {
        lawful = read_legal file;
        reply_is = reply_left;
        lists_are = ap lists_in_plan is ∙ ap (λ (reply : Planned). lists_left launch (plain_read file) reply (lists_for max_tasks)) (sym reply_left);
      }

  -- where it is 0 a plan was made
  pub plan_in_lists : plan.reply.number ≡ 0 → PlanInLists launch file plan
  unfolding file_plan read_reply
  plan_in_lists z =
      let old = lists_for max_tasks in
      let new = lists_in_plan plan in
      let reply = plan.reply in
      let m = (made launch (plain_read file) reply old new replied z).made in
      let same : plan.count ≡ (table_in file).count = ap (λ (p : FilePlan). p.count) is ∙ rw m.accepted in
      let marks = ap (λ (n : ℕ). take n plan.marks) same ∙ marks_taken launch (plain_read file) reply old new replied z in
      let column : (list : List ℕ) (part : Run → ℕ) → take reply.runs list ≡ map part (plan_runs launch one_each (table_in file)) → reply.runs ≤ length list =
      λ list part e. taken_there _ list _ e (length-map (plan_runs launch one_each (table_in file)) part ∙ sym (runs_are launch (plain_read file) reply old new replied z)) in
      record {
        count_is = same;
        marks_there = taken_there _ _ _ marks (marks_length launch one_each (table_in file) m.legal m.none ∙ sym same);
        starts_there = column _ _ (starts_taken launch (plain_read file) reply old new replied z);
        ends_there = column _ _ (ends_taken launch (plain_read file) reply old new replied z);
        tasks_there = column _ _ (tasks_taken launch (plain_read file) reply old new replied z);
        marks_are = marks;
        runs_are = runs_taken launch (plain_read file) reply old new replied z;
      }

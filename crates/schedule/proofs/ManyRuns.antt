-- All lists of too many runs get one reply from each call: 13, or what goes before it. So whoever looks at the first runs alone, and at one more than the
-- limit, replies as for the whole list.
use Prim.Native.Nat.{ℕ, ◌+◌}
use mathlib.Core.Path.{◌≡◌, sym, ap, ◌∙◌}
use mathlib.Core.Bool.{Bool, true}
use mathlib.Core.List.{List}
use native.Mathlib.Omega.{arith}
use native.Mathlib.Decide.{dec_lt}
use lib.ListN.{length, take, length-take}
use lib.Seq.{take_all}
use borrow.Author.Tests.{lt-ltb}
use Rattle.std.proofs.lemmas.List.{take-map}
use Rattle.base.specs.Limits.{max_runs}
use Rattle.schedule.specs.declared.Run.{Run}
use Rattle.schedule.specs.Runs.{too_many, runs_of, starts_of, ends_of, tasks_of}
use Rattle.table.specs.Reading.{ReadTable}
use Rattle.schedule.specs.Judging.{judge_by_verdict, judge_table, judge_reply}
use Rattle.schedule.specs.RunCheck.{check_answer, runs_accepted}
use Rattle.schedule.specs.BusyCount.{busy_reply}
use Rattle.schedule.specs.Queries.{found_first, stretch_of}
use Rattle.schedule.proofs.CheckLaws.{many_refused}
use Rattle.schedule.proofs.ColumnLaws.{columns_runs}
use Rattle.schedule.proofs.StretchLaws.{stretch_refused}

-- a reply that is the same for all lists of too many runs
abbrev pub OneForMany : {A : Type 0} → (List Run → A) → Type 0
OneForMany reply = (runs other : List Run) → too_many runs ≡ true → too_many other ≡ true → reply runs ≡ reply other

-- of the judge it is what goes before 13, or 13
pub judge_many : (launch : ℕ) (read : ReadTable) (marks : List ℕ) → OneForMany (judge_reply launch read marks)
unfolding judge_reply judge_table judge_by_verdict
judge_many launch read marks runs other e f = rw (e, f)

-- of the check, the busy count and the queries it is 13, before 15
pub check_many : OneForMany check_answer
check_many runs other e f = rw (many_refused runs e, many_refused other f)

pub busy_many : (a b : ℕ) → OneForMany (λ runs. busy_reply runs a b)
unfolding busy_reply
busy_many a b runs other e f = rw (many_refused runs e, many_refused other f)

pub found_many : (test : Run → Bool) → OneForMany (found_first test)
unfolding found_first
found_many test runs other e f = rw (many_refused runs e, many_refused other f)

-- and the stretch is empty
pub stretch_many : (a b : ℕ) → OneForMany (λ runs. stretch_of runs a b)
stretch_many a b runs other e f =
    stretch_refused runs a b (ap runs_accepted (many_refused runs e)) ∙ sym (stretch_refused other a b (ap runs_accepted (many_refused other f)))

-- So of the first 4,097 runs of a list the reply is that of the whole list: a list of too many shows in them.
pub copied_reply : {A : Type 0} (reply : List Run → A) → OneForMany reply → (runs : List Run) → reply (take (max_runs + 1) runs) ≡ reply runs
unfolding too_many
copied_reply reply one runs =
    elim (dec_lt max_runs (length runs)) [
      | yes l ↦
          one (take (max_runs + 1) runs) runs
          (lt-ltb max_runs (length (take (max_runs + 1) runs)) (omega (arith, length-take (max_runs + 1) runs)))
          (lt-ltb max_runs (length runs) l)
      | no l ↦ ap reply (take_all (max_runs + 1) runs (omega arith))
    ]

-- And where as many are held in columns, the columns hold these runs.
pub copied_runs_lem : (runs : List Run) → runs_of (take (max_runs + 1) (starts_of runs)) (take (max_runs + 1) (ends_of runs)) (take (max_runs + 1) (tasks_of runs))
    ≡ take (max_runs + 1) runs
copied_runs_lem runs =
    rw (
      take-map (λ (run : Run). run.start) (max_runs + 1) runs,
      take-map (λ (run : Run). run.end) (max_runs + 1) runs,
      take-map (λ (run : Run). run.task) (max_runs + 1) runs,
    ) (columns_runs (take (max_runs + 1) runs))

-- What a launch tick does to what is printed: with launch 0 it is what is printed without a launch tick; at an accepted launch tick a refusal has the same
-- line, and a plan the same lines, with the start and the end in each RUN line later by it.
use Prim.Native.Nat.{ℕ}
use mathlib.Core.Path.{◌≡◌, sym, ◌∙◌}
use mathlib.Core.List.{List, ◌∷◌}
use mathlib.Core.Bool.{false}
use native.Mathlib.Omega.{arith}
use borrow.Author.Tests.{ne_eqb}
use Rattle.base.specs.Limits.{max_tasks}
use Rattle.clock.specs.Clock.{bad_launch}
use Rattle.table.specs.Reading.{one_each, plain_read, table_in}
use Rattle.schedule.specs.Shifting.{later_runs}
use Rattle.orders.proofs.LaunchLaws.{jobs_launch_0}
use Rattle.plans.specs.Planning.{lists_for, plan_marks, plan_runs, plan_reply}
use Rattle.plans.specs.PlanParts.{plan_of}
use Rattle.plans.proofs.LaunchLaws.{made_launch, marks_launch, runs_launch, reply_launch, reply_launch_0}
use Rattle.plans.specs.Launch.{earlier_jobs}
use Rattle.printed_plan.specs.Printing.{plan_lines, plan_text_by, plan_text, reply_text, long_reply, printed}
use Rattle.printed_plan.specs.ProgramInput.{number_in, plan_front, plan_of_input, plan_output}
use Rattle.printed_plan.specs.EarlierText.{earlier_plan_text, earlier_long, earlier_text}
use Rattle.printed_plan.proofs.InputLaws.{output_whole}

-- With launch 0 every earlier text is printed: of a file,
pub printed_launch_0 : (file : List ℕ) → printed 0 file ≡ earlier_text file
unfolding printed long_reply plan_text earlier_text earlier_long earlier_plan_text earlier_jobs
printed_launch_0 file = rw (reply_launch_0 (plain_read file) (lists_for max_tasks), jobs_launch_0 (table_in file))

-- and of an input of the program that begins with its 4 bytes.
pub input_launch_0 : (file : List ℕ) → plan_output (0 ∷ 0 ∷ 0 ∷ 0 ∷ file) ≡ earlier_text file
unfolding number_in
input_launch_0 file = sym (output_whole plan_front plan_of_input (0 ∷ 0 ∷ 0 ∷ 0 ∷ file) (omega arith)) ∙ printed_launch_0 file

-- A refusal of a file with launch 0 is printed at every accepted launch tick.
pub refused_launch : (launch : ℕ) (file : List ℕ) → bad_launch launch ≡ false → ((long_reply 0 file).number ≡ 0 → ⊥) → printed launch file ≡ printed 0 file
unfolding printed long_reply reply_text
refused_launch launch file low refused =
    rw (reply_launch launch (plain_read file) (lists_for max_tasks) low, ne_eqb (plan_reply 0 (plain_read file) (lists_for max_tasks)).number 0 refused)

-- The text of a file that is planned with launch 0, at an accepted launch tick.
pub printed_launch : (launch : ℕ) (file : List ℕ) → bad_launch launch ≡ false → (long_reply 0 file).number ≡ 0
    → printed launch file
    ≡ plan_lines (table_in file).count (plan_of 0 one_each (table_in file)).kept (plan_of 0 one_each (table_in file)).discarded (plan_marks 0 one_each (table_in file))
    (later_runs launch (plan_runs 0 one_each (table_in file)))
unfolding printed long_reply reply_text plan_text plan_text_by plan_of plan_marks plan_runs
printed_launch launch file low zero =
    let t = table_in file in
    rw (reply_launch launch (plain_read file) _ low, zero, made_launch launch one_each t, marks_launch launch one_each t, runs_launch launch one_each t)

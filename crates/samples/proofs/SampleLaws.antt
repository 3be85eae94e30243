-- The sample flights: the law that turns the test of a sample into what the sample says.
use mathlib.Core.Path.{◌≡◌, refl, ap, ◌∙◌}
use mathlib.Core.Bool.{true}
use mathlib.Core.List.{List, [], ◌∷◌}
use Prim.Native.Nat.{ℕ}
use native.Mathlib.Omega.{arith}
use lib.Dec.{eqb}
use lib.ListN.{length}
use borrow.Author.Tests.{eqb-true, eq-eqb}
use Rattle.std.specs.Prelude.{Ok, Err}
use Rattle.base.specs.Tests.{pick, and}
use Rattle.base.specs.Members.{All}
use Rattle.base.proofs.MemberLaws.{all_append}
use Rattle.clock.specs.Clock.{release_tick, deadline_tick}
use Rattle.table.specs.declared.Table.{Table}
use Rattle.table.specs.Answers.{Answer, number_of, place_of}
use Rattle.table.specs.declared.Refusal.TheVariants.{Short, Count, Long, Padding, Period, Window, Kind, Weight}
use Rattle.table.specs.Tables.{table_of, task_at}
use Rattle.table.specs.Kinds.{nesting_answer}
use Rattle.table.specs.Reading.{one_each, plain_read, table_in}
use Rattle.table.specs.Writing.{file_of}
use Rattle.table.specs.Moving.{move_reply}
use Rattle.table.specs.TableSamples.{p8_table, p8_file}
use Rattle.schedule.specs.declared.Run.{Run}
use Rattle.schedule.specs.Jobs.{job_at}
use Rattle.plans.specs.Planning.{lists_for, plan_reply, plan_marks, plan_runs}
use Rattle.lines.specs.Ascii.{ascii, text_of}
use Rattle.lines.specs.Text.{decimal_within, decimal, fields, line}
use Rattle.printed_plan.specs.Printing.{drops_from, drop_lines, run_line, run_lines, plan_lines}
use Rattle.printed_plan.specs.ProgramInput.{number_in, output_of, plan_output}
use Rattle.samples.specs.Samples.{
  Sample,
  PlanSample,
  clock,
  plan,
  window,
  move,
  text,
  nesting,
  planned,
  at_noon,
  p8_marks,
  p8_runs,
  p8_noon_runs,
  p8_noon_text,
  tie_table,
  tie_file,
  tie_runs,
  computed_samples,
  launch_samples,
  FileHolds,
  PlanSays,
  Says,
  samples,
}
use Rattle.samples.specs.SampleTests.{numbers_equal, runs_equal, tables_equal, plan_parts, written_parts, file_met, kind_met, made_met, plan_met, sample_met}
use Rattle.samples.proofs.SameLaws.{pass_all, both, three, numbers_same, runs_same, table_same, planned_same, written_same}
use Rattle.samples.proofs.Computed.{all_pass}
use Rattle.samples.proofs.LaunchSamples.{planned_later, text_later}

-- what the test of a file and its table says
file_holds : (file : List ℕ) (t : Table) → file_met file t ≡ true → FileHolds file t
unfolding file_met
file_holds file t e = both (tables_equal (table_in file) t) (numbers_equal (file_of t) file) (table_same (table_in file) t) (numbers_same (file_of t) file) e

-- what the test of marks and runs says, which is made where the reply is a plan
plan_holds : (number : ℕ) (marks expected : List ℕ) (runs due : List Run)
    → pick (eqb number 0) (and (numbers_equal marks expected) (runs_equal runs due)) true ≡ true
    → number ≡ 0 → (marks ≡ expected) × (runs ≡ due)
plan_holds number marks expected runs due e z =
    both (numbers_equal marks expected) (runs_equal runs due) (numbers_same marks expected) (runs_same runs due) (rw (eq-eqb number 0 z) at e)

-- what the test of a plan says
plan_says : (s : PlanSample) → plan_met s ≡ true → PlanSays s
unfolding plan_met
plan_says s e =
    let reply = plan_reply s.launch (plain_read s.file) (lists_for s.table.count) in
    let replied = numbers_equal (plan_parts reply) (plan_parts s.reply) in
    three (file_met s.file s.table) replied (made_met s) (file_holds s.file s.table) (planned_same reply s.reply)
    (plan_holds s.reply.number (plan_marks s.launch one_each s.table) s.marks (plan_runs s.launch one_each s.table) s.runs)
    e

-- an answer of number 7 names a place and nothing else
seven_place : (answer : Answer) → number_of answer ≡ 7 → answer ≡ Err (Kind (place_of answer))
seven_place (Ok accepted) e = absurd (omega arith)
seven_place (Err (Short length)) e = absurd (omega arith)
seven_place (Err Count) e = absurd (omega arith)
seven_place (Err (Long needed)) e = absurd (omega arith)
seven_place (Err Padding) e = absurd (omega arith)
seven_place (Err Period) e = absurd (omega arith)
seven_place (Err (Window position)) e = absurd (omega arith)
seven_place (Err (Kind position)) e = refl
seven_place (Err (Weight position)) e = absurd (omega arith)

-- what the test of a 7 says
kind_holds : (answer : Answer) (place : ℕ) → kind_met answer place ≡ true → answer ≡ Err (Kind place)
unfolding kind_met
kind_holds answer place e =
    let z = both (eqb (number_of answer) 7) (eqb (place_of answer) place) (eqb-true _ _) (eqb-true _ _) e in
    seven_place answer z.0 ∙ ap {B = Answer} (λ (k : ℕ). Err (Kind k)) z.1

-- what the test of any sample says
sample_says : (s : Sample) → sample_met s ≡ true → Says s
unfolding sample_met
sample_says (clock s) e =
    let release = release_tick s.launch s.p s.q s.frame in
    let deadline = deadline_tick s.launch s.p s.q s.frame in
    both (eqb release s.release) (eqb deadline s.deadline) (eqb-true _ _) (eqb-true _ _) e
sample_says (plan s) e = plan_says s e
sample_says (window s) e =
    let job = job_at s.launch s.table s.position in
    both (eqb job.release s.release) (eqb job.deadline s.deadline) (eqb-true _ _) (eqb-true _ _) e
sample_says (move s) e =
    let reply = move_reply s.file s.shift (length s.file) in
    both (file_met s.file s.table) (numbers_equal (written_parts reply) (written_parts s.reply)) (file_holds s.file s.table)
    (written_same reply s.reply)
    e
sample_says (text s) e = numbers_same _ _ e
sample_says (nesting s) e = kind_holds (nesting_answer (task_at s.table) s.table.count) s.place e

-- what every sample whose test is computed says
computed_say : All Says computed_samples
computed_say = pass_all Says sample_met computed_samples sample_says all_pass.0

-- P8, and the table of the tie, with launch 0
pub p8_at_0 : Says (planned p8_table p8_file 1 2 p8_marks p8_runs)
p8_at_0 = computed_say.1.1.1.1.1.1.1.1.1.0

tie_at_0 : Says (planned tie_table tie_file 1 1 (0 ∷ 1 ∷ []) tie_runs)
tie_at_0 = computed_say.1.1.1.1.1.1.1.1.1.1.1.1.1.1.1.1.1.1.0

-- P8's text at launch 43,200,000
noon_text : plan_output (at_noon p8_file) ≡ p8_noon_text
unfolding output_of number_in plan_lines run_lines run_line drop_lines drops_from line fields decimal decimal_within text_of ascii table_of
noon_text = text_later 43_200_000 p8_table p8_file 1 2 p8_marks p8_runs refl all_pass.2 p8_at_0 ∙ lines
  where
    lines : plan_lines 3 1 2 p8_marks p8_noon_runs ≡ p8_noon_text
    lines = refl

-- The sample flights: what the rows of P1 to P12, under requests 1 to 3 of document 02, and the rows of these requests say holds of the definitions.
pub flight_samples : All Says samples
flight_samples =
    all_append Says computed_samples launch_samples computed_say (
      planned_later 43_200_000 p8_table p8_file 1 2 p8_marks p8_runs refl p8_at_0,
      (noon_text, (planned_later 86_399_999 tie_table tie_file 1 1 (0 ∷ 1 ∷ []) tie_runs refl tie_at_0, tt)),
    )

-- Laws of what runs now and what runs next: the greatest length of the text, and the interval that the code looks at.
use Prim.Native.Nat.{ℕ, ◌+◌, ◌*◌, ◌≤◌, min}
use mathlib.Core.Path.{◌≡◌, refl}
use mathlib.Core.List.{List, [], ◌∷◌, ◌++◌}
use mathlib.Core.Bool.{Bool}
use native.Mathlib.Omega.{arith}
use lib.ListN.{length, take, length-append}
use Rattle.table.proofs.RoundTrip.{read_legal}
use Rattle.base.specs.Members.{All}
use Rattle.base.proofs.TestLaws.{cases}
use Rattle.lines.specs.Text.{line}
use Rattle.lines.proofs.LineLaws.{line_few}
use Rattle.table.specs.declared.Table.{Table}
use Rattle.table.specs.Layout.{file_bytes_read}
use Rattle.table.specs.Reading.{one_each, plain_read, table_in}
use Rattle.table.proofs.FileLaws.{legal_count}
use Rattle.schedule.specs.declared.Run.{Run}
use Rattle.schedule.specs.BusyCount.{shared}
use Rattle.schedule.specs.RunCheck.{check_answer, runs_accepted}
use Rattle.schedule.specs.Queries.{Found, run_at_tick, run_from_tick, is_found, run_found, touches, runs_that, touching}
use Rattle.plans.specs.declared.Planned.{Planned}
use Rattle.plans.specs.Planning.{plan_runs}
use Rattle.plans.proofs.PlanLaws.{plan_few}
use Rattle.plans.proofs.ReplyLaws.{plan_made_lem}
use Rattle.plans.proofs.AskedPlans.{plan_checked}
use Rattle.printed_plan.specs.Printing.{run_numbers, run_lines, refusal_text, long_reply, max_line, max_text}
use Rattle.printed_plan.specs.NowText.{now_word, next_word, none_word, found_line, now_lines, now_text, PlanAccepted}
use Rattle.printed_plan.proofs.TextLaws.{runs_length, file_text_length, file_text_planned, file_text_refused, file_text_prefix}

-- The runs that share a tick with an interval.

-- they are no more than the runs of the list
that_length : (test : Run → Bool) (runs : List Run) → length (runs_that test runs) ≤ length runs
unfolding runs_that
that_length test [] = omega arith
that_length test (run ∷ runs) =
    cases (test run) (λ e. rw e (omega (arith, that_length test runs))) (λ e. rw e (omega (arith, that_length test runs)))

touching_length : (runs : List Run) (a b : ℕ) → length (touching runs a b) ≤ length runs
unfolding touching
touching_length runs a b =
    cases (runs_accepted (check_answer runs)) (λ e. rw e (that_length (touches a b) runs)) (λ e. rw e (omega arith))

-- An interval that is cut off at a tick after which no run ends shares ticks with the same runs.
cut_same : (most a b : ℕ) (runs : List Run) → All (λ run. run.end ≤ most) runs → runs_that (touches a (min b most)) runs ≡ runs_that (touches a b) runs
unfolding runs_that shared
cut_same most a b [] h = refl
cut_same most a b (run ∷ runs) h =
    let l = h.0 in
    let same : min run.end (min b most) ≡ min run.end b = omega arith in
    rw (same, cut_same most a b runs h.1)

pub touching_cut : (most : ℕ) (runs : List Run) (a b : ℕ) → All (λ run. run.end ≤ most) runs → touching runs a (min b most) ≡ touching runs a b
unfolding touching
touching_cut most runs a b h = rw (cut_same most a b runs h)

-- The length of the text.

-- the line of a query for one run
found_length : (word : List ℕ) (answer : Found) → length word ≤ 7 → length (found_line word answer) ≤ max_line
unfolding found_line
found_length word answer w =
    cases (is_found answer)
    (λ e. rw e (omega (arith, line_few word (run_numbers (run_found answer)))))
    (λ e. rw e (omega (arith, length-append word (line none_word []), line_few none_word [])))

-- the parts of the text
pub now_parts : (runs : List Run) (tick span : ℕ)
    → length (now_lines runs tick span)
    ≡ length (found_line now_word (run_at_tick runs tick)) + length (found_line next_word (run_from_tick runs tick))
    + length (run_lines (touching runs tick (tick + span)))
unfolding now_lines
now_parts runs tick span =
    let now = found_line now_word (run_at_tick runs tick) in
    let next = found_line next_word (run_from_tick runs tick) in
    omega (arith, length-append (now ++ next) (run_lines (touching runs tick (tick + span))), length-append now next)

-- so it has no more lines than a plan with as many runs
lines_length : (runs : List Run) (tick span : ℕ) → length (now_lines runs tick span) ≤ max_line * (2 + length runs)
lines_length runs tick span =
    omega (
      arith,
      now_parts runs tick span,
      found_length now_word (run_at_tick runs tick) (omega arith),
      found_length next_word (run_from_tick runs tick) (omega arith),
      runs_length (touching runs tick (tick + span)),
      touching_length runs tick (tick + span),
    )

-- The text of a file.
module _ (launch tick span : ℕ) where
  -- what is made of a table that is planned
  abbrev lines_of : Table → List ℕ
  lines_of t = now_lines (plan_runs launch one_each t) tick span

  -- No text is longer than max_text.
  pub now_length : (file : List ℕ) → length (now_text launch tick span file) ≤ max_text
  unfolding now_text
  now_length file =
      file_text_length lines_of launch file (λ p.
      omega (
        arith,
        lines_length (plan_runs launch one_each (table_in file)) tick span,
        plan_few launch one_each (table_in file) p.legal p.none,
        legal_count p.legal,
      ))

  -- What is printed of a refusal.
  pub now_refused : (file : List ℕ) (reply : Planned) → reply ≡ long_reply launch file → (reply.number ≡ 0 → ⊥)
      → refusal_text reply.number reply.place ≡ now_text launch tick span file
  unfolding now_text
  now_refused = file_text_refused lines_of launch

  -- What is printed of a plan, from its runs.
  pub now_planned : (file : List ℕ) (reply : Planned) → reply ≡ long_reply launch file → reply.number ≡ 0
      → (runs : List Run) → runs ≡ plan_runs launch one_each (table_in file) → now_lines runs tick span ≡ now_text launch tick span file
  unfolding now_text
  now_planned file reply e z runs r = rw r (file_text_planned lines_of launch file reply e z)

  -- What is printed of a file follows from its first bytes, as many as are read of a file: 501.
  pub now_prefix : (file : List ℕ) → now_text launch tick span (take file_bytes_read file) ≡ now_text launch tick span file
  unfolding now_text
  now_prefix = file_text_prefix lines_of launch

-- The check accepts the runs of every plan that is printed.
pub plan_accepted : (launch : ℕ) (file : List ℕ) → PlanAccepted launch file
unfolding long_reply
plan_accepted launch file z =
    let p = (plan_made_lem launch (plain_read file) (read_legal file) _ z).made in
    plan_checked launch one_each (table_in file) p.legal p.none

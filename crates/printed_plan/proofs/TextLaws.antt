-- Laws of the printed text: its greatest length, what it is where planning refuses a file or plans it, and that it follows from the first bytes of a file.
use Prim.Native.Nat.{ℕ, suc, ◌*◌, ◌≤◌}
use mathlib.Core.Path.{◌≡◌, sym, ap, ap₂, ◌∙◌}
use mathlib.Core.Bool.{false}
use mathlib.Core.List.{List, [], ◌∷◌}
use native.Mathlib.Decide.{dec_lt}
use native.Mathlib.Omega.{arith}
use lib.Dec.{eqb}
use lib.ListN.{length, take, length-append}
use lib.Seq.{take_all}
use borrow.Author.Tests.{eqb-true, eqb-false, ne_eqb}
use Rattle.table.proofs.RoundTrip.{read_legal}
use Rattle.base.proofs.TestLaws.{cases}
use Rattle.lines.specs.Text.{line}
use Rattle.lines.proofs.LineLaws.{line_few}
use Rattle.table.specs.declared.Table.{Table}
use Rattle.table.specs.Layout.{max_file, file_bytes_read}
use Rattle.table.specs.Answers.{number_of, place_of, is_accepted}
use Rattle.table.specs.Reading.{one_each, plain_read, table_in, read_answer}
use Rattle.table.proofs.AnswerLaws.{refused_number}
use Rattle.table.proofs.FileLaws.{legal_count}
use Rattle.table.proofs.PrefixLaws.{long_refused, read_prefix}
use Rattle.schedule.specs.declared.Run.{Run}
use Rattle.plans.specs.declared.Planned.{Planned}
use Rattle.plans.specs.Planning.{plan_marks, plan_runs, plan_declined}
use Rattle.plans.specs.PlanParts.{plan_of}
use Rattle.plans.proofs.PlanLaws.{Plannable, marks_length, plan_few}
use Rattle.plans.proofs.ReplyLaws.{file_refused, plan_made_lem}
use Rattle.printed_plan.specs.Printing.{plan_word, drop_word, run_word, refused_word, drops_from, drop_lines, run_numbers, run_line, run_lines, plan_lines}
use Rattle.printed_plan.specs.Printing.{refusal_text, reply_text, plan_text_by, plan_text, long_reply, printed, max_line, max_text}
use Rattle.printed_plan.proofs.LineLaws.{plan_length}

-- the DROP lines and the RUN lines
drops_length : (k : ℕ) (marks : List ℕ) → length (drops_from k marks) ≤ max_line * length marks
unfolding drops_from
drops_length k [] = omega arith
drops_length k (mark ∷ marks) =
    cases (eqb mark 0)
    (λ e. rw e (omega (arith, length-append (line drop_word (k ∷ [])) (drops_from (suc k) marks), line_few drop_word (k ∷ []), drops_length (suc k) marks)))
    (λ e. rw e (omega (arith, drops_length (suc k) marks)))

pub runs_length : (runs : List Run) → length (run_lines runs) ≤ max_line * length runs
unfolding run_lines run_line
runs_length [] = omega arith
runs_length (run ∷ runs) =
    omega (
      arith,
      length-append (run_line run) (run_lines runs),
      line_few run_word (run_numbers run),
      runs_length runs,
    )

pub refusal_length : (number place : ℕ) → length (refusal_text number place) ≤ max_text
unfolding refusal_text
refusal_length number place = omega (arith, line_few refused_word (number ∷ place ∷ []))

-- the text of a plan that was made
plan_text_length : (launch : ℕ) (file : List ℕ) → Plannable launch (plain_read file) → length (plan_text launch (table_in file)) ≤ max_text
unfolding plan_text plan_text_by plan_of plan_marks plan_runs drop_lines
plan_text_length launch file p =
    let t = table_in file in
    omega (
      arith,
      plan_length t.count (plan_of launch one_each t).kept (plan_of launch one_each t).discarded (plan_marks launch one_each t) (plan_runs launch one_each t),
      line_few plan_word (t.count ∷ (plan_of launch one_each t).kept ∷ (plan_of launch one_each t).discarded ∷ []),
      drops_length 0 (plan_marks launch one_each t),
      runs_length (plan_runs launch one_each t),
      marks_length launch one_each t p.legal p.none,
      plan_few launch one_each t p.legal p.none,
      legal_count p.legal,
    )

-- Every text that is printed of a file at a launch tick: what is made of its table where planning replies 0, and else the refusal.
abbrev pub file_text : (Table → List ℕ) → ℕ → List ℕ → List ℕ
file_text of launch file = reply_text (long_reply launch file) (of (table_in file))

module _ (of : Table → List ℕ) (launch : ℕ) where
  -- It is no longer than max_text where that of a plan is not.
  pub file_text_length : (file : List ℕ) → (Plannable launch (plain_read file) → length (of (table_in file)) ≤ max_text) → length (file_text of launch file) ≤ max_text
  unfolding long_reply reply_text
  file_text_length file few =
      let reply = long_reply launch file in
      cases (eqb reply.number 0)
      (λ e. rw e (few (plan_made_lem launch (plain_read file) (read_legal file) _ (eqb-true reply.number 0 e)).made))
      (λ e. rw e (refusal_length reply.number reply.place))

  -- What it is where a plan was made, and of a refusal.
  pub file_text_planned : (file : List ℕ) (reply : Planned) → reply ≡ long_reply launch file → reply.number ≡ 0
      → of (table_in file) ≡ file_text of launch file
  unfolding reply_text
  file_text_planned file reply e z = rw (← e, z)

  pub file_text_refused : (file : List ℕ) (reply : Planned) → reply ≡ long_reply launch file → (reply.number ≡ 0 → ⊥)
      → refusal_text reply.number reply.place ≡ file_text of launch file
  unfolding reply_text
  file_text_refused file reply e z = rw (← e, ne_eqb reply.number 0 z)

  -- So of a file that reading refuses.
  file-text-unread : (file : List ℕ) → is_accepted (read_answer file) ≡ false
      → refusal_text (number_of (read_answer file)) (place_of (read_answer file)) ≡ file_text of launch file
  unfolding long_reply
  file-text-unread file e =
      file_text_refused file (plan_declined (number_of (read_answer file)) (place_of (read_answer file))) (sym (file_refused launch (plain_read file) _ e))
      (eqb-false (number_of (read_answer file)) 0 (refused_number (read_answer file) e))

  -- It follows from the file's first bytes, as many as are read of a file: 501.
  pub file_text_prefix : (file : List ℕ) → file_text of launch (take file_bytes_read file) ≡ file_text of launch file
  file_text_prefix file =
      elim (dec_lt max_file (length file)) [
        | yes h ↦
            let same = read_prefix file in
            let bad = long_refused file h in
            sym (file-text-unread (take file_bytes_read file) (ap is_accepted same ∙ bad))
            ∙ (ap₂ refusal_text (ap number_of same) (ap place_of same) ∙ file-text-unread file bad)
        | no h ↦ ap (file_text of launch) (take_all file_bytes_read file (omega arith))
      ]

-- No text is longer than max_text.
pub printed_length : (launch : ℕ) (file : List ℕ) → length (printed launch file) ≤ max_text
unfolding printed
printed_length launch file = file_text_length (plan_text launch) launch file (plan_text_length launch file)

-- What is printed of a refusal.
pub printed_refused : (launch : ℕ) (file : List ℕ) (reply : Planned) → reply ≡ long_reply launch file → (reply.number ≡ 0 → ⊥)
    → refusal_text reply.number reply.place ≡ printed launch file
unfolding printed
printed_refused launch = file_text_refused (plan_text launch) launch

-- What is printed of a plan, from its task count, its marks and its runs.
pub printed_planned : (launch : ℕ) (file : List ℕ) (reply : Planned) → reply ≡ long_reply launch file → reply.number ≡ 0
    → (count : ℕ) (marks : List ℕ) (runs : List Run) → count ≡ (table_in file).count → marks ≡ plan_marks launch one_each (table_in file)
    → runs ≡ plan_runs launch one_each (table_in file) → plan_lines count reply.kept reply.discarded marks runs ≡ printed launch file
unfolding printed long_reply plan_text plan_text_by plan_of plan_marks plan_runs
printed_planned launch file reply e z count marks runs c m r =
    let made : reply ≡ plan_of launch one_each (table_in file) = e ∙ (plan_made_lem launch (plain_read file) (read_legal file) _ (rw e at z)).reply_is in
    rw (c, m, r, made) (file_text_planned (plan_text launch) launch file reply e z)

-- What is printed of a file follows from its first bytes, as many as are read of a file: 501.
pub printed_prefix : (launch : ℕ) (file : List ℕ) → printed launch (take file_bytes_read file) ≡ printed launch file
unfolding printed
printed_prefix launch = file_text_prefix (plan_text launch) launch

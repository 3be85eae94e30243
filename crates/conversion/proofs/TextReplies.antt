-- The replies of showing a file as text, by the tests that lead to them, and what the lent list holds: proved once for every form of table, and then of plain and
-- of weighted files.
use Prim.Native.Nat.{ℕ, ◌+◌, ◌≤◌, ◌<◌}
use mathlib.Core.Path.{◌≡◌, refl, sym, ap, ◌∙◌}
use mathlib.Core.Bool.{false}
use mathlib.Core.List.{List}
use lib.Dec.{ltb, eqb}
use native.Mathlib.Decide.{dec_lt}
use native.Mathlib.Omega.{arith}
use lib.ListN.{length, take, drop}
use lib.Seq.{take_all, length-take-le}
use borrow.Author.Tests.{lt-ltb, le-ltb, ltb-false, eqb-false}
use Rattle.std.specs.Prelude.{Result, Ok, Err, IfOk}
use Rattle.base.specs.Limits.{max_tasks}
use Rattle.base.specs.Lent.{content_after}
use Rattle.base.proofs.TestLaws.{cases, both_absurd}
use Rattle.base.proofs.ListLaws.{front_taken}
use Rattle.bits.specs.Bits.{Bytes}
use Rattle.lines.specs.Putting.{Put}
use Rattle.lines.proofs.PutLaws.{put_front}
use Rattle.table.specs.Answers.{Answer, Accepted, number_of, place_of, is_accepted, answered, answer_of, declined, wrote, written_of}
use Rattle.table.specs.declared.Refusal.{Refusal}
use Rattle.table.specs.declared.WriteRefusal.TheVariants.{Rule, Room}
use Rattle.table.specs.declared.Written.{Written}
use Rattle.table.specs.Layout.{max_file, FirstOf, FirstOfFile}
use Rattle.table.proofs.AnswerLaws.{refused_number, refused_write, accepted_is}
use Rattle.table.proofs.FileLaws.{legal_count}
use Rattle.table.proofs.RoundTrip.{read_legal}
use Rattle.table.proofs.PrefixLaws as plain
use Rattle.table.specs.Reading.{table_in, read_answer}
use Rattle.weighted_file.specs.declared.Weighted.{Weighted}
use Rattle.weighted_file.specs.Weights.{max_weighted_file, weighted_bytes_read, weighted_row, weighted_in, weighted_answer}
use Rattle.weighted_file.proofs.WeightLaws as weights
use Rattle.table_text.specs.TableText.{max_rows_text, text_of_table, max_table_text}
use Rattle.table_text.specs.WeightedText.{weighted_text, max_weighted_text}
use Rattle.table_text.proofs.TextLength.{rows_text_length, table_text_length, weighted_text_length}
use Rattle.table_text.proofs.TextRoundTrip.{file_text_again, weighted_text_again}
use Rattle.table_text.specs.Conversions.{
  shown_reply,
  shown_over,
  TextRestores,
  text_reply,
  text_over,
  RestoresFile,
  ShowsText,
  ShownRestores,
  weighted_text_reply,
  weighted_text_over,
  RestoresWeighted,
  ShowsWeighted,
  WeightedRestores,
}
use Rattle.conversion.specs.Showing.{shown_row, shown_text, read_text}

-- Of an answer of reading and the text of what was read.
module _ (bound : ℕ) (answer : Answer) (text : List ℕ) where
  -- what reading refuses
  pub text_refused : (room : ℕ) → is_accepted answer ≡ false → declined (number_of answer) (place_of answer) ≡ shown_reply bound answer text room
  unfolding shown_reply
  text_refused room e = rw e

  -- 9
  pub text_short : (room : ℕ) → answer ≡ Accepted → room < bound → declined 9 0 ≡ shown_reply bound answer text room
  unfolding shown_reply
  text_short room a l = rw (a, lt-ltb room bound l)

  -- the text
  pub text_shown : (room : ℕ) → answer ≡ Accepted → bound ≤ room → wrote (length text) ≡ shown_reply bound answer text room
  unfolding shown_reply
  text_shown room a l = rw (a, le-ltb room bound l)

  -- a refusal leaves the list as it was
  pub text_kept : (out : List ℕ) (reply : Written) → reply ≡ shown_reply bound answer text (length out) → eqb reply.number 0 ≡ false
      → out ≡ shown_over bound answer text out
  unfolding shown_over content_after
  text_kept out reply e n = rw (← e, n)

  -- a text that was put at the front is the reply's
  pub text_put : (out : List ℕ) (next : ℕ) (new : List ℕ) (reply : Written) → wrote (length text) ≡ shown_reply bound answer text (length out)
      → Put text 0 out next new → reply ≡ wrote next → (reply ≡ shown_reply bound answer text (length out)) × (new ≡ shown_over bound answer text out)
  unfolding shown_over content_after
  text_put out next new reply e p w =
      let front = put_front text out next new p in
      (w ∙ (ap wrote front.0 ∙ e), front.1 ∙ rw (← e))

  -- a reply of 0 is that of a text
  text-replied : (room : ℕ) → (shown_reply bound answer text room).number ≡ 0 → (answer ≡ Accepted) × (shown_reply bound answer text room ≡ wrote (length text))
  unfolding shown_reply
  text-replied room =
      cases (is_accepted answer)
      (λ a. rw a (cases (ltb room bound) (λ l. rw l (λ z. absurd (omega arith))) (λ l. rw l (λ z. (accepted_is answer a, refl)))))
      (λ a. rw a (λ z. absurd (eqb-false (number_of answer) 0 (refused_number answer a) z)))

-- Of what a call that reads returns, and a lent list.
module _ (bound width : ℕ) (read : Result Weighted Refusal) (out : List ℕ) where
  -- the reply, and what the list holds then
  abbrev pub Shown : Written → List ℕ → Type 0
  Shown reply new =
      (reply ≡ shown_reply bound (answer_of read) (read_text width read) (length out))
      × (new ≡ shown_over bound (answer_of read) (read_text width read) out)

  -- what reading refuses
  pub refusal_shown : (refusal : Refusal) → read ≡ Err refusal → Shown (written_of (Err (Rule refusal))) out
  refusal_shown refusal e =
      let reply = text_refused bound (Err refusal) (read_text width (Err refusal)) (length out) refl in
      rw e (reply, text_kept bound (Err refusal) (read_text width (Err refusal)) out _ reply (refused_write (Rule refusal)))

  -- 9
  pub short_shown : (w : Weighted) → read ≡ Ok w → length out < bound → Shown (written_of (Err Room)) out
  short_shown w e l =
      let reply = text_short bound Accepted (read_text width (Ok w)) (length out) refl l in
      rw e (reply, text_kept bound Accepted (read_text width (Ok w)) out _ reply refl)

  -- the text
  pub put_shown : (w : Weighted) (next : ℕ) (new : List ℕ) → read ≡ Ok w → bound ≤ length out → Put (shown_text width w) 0 out next new
      → Shown (written_of (Ok next)) new
  unfolding read_text
  put_shown w next new e l put =
      rw e (text_put bound Accepted (shown_text width w) out next new (wrote next) (text_shown bound Accepted (shown_text width w) (length out) refl l) put refl)

-- A call that returns a weighted table by its answer: that table has few tasks where nothing is refused,
pub result_few : (answer : Answer) (w : Weighted) (read : Result Weighted Refusal) → read ≡ answered answer w
    → (answer ≡ Accepted → w.table.count ≤ max_tasks) → IfOk read (λ found. found.table.count ≤ max_tasks)
result_few (Ok accepted) w read e few = rw e (few refl)
result_few (Err refusal) w read e few = rw e tt

-- and what it returns tells the answer, and the text where nothing is refused.
pub result_shown : (width : ℕ) (answer : Answer) (w : Weighted) (read : Result Weighted Refusal) → read ≡ answered answer w
    → (answer_of read ≡ answer) × (answer ≡ Accepted → read_text width read ≡ shown_text width w)
unfolding read_text
result_shown width (Ok accepted) w read e = rw e (refl, λ a. refl)
result_shown width (Err refusal) w read e = rw e (refl, λ a. cc)

-- Only the text of what was accepted counts.
pub text_same : (bound : ℕ) (a b : Answer) (s t out : List ℕ) → a ≡ b → (b ≡ Accepted → s ≡ t)
    → (shown_reply bound a s (length out) ≡ shown_reply bound b t (length out)) × (shown_over bound a s out ≡ shown_over bound b t out)
unfolding shown_over content_after
text_same bound a b s t out e same =
    cases (is_accepted b)
    (λ h.
    let texts : s ≡ t = same (accepted_is b h) in
    (rw (e, texts), rw (e, texts)))
    (λ h.
    let replies : shown_reply bound b s (length out) ≡ shown_reply bound b t (length out) = sym (text_refused bound b s (length out) h) ∙ text_refused bound b t (length out) h in
    let kept = text_kept bound b s out _ (text_refused bound b s (length out) h) (refused_number b h) in
    let left = text_kept bound b t out _ (text_refused bound b t (length out) h) (refused_number b h) in
    (rw e replies, rw e (sym kept ∙ left)))

-- A form of table file that is shown as text: what reading answers, the text of what is read, the bound of every text, the most bytes of a file, and what a text
-- has to restore.
pub record TextForm : Type 1 where
  pub answer : List ℕ → Answer
  pub text : List ℕ → List ℕ
  pub bound : ℕ
  pub most : ℕ
  pub Restores : List ℕ → List ℕ → Type 0
  -- the text of an accepted file is within the bound, and restores the file
  pub within : (file : List ℕ) → answer file ≡ Accepted → length (text file) ≤ bound
  pub restores : (file : List ℕ) → Bytes file → answer file ≡ Accepted → Restores file (text file)
  -- a longer file is refused, and what is said of any follows from its first bytes
  pub long : (file : List ℕ) → most < length file → is_accepted (answer file) ≡ false
  pub prefix : (file : List ℕ) → answer (take (most + 1) file) ≡ answer file

module _ (F : TextForm) where
  -- the reply, and what the list holds
  abbrev pub reply_of : List ℕ → ℕ → Written
  reply_of file room = shown_reply F.bound (F.answer file) (F.text file) room

  abbrev pub over_of : List ℕ → List ℕ → List ℕ
  over_of file out = shown_over F.bound (F.answer file) (F.text file) out

  -- What is shown restores the file.
  pub shown_restores : (file out : List ℕ) (reply : Written) (new : List ℕ) → Bytes file → reply ≡ reply_of file (length out) → new ≡ over_of file out
      → TextRestores F.Restores file reply new
  unfolding shown_over content_after
  shown_restores file out reply new bytes r c z =
      let known = text-replied F.bound (F.answer file) (F.text file) (length out) (rw r at z) in
      let text = F.text file in
      let same : take reply.bytes new ≡ text = rw (c, r, known.1) (front_taken text (drop (length text) out)) in
      rw same (F.restores file bytes known.0)

  -- a reply never reports more bytes than there was room for
  pub text_fits : (file : List ℕ) (room : ℕ) (reply : Written) → reply ≡ reply_of file room → reply.bytes ≤ room
  unfolding shown_reply
  text_fits file room reply e =
      rw e
      (cases (is_accepted (F.answer file))
      (λ a.
      rw a
      (cases (ltb room F.bound) (λ l. rw l (omega arith))
      (λ l. rw l (omega (arith, ltb-false room F.bound l, F.within file (accepted_is (F.answer file) a))))))
      (λ a. rw a (omega arith)))

  -- What is shown of an input follows from its first bytes, as many as a program holds.
  text-prefix : (file out : List ℕ)
      → (reply_of (take (F.most + 1) file) (length out) ≡ reply_of file (length out)) × (over_of (take (F.most + 1) file) out ≡ over_of file out)
  text-prefix file out =
      elim (dec_lt F.most (length file)) [
        | yes h ↦
            text_same F.bound (F.answer (take (F.most + 1) file)) (F.answer file) (F.text (take (F.most + 1) file)) (F.text file) out (F.prefix file)
            (λ a. both_absurd (is_accepted (F.answer file)) (ap is_accepted a) (F.long file h))
        | no h ↦
            let all = take_all (F.most + 1) file (omega arith) in
            (ap (λ (s : List ℕ). reply_of s (length out)) all, ap (λ (s : List ℕ). over_of s out) all)
      ]

  -- an input that is shown is held whole
  shown-whole : (file : List ℕ) (room : ℕ) → (reply_of file room).number ≡ 0 → take (F.most + 1) file ≡ file
  shown-whole file room z =
      elim (dec_lt F.most (length file)) [
        | yes h ↦
            both_absurd (is_accepted (F.answer file)) (ap is_accepted (text-replied F.bound (F.answer file) (F.text file) room z).0) (F.long file h)
        | no h ↦ take_all (F.most + 1) file (omega arith)
      ]

  -- so of an input that is held
  held : (first : List ℕ) (n : ℕ) (input out : List ℕ) (reply : Written) (new : List ℕ) → reply ≡ reply_of (take n first) (length out)
      → new ≡ over_of (take n first) out → TextRestores F.Restores (take n first) reply new → FirstOf (F.most + 1) first n input
      → (reply ≡ reply_of input (length out)) × (new ≡ over_of input out) × TextRestores F.Restores input reply new
  held first n input out reply new r c restores h =
      let replied = r ∙ (ap (λ (s : List ℕ). reply_of s (length out)) h ∙ (text-prefix input out).0) in (
        replied,
        c ∙ (ap (λ (s : List ℕ). over_of s out) h ∙ (text-prefix input out).1),
        λ z.
            let whole : take n first ≡ input = h ∙ shown-whole input (length out) (rw replied at z) in
            rw whole at (restores z),
      )

-- Plain files are such a form, and weighted ones.
abbrev pub plain_form : TextForm
plain_form =
    record {
      answer = read_answer;
      text = λ file. text_of_table (table_in file);
      bound = max_table_text;
      most = max_file;
      Restores = RestoresFile;
      within = λ file e. table_text_length (table_in file) (legal_count (read_legal file e)).1;
      restores = file_text_again;
      long = plain.long_refused;
      prefix = plain.read_prefix;
    }

abbrev pub weighted_form : TextForm
weighted_form =
    record {
      answer = weighted_answer;
      text = λ file. weighted_text (weighted_in file);
      bound = max_weighted_text;
      most = max_weighted_file;
      Restores = RestoresWeighted;
      within = λ file e. weighted_text_length (weighted_in file) (legal_count (weights.read_legal file e)).1;
      restores = weighted_text_again;
      long = weights.long_refused;
      prefix = weights.read_prefix;
    }

-- The text that the code shows is within the bound,
pub shown_few : (width : ℕ) (w : Weighted) → 2 < width → width ≤ 5 → w.table.count ≤ max_tasks → length (shown_text width w) ≤ max_rows_text width
unfolding shown_text shown_row
shown_few width w some fits h =
    rows_text_length width (omega arith) w.table.count w.table.p w.table.q (shown_row width w) h (λ k l. length-take-le width (weighted_row w k) fits)

-- and that of the plain table, and of the weighted one.
pub plain_text : (w : Weighted) → shown_text 4 w ≡ text_of_table w.table
unfolding shown_text shown_row text_of_table
plain_text w = refl

pub weighted_text_lem : (w : Weighted) → shown_text 5 w ≡ weighted_text w
unfolding shown_text shown_row weighted_text
weighted_text_lem w = refl

-- What is shown of an input that is held, of which it is the first bytes: of a plain file,
pub held_shown : (first : List ℕ) (n : ℕ) (input out : List ℕ) (reply : Written) (new : List ℕ) → reply ≡ text_reply (take n first) (length out)
    → new ≡ text_over (take n first) out → ShownRestores (take n first) reply new → FirstOfFile first n input → ShowsText input out reply new
unfolding text_reply text_over
held_shown first n input out reply new r c restores h =
    let all = held plain_form first n input out reply new r c restores h in
    record { reply_is = all.0; content = all.1; restores = all.2 }

-- and of a weighted one.
pub held_weighted : (first : List ℕ) (n : ℕ) (input out : List ℕ) (reply : Written) (new : List ℕ) → reply ≡ weighted_text_reply (take n first) (length out)
    → new ≡ weighted_text_over (take n first) out → WeightedRestores (take n first) reply new → FirstOf weighted_bytes_read first n input
    → ShowsWeighted input out reply new
unfolding weighted_text_reply weighted_text_over
held_weighted first n input out reply new r c restores h =
    let all = held weighted_form first n input out reply new r c restores h in
    record { reply_is = all.0; content = all.1; restores = all.2 }

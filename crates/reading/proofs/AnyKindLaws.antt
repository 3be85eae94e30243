-- Reading of a table of any kind: what it refuses, reading refuses; and what it tells of the table where it refuses nothing.
use Prim.Native.Nat.{ℕ, ◌≤◌, ◌<◌}
use mathlib.Core.Path.{◌≡◌, refl, sym, ap, ◌∙◌}
use mathlib.Core.Logic.{inl, inr, ⊎_elim}
use mathlib.Core.Bool.{Bool, true, false}
use mathlib.Core.List.{List}
use native.Mathlib.Omega.{arith}
use Rattle.base.specs.Limits.{max_tasks, last_frame}
use Rattle.base.specs.Tests.{or}
use Rattle.base.proofs.TestLaws.{cases, both_absurd, or_left, or_right, or_second}
use Rattle.bits.proofs.RowLaws.{fields_fit}
use Rattle.std.specs.Prelude.{Ok, Err}
use Rattle.table.specs.declared.Table.{Table}
use Rattle.table.specs.declared.Refusal.{Refusal}
use Rattle.table.specs.declared.Refusal.TheVariants.{Window}
use Rattle.table.specs.Tables.{task_at, table_of}
use Rattle.table.specs.Layout.{task_widths, task_start}
use Rattle.table.specs.Answers.{Answer, Accepted, is_accepted, answered, first_refusal}
use Rattle.table.specs.Windows.{bad_window}
use Rattle.table.specs.Kinds.{is_nested, is_similar, bad_window_answer, windows_answer, table_windows_answer}
use Rattle.table.specs.Reading.{count_in, p_in, q_in, task_from, task_in, table_in, head_answer, read_answer}
use Rattle.table.proofs.AnswerLaws.{accepted_is, answered_ok, answered_err, answered_ok-known, answered_err-known, first_refusal-known, refused_none}
use Rattle.table.proofs.KindLaws.{window_known, window_test}
use Rattle.table.proofs.RoundTrip.{read_test}
use Rattle.table.proofs.TableLaws.{task_at-below}
use Rattle.reading.specs.declared.AnyKind.{AnyKind}
use Rattle.reading.specs.AnyKind.{rows_result, any_kind_answer, any_kind_reply, any_kind_told}
use Rattle.reading.proofs.ReadLaws.{head_few, head_accepted}

-- What it refuses, reading refuses.
pub any_kind_refused : (s : List ℕ) → is_accepted (any_kind_answer s) ≡ false → any_kind_answer s ≡ read_answer s
unfolding any_kind_answer read_answer table_windows_answer windows_answer
any_kind_refused s =
    cases (is_accepted (head_answer s)) (λ e. rw e (λ f. rw f)) (λ e. rw e (λ f. refl))

-- Where it refuses nothing, neither the header nor a window that is bad is refused.
any_kind_known : (s : List ℕ) → any_kind_answer s ≡ Accepted → (head_answer s ≡ Accepted) × (bad_window_answer (task_at (table_in s)) (table_in s).count ≡ Accepted)
unfolding any_kind_answer
any_kind_known s e = first_refusal-known (head_answer s) (bad_window_answer (task_at (table_in s)) (table_in s).count) e

-- Its reply tells its answer.
answered_told : (head : Answer) (read : AnyKind) → any_kind_told (answered head read) ≡ first_refusal head read.windows
answered_told (Ok accepted) read = refl
answered_told (Err refusal) read = refl

pub any_kind_tells : (s : List ℕ) → any_kind_told (any_kind_reply s) ≡ any_kind_answer s
unfolding any_kind_reply any_kind_answer
any_kind_tells s =
    answered_told (head_answer s) (record { table = table_in s; windows = bad_window_answer (task_at (table_in s)) (table_in s).count })

-- By what reading without a look at the windows returns: a refusal of it is the reply, and else the reply is made of its table and what the windows answer.
pub any_kind_refusal : (r : Refusal) (s : List ℕ) → Err r ≡ rows_result s → Err r ≡ any_kind_reply s
unfolding rows_result any_kind_reply
any_kind_refusal r s e = answered_err (head_answer s) _ r (sym (answered_err-known (head_answer s) (table_in s) r e))

pub any_kind_made : (t : Table) (windows : Answer) (s : List ℕ) → Ok t ≡ rows_result s → windows ≡ bad_window_answer (task_at t) t.count
    → Ok (record { table = t; windows = windows }) ≡ any_kind_reply s
unfolding rows_result any_kind_reply
any_kind_made t windows s e w =
    let made = answered_ok-known (head_answer s) (table_in s) t e in
    let answer = w ∙ ap (λ (x : Table). bad_window_answer (task_at x) x.count) made.1 in
    answered_ok (head_answer s) _ _ made.0 (λ i. record { table = made.1 i; windows = answer i })

-- A reply with a table has that of the file, and tells what the windows answer; a refusal is the answer.
pub any_kind_in : (read : AnyKind) (s : List ℕ) → Ok read ≡ any_kind_reply s → (read.windows ≡ any_kind_answer s) × (read.table ≡ table_in s)
unfolding any_kind_reply
any_kind_in read s e =
    (ap any_kind_told e ∙ any_kind_tells s, ap (λ (x : AnyKind). x.table) (answered_ok-known (head_answer s) _ read e).1)

pub any_kind_out : (r : Refusal) (s : List ℕ) → Err r ≡ any_kind_reply s → any_kind_answer s ≡ Err r
any_kind_out r s e = sym (any_kind_tells s) ∙ ap any_kind_told (sym e)

-- the deadline frame of a task of a file is one that a table can name
deadline_named : (s : List ℕ) (start : ℕ) → (task_from s start).deadline ≤ last_frame
unfolding task_from
deadline_named s start = let f = fields_fit task_widths s start in omega (arith, f.1.0)

-- What is known of the table then: it has no more tasks than fit, no window is bad, and the frames are those that a table can name.
pub record AnyKindTable (s : List ℕ) : Type 0 where
  pub few : (table_in s).count ≤ max_tasks
  pub good : (k : ℕ) → k < (table_in s).count → bad_window (task_at (table_in s) k) ≡ false
  pub named : (k : ℕ) → k < (table_in s).count → (task_at (table_in s) k).deadline ≤ last_frame

pub any_kind_table : (s : List ℕ) → any_kind_answer s ≡ Accepted → AnyKindTable s
unfolding bad_window_answer table_in table_of task_in
any_kind_table s e =
    let z = any_kind_known s e in
    let few : count_in s ≤ max_tasks = (head_few s z.0).0 in
    record {
      few = few;
      good = refused_none Window (λ k. bad_window (task_at (table_in s) k)) (table_in s).count z.1;
      named = λ k l. rw (task_at-below (count_in s) (p_in s) (q_in s) (task_in s) k few l) (deadline_named s (task_start k));
    }

-- Where the table is of either kind, reading refuses nothing.
pub any_kind_served : (s : List ℕ) → any_kind_answer s ≡ Accepted → or (is_nested (table_in s)) (is_similar (table_in s)) ≡ true → read_answer s ≡ Accepted
any_kind_served s e o =
    read_test s (any_kind_known s e).0
    (window_test (table_in s)
    (record {
      good = (any_kind_table s e).good;
      kind = cases (is_nested (table_in s)) (λ n. inl n) (λ n. inr (sym (or_second (is_nested (table_in s)) (is_similar (table_in s)) n) ∙ o));
    }))

-- Where it is of neither, reading refuses what the windows of the table answer.
pub any_kind_neither : (s : List ℕ) → any_kind_answer s ≡ Accepted → or (is_nested (table_in s)) (is_similar (table_in s)) ≡ false
    → (table_windows_answer (table_in s) ≡ read_answer s) × (is_accepted (read_answer s) ≡ false)
any_kind_neither s e o =
    let n : Bool = is_nested (table_in s) in
    let m : Bool = is_similar (table_in s) in
    let same = head_accepted s (any_kind_known s e).0 in (
      same,
      cases (is_accepted (read_answer s))
          (λ t.
          ⊎_elim (λ k. both_absurd n k (or_left n m o)) (λ k. both_absurd m k (or_right n m o))
          (window_known (table_in s) (same ∙ accepted_is (read_answer s) t)).kind)
          (λ f. f),
    )

-- Tables and files that are moved: what a move keeps, and that a moved file is read again.
use Prim.Native.Nat.{ℕ, suc, ◌+◌, ◌-◌, ◌≤◌, ◌<◌}
use mathlib.Core.Path.{◌≡◌, refl, sym, ap, ◌∙◌}
use mathlib.Core.List.{List}
use mathlib.Core.Bool.{Bool, true, false, cond}
use native.Mathlib.Decide.{dec_le}
use native.Mathlib.Omega.{arith}
use lib.Dec.{ltb, leb}
use lib.ListN.{length}
use lib.IntN.{ℤ, pos, negsuc}
use borrow.Author.Tests.{ltb-false, le-ltb, le-leb, lt-leb}
use Rattle.base.specs.Limits.{max_tasks, last_frame}
use Rattle.base.specs.Tests.{pick}
use Rattle.base.proofs.TestLaws.{both_absurd, or_left, or_right}
use Rattle.base.proofs.LowestLaws.{before, lowest_bound}
use Rattle.table.specs.declared.Task.{Task}
use Rattle.table.specs.declared.Table.{Table}
use Rattle.table.specs.Tables.{task_at, table_of}
use Rattle.table.specs.Answers.{Answer, Accepted, number_of, place_of, is_accepted, declined, wrote}
use Rattle.table.specs.Windows.{bad_window, contains, nested, no_later, similar}
use Rattle.table.specs.Kinds.{windows_answer, table_windows_answer}
use Rattle.table.specs.Reading.{table_in, read_answer, read_reply}
use Rattle.table.specs.Writing.{file_of, Legal}
use Rattle.table.specs.Moving.{moved_frame, outside, frame_of, moved_task, moved_outside, first_outside, moved_table, move_reply}
use Rattle.table.proofs.AnswerLaws.{reply_known}
use Rattle.table.proofs.KindLaws.{Alike, windows_alike}
use Rattle.table.proofs.TableLaws.{task_at-below, table_of-canonical}
use Rattle.table.proofs.FileLaws.{file_of-length, Narrow, narrow_known, narrow_test, legal_count}
use Rattle.table.proofs.RoundTrip.{read_legal, read_length, table_in-count, written_read}

-- How far a shift moves up.
up : ℤ → ℕ
up (pos n) = n
up (negsuc n) = 0

-- And how far down.
down : ℤ → ℕ
down (pos n) = 0
down (negsuc n) = suc n

-- A difference that is not outside is not below 0.
difference_inside : (below : Bool) (x y : ℕ) → outside (cond below (negsuc x) (pos y)) ≡ false → (below ≡ false) × (ltb last_frame y ≡ false)
difference_inside true x y e = both_absurd true refl e
difference_inside false x y e = (refl, e)

-- A moved frame, where it is not outside.
frame_moved : (shift : ℤ) (a : ℕ) → outside (moved_frame shift a) ≡ false
    → (frame_of (moved_frame shift a) + down shift ≡ a + up shift) × (frame_of (moved_frame shift a) ≤ last_frame)
unfolding up down
frame_moved (pos n) a e = (omega arith, ltb-false last_frame (a + n) e)
frame_moved (negsuc n) a e =
    let z : (ltb a (suc n) ≡ false) × (ltb last_frame (a - suc n) ≡ false) = difference_inside (ltb a (suc n)) (suc n - suc a) (a - suc n) e in
    let h : suc n ≤ a = ltb-false a (suc n) z.0 in
    rw z.0 (omega arith, ltb-false last_frame (a - suc n) z.1)

-- Frames that are moved alike keep their order.
leb_moved : (a b c d x y : ℕ) → c + x ≡ a + y → d + x ≡ b + y → leb c d ≡ leb a b
leb_moved a b c d x y e f =
    elim (dec_le a b) [
      | yes h ↦ rw (le-leb a b h, le-leb c d (omega arith))
      | no h ↦ rw (lt-leb a b (omega arith), lt-leb c d (omega arith))
    ]

-- What a task tells that is not outside when it is moved.
outside_parts : (shift : ℤ) (task : Task) → moved_outside shift task ≡ false
    → (outside (moved_frame shift task.release) ≡ false) × (outside (moved_frame shift task.deadline) ≡ false)
unfolding moved_outside
outside_parts shift task e = (
  or_left (outside (moved_frame shift task.release)) (outside (moved_frame shift task.deadline)) e,
  or_right (outside (moved_frame shift task.release)) (outside (moved_frame shift task.deadline)) e,
)

-- A moved window, by numbers: both of its frames are moved alike, and end within the frames of a table.
record MovedWindow (shift : ℤ) (task : Task) : Type 0 where
  release : (moved_task shift task).release + down shift ≡ task.release + up shift
  deadline : (moved_task shift task).deadline + down shift ≡ task.deadline + up shift
  release-last : (moved_task shift task).release ≤ last_frame
  deadline-last : (moved_task shift task).deadline ≤ last_frame

-- A task that is not outside when it is moved has such a window.
window_moved : (shift : ℤ) (task : Task) → moved_outside shift task ≡ false → MovedWindow shift task
unfolding moved_task
window_moved shift task e =
    let z : (outside (moved_frame shift task.release) ≡ false) × (outside (moved_frame shift task.deadline) ≡ false) = outside_parts shift task e in
    record {
      release = (frame_moved shift task.release z.0).0;
      deadline = (frame_moved shift task.deadline z.1).0;
      release-last = (frame_moved shift task.release z.0).1;
      deadline-last = (frame_moved shift task.deadline z.1).1;
    }

-- A moved window is bad where the window is.
moved_bad_window : (shift : ℤ) (task : Task) → MovedWindow shift task → bad_window (moved_task shift task) ≡ bad_window task
unfolding bad_window
moved_bad_window shift task m =
    leb_moved task.deadline task.release (moved_task shift task).deadline (moved_task shift task).release (down shift) (up shift) m.deadline m.release

-- A moved window contains another moved window where the windows do.
moved_contains : (shift : ℤ) (a b : Task) → MovedWindow shift a → MovedWindow shift b → contains (moved_task shift a) (moved_task shift b) ≡ contains a b
unfolding contains
moved_contains shift a b m n =
    rw (
      leb_moved a.release b.release (moved_task shift a).release (moved_task shift b).release (down shift) (up shift) m.release n.release,
      leb_moved b.deadline a.deadline (moved_task shift b).deadline (moved_task shift a).deadline (down shift) (up shift) n.deadline m.deadline,
    )

-- So two moved windows are nested where the windows are.
moved_nested : (shift : ℤ) (a b : Task) → MovedWindow shift a → MovedWindow shift b → nested (moved_task shift a) (moved_task shift b) ≡ nested a b
unfolding nested
moved_nested shift a b m n = rw (moved_contains shift a b m n, moved_contains shift b a n m)

-- Of two moved windows the one released earlier has no later deadline where it has none in the table.
moved_no_later : (shift : ℤ) (a b : Task) → MovedWindow shift a → MovedWindow shift b → no_later (moved_task shift a) (moved_task shift b) ≡ no_later a b
unfolding no_later
moved_no_later shift a b m n =
    rw (
      leb_moved b.release a.release (moved_task shift b).release (moved_task shift a).release (down shift) (up shift) n.release m.release,
      leb_moved a.deadline b.deadline (moved_task shift a).deadline (moved_task shift b).deadline (down shift) (up shift) m.deadline n.deadline,
    )

-- So two moved windows are similar where the windows are.
moved_similar : (shift : ℤ) (a b : Task) → MovedWindow shift a → MovedWindow shift b → similar (moved_task shift a) (moved_task shift b) ≡ similar a b
unfolding similar
moved_similar shift a b m n = rw (moved_no_later shift a b m n, moved_no_later shift b a n m)

-- A moved task is not too wide.
moved_narrow : (shift : ℤ) (task : Task) → MovedWindow shift task → Narrow task → Narrow (moved_task shift task)
unfolding moved_task
moved_narrow shift task m n =
    record { release = omega (arith, m.release-last); deadline = omega (arith, m.deadline-last); mandatory = n.mandatory; optional = n.optional }

-- What a table tells of which no frame is outside when it is moved.
inside_known : (shift : ℤ) (t : Table) → first_outside shift t ≡ t.count → (k : ℕ) → k < t.count → MovedWindow shift (task_at t k)
unfolding first_outside
inside_known shift t e k h = window_moved shift (task_at t k) (before (λ j. moved_outside shift (task_at t j)) t.count k (omega arith))

-- The tasks of a moved table.
pub moved_task_lem : (shift : ℤ) (t : Table) → t.count ≤ max_tasks → (k : ℕ) → k < t.count → task_at (moved_table shift t) k ≡ moved_task shift (task_at t k)
unfolding moved_table
moved_task_lem shift t c k h = task_at-below t.count t.p t.q (λ j. moved_task shift (task_at t j)) k c h

-- The header of a moved table.
pub moved_header : (shift : ℤ) (t : Table) → ((moved_table shift t).count ≡ t.count) × ((moved_table shift t).p ≡ t.p) × ((moved_table shift t).q ≡ t.q)
unfolding moved_table table_of
moved_header shift t = (refl, refl, refl)

-- The windows of a moved table of which no frame is outside stand as those of the table do,
moved_alike : (shift : ℤ) (t : Table) → t.count ≤ max_tasks → first_outside shift t ≡ t.count → Alike (task_at (moved_table shift t)) (task_at t) t.count
moved_alike shift t m e =
    record {
      bad = λ k h. rw (moved_task_lem shift t m k h) (moved_bad_window shift (task_at t k) (inside_known shift t e k h));
      nesting = λ j k l h.
          let i : j < t.count = omega arith in
          rw (moved_task_lem shift t m j i, moved_task_lem shift t m k h)
          (moved_nested shift (task_at t j) (task_at t k) (inside_known shift t e j i) (inside_known shift t e k h));
      similarity = λ j k l h.
          let i : j < t.count = omega arith in
          rw (moved_task_lem shift t m j i, moved_task_lem shift t m k h)
          (moved_similar shift (task_at t j) (task_at t k) (inside_known shift t e j i) (inside_known shift t e k h));
    }

-- and so they are accepted as those of the table are.
moved_windows : (shift : ℤ) (t : Table) → Legal t → first_outside shift t ≡ t.count → table_windows_answer (moved_table shift t) ≡ Accepted
unfolding table_windows_answer
moved_windows shift t l e =
    ap (windows_answer (task_at (moved_table shift t))) (moved_header shift t).0 ∙ (windows_alike (moved_alike shift t (legal_count l).1 e) ∙ l.windows)

-- A legal table of which no moved frame is outside is legal when it is moved.
pub legal_moved : {t : Table} → Legal t → (shift : ℤ) → first_outside shift t ≡ t.count → Legal (moved_table shift t)
legal_moved {t} l shift e =
    let c : ((moved_table shift t).count ≡ t.count) × ((moved_table shift t).p ≡ t.p) × ((moved_table shift t).q ≡ t.q) = moved_header shift t in
    record {
      counted = rw c.0 l.counted;
      timed = rw (c.1, c.2) l.timed;
      narrow = λ k h.
          let i : k < t.count = rw c.0 at h in
          rw (moved_task_lem shift t (legal_count l).1 k i)
          (narrow_test (moved_task shift (task_at t k)) (moved_narrow shift (task_at t k) (inside_known shift t e k i) (narrow_known (task_at t k) (l.narrow k i))));
      windows = moved_windows shift t l e;
    }

-- The table of an accepted file, moved, is legal.
pub moved_legal : (s : List ℕ) (shift : ℤ) → read_answer s ≡ Accepted → first_outside shift (table_in s) ≡ (table_in s).count → Legal (moved_table shift (table_in s))
moved_legal s shift e f = legal_moved (read_legal s e) shift f

-- A moved file is as long as the file.
pub moved_length : (s : List ℕ) (shift : ℤ) → read_answer s ≡ Accepted → length (file_of (moved_table shift (table_in s))) ≡ length s
moved_length s shift e = file_of-length (moved_table shift (table_in s)) ∙ rw ((moved_header shift (table_in s)).0, table_in-count s) (sym (read_length s e))

-- What moving tells by the number 0, from the tests that it makes.
move_zero : (a : Answer) (b c : Bool) (n x : ℕ)
    → (pick (is_accepted a) (pick b (declined 10 n) (pick c (declined 9 0) (wrote x))) (declined (number_of a) (place_of a))).number ≡ 0
    → (a ≡ Accepted) × (b ≡ false) × (c ≡ false)
move_zero a true c n x e = absurd (omega (arith, (reply_known a (declined 10 n) e).1))
move_zero a false true n x e = absurd (omega (arith, (reply_known a (declined 9 0) e).1))
move_zero a false false n x e = ((reply_known a (wrote x) e).0, refl, refl)

-- What moving a file with the number 0 tells.
pub record MoveFacts (s : List ℕ) (shift : ℤ) (room : ℕ) : Type 0 where
  pub accepted : read_answer s ≡ Accepted
  pub inside : first_outside shift (table_in s) ≡ (table_in s).count
  pub fits : length s ≤ room
  pub reply : move_reply s shift room ≡ wrote (length s)

-- The reply of moving where nothing is refused.
pub moved_reply : (s : List ℕ) (shift : ℤ) (room : ℕ) → read_answer s ≡ Accepted → first_outside shift (table_in s) ≡ (table_in s).count → length s ≤ room
    → move_reply s shift room ≡ wrote (length s)
unfolding move_reply
moved_reply s shift room e f h = rw (e, le-ltb (first_outside shift (table_in s)) (table_in s).count (omega arith), le-ltb room (length s) h)

-- A file that was moved is so.
pub moved_known : (s : List ℕ) (shift : ℤ) (room : ℕ) → (move_reply s shift room).number ≡ 0 → MoveFacts s shift room
unfolding move_reply first_outside
moved_known s shift room e =
    let n : ℕ = first_outside shift (table_in s) in
    let z : (read_answer s ≡ Accepted) × (ltb n (table_in s).count ≡ false) × (ltb room (length s) ≡ false) =
    move_zero (read_answer s) (ltb n (table_in s).count) (ltb room (length s)) n (length s) e in
    let a : (table_in s).count ≤ n = ltb-false n (table_in s).count z.1 in
    let b : n ≤ (table_in s).count = lowest_bound (λ k. moved_outside shift (task_at (table_in s) k)) (table_in s).count in
    let i : first_outside shift (table_in s) ≡ (table_in s).count = omega arith in
    let h : length s ≤ room = ltb-false room (length s) z.2 in
    record { accepted = z.0; inside = i; fits = h; reply = moved_reply s shift room z.0 i h }

-- A moved table is given by its own tasks.
pub moved_canonical : (shift : ℤ) (t : Table)
    → table_of (moved_table shift t).count (moved_table shift t).p (moved_table shift t).q (task_at (moved_table shift t)) ≡ moved_table shift t
unfolding moved_table table_of
moved_canonical shift t = table_of-canonical t.count t.p t.q (λ k. moved_task shift (task_at t k))

-- A moved file is read without refusal, as the moved table.
pub moved_read : (s : List ℕ) (shift : ℤ) (room : ℕ) → (move_reply s shift room).number ≡ 0
    → read_reply (file_of (moved_table shift (table_in s)))
    ≡ record { answer = Accepted; table = moved_table shift (table_in s) }
moved_read s shift room e =
    let m : MoveFacts s shift room = moved_known s shift room e in
    written_read (moved_legal s shift m.accepted m.inside)
    ∙ ap (λ (x : Table). record { answer = Accepted; table = x }) (moved_canonical shift (table_in s))

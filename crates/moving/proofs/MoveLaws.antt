-- From the parts of moving to the whole.
use Prim.Native.Nat.{ℕ, ◌+◌, ◌≤◌, ◌<◌}
use mathlib.Core.Path.{◌≡◌, ap}
use mathlib.Core.Bool.{Bool, true, false}
use mathlib.Core.List.{List}
use native.Mathlib.Omega.{arith}
use native.Mathlib.Decide.{dec_lt}
use lib.IntN.{ℤ}
use lib.ListN.{length, set, replicate}
use borrow.Author.Count.{below_more}
use borrow.Author.Tests.{lt-ltb, le-ltb}
use mir.Syntax.{w32}
use mir.Val.{SFits, to_z, of_z}
use mir.Facts.{to_z-of_z}
use Rattle.std.specs.Prelude.{Some, None, Ok, Err}
use Rattle.base.specs.Limits.{max_tasks}
use Rattle.base.proofs.TestLaws.{cases}
use Rattle.base.proofs.LowestLaws.{none_passes}
use Rattle.base.proofs.FoundLaws.{found_first, found_lowest}
use Rattle.base.proofs.ArrayFilling.{Filled, filled_start, filled_set, filled_whole}
use Rattle.table.specs.declared.Task.{Task}
use Rattle.table.specs.declared.Table.{Table}
use Rattle.table.specs.declared.Refusal.{Refusal}
use Rattle.table.specs.declared.WriteRefusal.{WriteRefusal}
use Rattle.table.specs.declared.WriteRefusal.TheVariants.{Rule, Outside, Room}
use Rattle.table.specs.Tables.{no_task, task_at, table_of}
use Rattle.table.specs.Answers.{Accepted, declined, write_number, write_place, written_of}
use Rattle.table.specs.Reading.{table_in, read_answer, read_result}
use Rattle.table.specs.Moving.{moved_task, moved_outside, first_outside, moved_table, move_reply}
use Rattle.table.proofs.AnswerLaws.{answered_ok-known, answered_err-known}
use Rattle.moving.specs.Moved.{task_as, table_as}

-- a signed number of 32 bits is what its bits say
pub as_passed : {z : ℤ} → SFits w32 z → to_z w32 (of_z w32 z) ≡ z
as_passed f = to_z-of_z f

-- what a moved task tells
task_outside : (shift : ℤ) (task : Task) → None ≡ task_as shift task → moved_outside shift task ≡ true
task_outside shift task e =
    cases (moved_outside shift task) (λ o. o) (λ o. let f : None ≡ Some (moved_task shift task) = rw o at e in cc)

task_inside : (shift : ℤ) (task moved : Task) → Some moved ≡ task_as shift task → (moved_outside shift task ≡ false) × (moved ≡ moved_task shift task)
task_inside shift task moved e =
    cases (moved_outside shift task)
    (λ o. let f : Some moved ≡ None = rw o at e in cc)
    (λ o. let f : Some moved ≡ Some (moved_task shift task) = rw o at e in (o, cc))

-- no task below `done` moves outside, and the places below it hold them moved
pub record TasksMoved (shift : ℤ) (t : Table) (done : ℕ) (tasks : List Task) : Type 0 where
  pub inside : (k : ℕ) → k < done → moved_outside shift (task_at t k) ≡ false
  pub filled : Filled no_task (λ k. moved_task shift (task_at t k)) max_tasks t.count done tasks

pub moved_none : (shift : ℤ) (t : Table) → TasksMoved shift t 0 (replicate max_tasks no_task)
moved_none shift t = record { inside = λ k l. absurd (omega arith); filled = filled_start _ _ _ _ }

-- one task more
pub moved_more : (shift : ℤ) (t : Table) (k : ℕ) (tasks : List Task) (moved : Task) → k < t.count → k < max_tasks → TasksMoved shift t k tasks
    → Some moved ≡ task_as shift (task_at t k) → TasksMoved shift t (k + 1) (set tasks k moved)
moved_more shift t k tasks moved l m before e =
    let is = task_inside shift (task_at t k) moved e in
    record {
      inside = below_more (λ j. moved_outside shift (task_at t j) ≡ false) k before.inside is.0;
      filled = filled_set _ _ _ _ _ _ _ m l is.1 before.filled;
    }

-- the first that moves outside
pub moved_refused : (shift : ℤ) (t : Table) (k : ℕ) (tasks : List Task) → k < t.count → TasksMoved shift t k tasks → None ≡ task_as shift (task_at t k)
    → Err (Outside k) ≡ table_as shift t
unfolding first_outside
moved_refused shift t k tasks l before e =
    let test : ℕ → Bool = λ j. moved_outside shift (task_at t j) in
    let first = found_lowest test t.count k (found_first test t.count k l before.inside (task_outside shift (task_at t k) e)) in
    rw (← first.0, lt-ltb k t.count l)

-- all of them moved make the moved table
pub moved_all : (shift : ℤ) (t : Table) (k : ℕ) (tasks : List Task) → t.count ≤ k → TasksMoved shift t k tasks
    → Ok (record { count = t.count; p = t.p; q = t.q; tasks = tasks }) ≡ table_as shift t
unfolding first_outside moved_table table_of
moved_all shift t k tasks l held =
    let test : ℕ → Bool = λ j. moved_outside shift (task_at t j) in
    rw (none_passes test t.count (λ j m. held.inside j (omega arith)), le-ltb t.count t.count (omega arith))
    (ap (λ (tasks : List Task). Ok (record { count = t.count; p = t.p; q = t.q; tasks = tasks }))
    (filled_whole _ _ _ _ _ _ (λ j a b. omega arith) held.filled))

-- what the moved table of a file tells, where the file is read
module _ (s : List ℕ) (shift : ℤ) where
  -- reading refuses
  pub read_refused : (refusal : Refusal) (room : ℕ) → Err refusal ≡ read_result s → written_of (Err (Rule refusal)) ≡ move_reply s shift room
  unfolding read_result move_reply
  read_refused refusal room e = rw (answered_err-known (read_answer s) (table_in s) refusal e)

  -- a frame is outside
  pub frame_refused : (t : Table) (refusal : WriteRefusal) (room : ℕ) → Ok t ≡ read_result s → Err refusal ≡ table_as shift t
      → written_of (Err refusal) ≡ move_reply s shift room
  unfolding read_result move_reply
  frame_refused t refusal room e f =
      let read = answered_ok-known (read_answer s) (table_in s) t e in
      let n : ℕ = first_outside shift (table_in s) in
      let g = rw read.1 at f in
      elim (dec_lt n (table_in s).count) [
        | yes l ↦ let h : Err refusal ≡ Err (Outside n) = rw (lt-ltb n (table_in s).count l) at g in let same : refusal ≡ Outside n = cc in rw (read.0, lt-ltb n (table_in s).count l) (ap (λ r. declined (write_number r) (write_place r)) same)
        | no l ↦ let h : Err refusal ≡ Ok (moved_table shift (table_in s)) = rw (le-ltb n (table_in s).count (omega arith)) at g in cc
      ]

  -- what is known where none is
  pub record MovedFile (moved : Table) : Type 0 where
    pub accepted : read_answer s ≡ Accepted
    pub inside : (table_in s).count ≤ first_outside shift (table_in s)
    pub table : moved ≡ moved_table shift (table_in s)

  pub moved_file : (t moved : Table) → Ok t ≡ read_result s → Ok moved ≡ table_as shift t → MovedFile moved
  unfolding read_result
  moved_file t moved e f =
      let read = answered_ok-known (read_answer s) (table_in s) t e in
      let n : ℕ = first_outside shift (table_in s) in
      let g = rw read.1 at f in
      elim (dec_lt n (table_in s).count) [
        | yes l ↦ let h : Ok moved ≡ Err (Outside n) = rw (lt-ltb n (table_in s).count l) at g in cc
        | no l ↦
            let h : Ok moved ≡ Ok (moved_table shift (table_in s)) = rw (le-ltb n (table_in s).count (omega arith)) at g in
            record { accepted = read.0; inside = omega arith; table = cc }
      ]

  module _ (moved : Table) (file : MovedFile moved) (room : ℕ) where
    -- the list is too short
    pub room-refused : room < length s → written_of (Err Room) ≡ move_reply s shift room
    unfolding move_reply
    room-refused l = rw (file.accepted, le-ltb (first_outside shift (table_in s)) (table_in s).count file.inside, lt-ltb room (length s) l)

    -- nothing is refused
    pub nothing_refused : length s ≤ room → written_of (Ok (length s)) ≡ move_reply s shift room
    unfolding move_reply
    nothing_refused l = rw (file.accepted, le-ltb (first_outside shift (table_in s)) (table_in s).count file.inside, le-ltb room (length s) l)

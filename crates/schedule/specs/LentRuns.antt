-- Run lists that are lent, as contracts name them: in three columns of one length, and as the caller's own list of run records, of which a reply may be a
-- part. In a `requires` the name of a lent column is what it holds when the function is called; in an `ensures` it is that and, beside it, what it holds
-- when the function returns.
use Rattle.std.specs.Prelude.{ℕ, ◌+◌, ◌*◌, ◌≡◌, List, length}
use Rattle.std.specs.Borrow.{Bor}
use Rattle.base.specs.Lent.{ListParameter}
use Rattle.schedule.specs.declared.Run.{Run}
use Rattle.schedule.specs.Runs.{runs_of}

-- the three columns have one length
abbrev pub OneLength : Bor (List ℕ) → Bor (List ℕ) → Bor (List ℕ) → Type 0
OneLength starts ends tasks = (length starts.now ≡ length ends.now) × (length starts.now ≡ length tasks.now)

-- the run list that they are: for a `requires`, and for an `ensures`, where it is the one before the call
abbrev pub runs_lent : Bor (List ℕ) → Bor (List ℕ) → Bor (List ℕ) → List Run
runs_lent starts ends tasks = runs_of starts.now ends.now tasks.now

abbrev pub runs_before : ListParameter → ListParameter → ListParameter → List Run
runs_before starts ends tasks = runs_lent starts.entry ends.entry tasks.entry

-- the bytes of a run record: three numbers of 32 bits
abbrev pub run_bytes : ℕ
run_bytes = 12

-- a reply lies in the caller's own list, in the same block of memory, and begins at an index of it
abbrev pub BeginsAt : ℕ → Bor (List Run) → Bor (List Run) → Type 0
BeginsAt index list reply = reply.ref_ptr ≡ (list.ref_ptr.0, index * run_bytes + list.ref_ptr.1)

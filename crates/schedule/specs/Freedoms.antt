-- What the judge leaves free at optional parts of 0 ticks: 'A mark of 1 or 0 for an optional part of 0 ticks is equally good.' The theorem
-- `zero_marks_free` says so.
use Rattle.std.specs.Prelude.{ℕ, ◌<◌, ◌≡◌, List, get_or}
use Rattle.table.specs.declared.Table.{Table}
use Rattle.table.specs.Tables.{task_at}
use Rattle.schedule.specs.declared.Run.{Run}
use Rattle.schedule.specs.Judging.{verdict, kept_count, discarded_count}

-- the marks of two keep lists are the same at every optional part above 0 ticks; at the others they are any
abbrev pub SameAtParts : Table → List ℕ → List ℕ → Type 0
SameAtParts t marks other = (k : ℕ) → k < t.count → 0 < (task_at t k).optional → get_or marks k 0 ≡ get_or other k 0

-- two keep lists are equally good: with the same runs they get the same verdict and the same counts
pub record EquallyGood (launch : ℕ) (t : Table) (marks other : List ℕ) (runs : List Run) : Type 0 where
  pub yes : verdict launch t marks runs ≡ verdict launch t other runs
  pub kept : kept_count t marks ≡ kept_count t other
  pub discarded : discarded_count t marks ≡ discarded_count t other

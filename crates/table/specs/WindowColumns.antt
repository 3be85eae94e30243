-- For the proofs of code alone: windows whose frames stand in two columns.
use Rattle.std.specs.Prelude.{ℕ, ◌-◌, ◌<◌, ◌≡◌, List, get_or}
use Rattle.base.specs.Lent.{ListParameter}
use Rattle.table.specs.declared.Task.{Task}
use Rattle.table.specs.declared.windows.Windows.{Windows}

-- the window at place j of a column of release frames and a column of deadline frames, as a task of no ticks
abbrev pub window_at : List ℕ → List ℕ → ℕ → Task
window_at releases deadlines j = record { release = get_or releases j 0; deadline = get_or deadlines j 0; mandatory = 0; optional = 0 }

-- the windows of two columns that a function is lent, as they stand when it is called
abbrev pub windows_lent : ListParameter → ListParameter → ℕ → Task
windows_lent releases deadlines = window_at releases.entry.now deadlines.entry.now

-- the windows of the code's columns
abbrev pub windows_of : Windows → ℕ → Task
windows_of windows = window_at windows.releases windows.deadlines

-- the columns hold the frames of the tasks below the count
abbrev pub FramesOf : (ℕ → Task) → ℕ → List ℕ → List ℕ → Type 0
FramesOf task count releases deadlines = (k : ℕ) → k < count → (get_or releases k 0 ≡ (task k).release) × (get_or deadlines k 0 ≡ (task k).deadline)

-- they hold so many windows, those of some tasks
pub record Holds (windows : Windows) (task : ℕ → Task) (count : ℕ) : Type 0 where
  pub count_is : windows.count ≡ count
  pub frames : FramesOf task count windows.releases windows.deadlines

-- the greatest number of 32 bits
abbrev pub greatest_number : ℕ
greatest_number = 4_294_967_295

-- a column holds the deadlines below the count mirrored, so that the later of two becomes the lesser: two windows are similar exactly where they
-- are nested with their deadlines mirrored (`similar_mirrored`)
abbrev pub Mirrored : ℕ → List ℕ → List ℕ → Type 0
Mirrored count deadlines mirrored = (k : ℕ) → k < count → get_or mirrored k 0 ≡ greatest_number - get_or deadlines k 0

-- Moving a table by a signed number of frames: both frames of every task change by it, and nothing else.
use Rattle.std.specs.Prelude.{ℕ, List, Bool, true, ltb, length, ℤ, pos, negsuc, ◌+ℤ◌}
use Rattle.base.specs.Lent.{content_after}
use Rattle.base.specs.Limits.{last_frame}
use Rattle.base.specs.Tests.{pick, or}
use Rattle.base.specs.Lowest.{lowest}
use Rattle.table.specs.declared.Task.{Task}
use Rattle.table.specs.declared.Table.{Table}
use Rattle.table.specs.declared.Written.{Written}
use Rattle.table.specs.Tables.{task_at, table_of}
use Rattle.table.specs.Answers.{declined, wrote}
use Rattle.table.specs.Reading.{table_in, reply_on_file}
use Rattle.table.specs.Writing.{file_of}

-- a frame moved by a number of frames, which may lie below 0
abbrev pub moved_frame : ℤ → ℕ → ℤ
moved_frame shift frame = pos frame +ℤ shift

-- a moved frame is below 0 or above 131,071
abbrev pub outside : ℤ → Bool
outside (pos frame) = ltb last_frame frame
outside (negsuc below) = true

-- the frame that a moved frame is, where it is not below 0
abbrev pub frame_of : ℤ → ℕ
frame_of (pos frame) = frame
frame_of (negsuc below) = 0

-- a task with both frames moved
unfoldable pub moved_task : ℤ → Task → Task
moved_task shift task =
    record {
      release = frame_of (moved_frame shift task.release);
      deadline = frame_of (moved_frame shift task.deadline);
      mandatory = task.mandatory;
      optional = task.optional;
    }

-- a moved frame of the task is outside
unfoldable pub moved_outside : ℤ → Task → Bool
moved_outside shift task = or (outside (moved_frame shift task.release)) (outside (moved_frame shift task.deadline))

-- the lowest position with such a task, and the task count where there is none
unfoldable pub first_outside : ℤ → Table → ℕ
first_outside shift t = lowest (λ k. moved_outside shift (task_at t k)) t.count

-- the table with every task moved
unfoldable pub moved_table : ℤ → Table → Table
moved_table shift t = table_of t.count t.p t.q (λ k. moved_task shift (task_at t k))

-- the reply of moving a file into a list of `room` bytes: reading's refusals, then 10, then 9
unfoldable pub move_reply : List ℕ → ℤ → ℕ → Written
move_reply s shift room =
    reply_on_file declined
    (λ t.
    pick (ltb (first_outside shift t) t.count) (declined 10 (first_outside shift t))
    (pick (ltb room (length s)) (declined 9 0) (wrote (length s))))
    s

-- what a lent list holds after moving a file: the file of the moved table, and then what stood there beyond it
unfoldable pub moved_over : List ℕ → ℤ → List ℕ → List ℕ
moved_over s shift out = content_after (move_reply s shift (length out)).number (file_of (moved_table shift (table_in s))) out

-- For the proofs of moving's code alone: what its parts come to, as the code has it.
use Rattle.std.specs.Prelude.{ℕ, ℤ, ltb, Option, Some, None, Result, Ok, Err}
use Rattle.base.specs.Tests.{pick}
use Rattle.table.specs.declared.Task.{Task}
use Rattle.table.specs.declared.Table.{Table}
use Rattle.table.specs.declared.WriteRefusal.{WriteRefusal}
use Rattle.table.specs.declared.WriteRefusal.TheVariants.{Outside}
use Rattle.table.specs.Moving.{outside, frame_of, moved_task, moved_outside, first_outside, moved_table}

-- where a moved frame comes to lie, if it is not outside the frames of a table
abbrev pub moved_as : ℤ → Option ℕ
moved_as moved = pick (outside moved) None (Some (frame_of moved))

-- a task with both frames moved, if neither is outside
abbrev pub task_as : ℤ → Task → Option Task
task_as shift task = pick (moved_outside shift task) None (Some (moved_task shift task))

-- the table with every task moved, or the refusal of the first with a frame outside
abbrev pub table_as : ℤ → Table → Result Table WriteRefusal
table_as shift t = pick (ltb (first_outside shift t) t.count) (Err (Outside (first_outside shift t))) (Ok (moved_table shift t))

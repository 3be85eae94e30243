-- Tables of the samples, written by their plain numbers, and two tables of document 01 with their files.
use Rattle.std.specs.Prelude.{ℕ, ◌-◌, List, [], ◌∷◌, ◌++◌, length, replicate}
use Rattle.table.specs.declared.Task.{Task}
use Rattle.table.specs.declared.Table.{Table}

-- a task: release frame, deadline frame, mandatory ticks, optional ticks
abbrev pub task : ℕ → ℕ → ℕ → ℕ → Task
task release deadline mandatory optional = record { release = release; deadline = deadline; mandatory = mandatory; optional = optional }

-- the table of period p/q with these tasks, by position: of its 64 places those beyond them are 0
abbrev pub table : ℕ → ℕ → List Task → Table
table p q tasks = record { count = length tasks; p = p; q = q; tasks = tasks ++ replicate (64 - length tasks) (task 0 0 0 0) }

-- P4: one task, period 100/1, frames 0 to 2, mandatory 100, optional 50; the file as document 01 prints it
abbrev pub p4_table : Table
p4_table = table 100 1 (task 0 2 100 50 ∷ [])

abbrev pub p4_file : List ℕ
p4_file = 0x02 ∷ 0x0C ∷ 0x80 ∷ 0x02 ∷ 0x00 ∷ 0x00 ∷ 0x00 ∷ 0x01 ∷ 0x00 ∷ 0xC8 ∷ 0x01 ∷ 0x90 ∷ []

-- P8: three tasks, p = q = 1; frames 0 to 10, 2 to 8 and 4 to 6
abbrev pub p8_table : Table
p8_table = table 1 1 (task 0 10 2 3 ∷ task 2 8 1 3 ∷ task 4 6 1 1 ∷ [])

abbrev pub p8_file : List ℕ
p8_file =
    0x06 ∷ 0x00 ∷ 0x20 ∷ 0x02 ∷ 0x00 ∷ 0x00 ∷ 0x00 ∷ 0x05 ∷ 0x00 ∷ 0x04 ∷ 0x00 ∷ 0x18 ∷ 0x00 ∷ 0x08 ∷ 0x00 ∷ 0x10 ∷ 0x00 ∷ 0x08 ∷ 0x00 ∷ 0x60 ∷ 0x00 ∷ 0x40
    ∷ 0x00 ∷ 0x30 ∷ 0x00 ∷ 0x20 ∷ 0x00 ∷ 0x80 ∷ []

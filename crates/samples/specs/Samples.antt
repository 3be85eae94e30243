-- The sample flights, as one table of 45 rows: frames and their ticks, tables with their files and plans, the ticks of a window, a table file and its
-- moving, printed plans, and document 01's place of 7.
-- P1 to P12 are 14 rows: the tables of document 01, planned with the clock of request 3 of document 02. P9's windows are accepted since request 1, and its
-- lengths, which document 01 leaves open, are chosen here. Nine rows are added here for what request 1 says of similar tables, six for the launch tick of
-- request 2, and sixteen for request 3: what samples of document 01 showed with its own clock, and windows without a tick.
use Rattle.std.specs.Prelude.{ℕ, ◌≡◌, List, [], ◌∷◌, ◌++◌, map, length, ℤ, negsuc, Err}
use Rattle.lines.specs.Ascii.{text_of}
use Rattle.clock.specs.ClockSamples.{ClockSample, clock_samples, ClockSays}
use Rattle.table.specs.declared.Table.{Table}
use Rattle.table.specs.declared.Written.{Written}
use Rattle.table.specs.declared.Refusal.TheVariants.{Kind}
use Rattle.table.specs.Tables.{task_at}
use Rattle.table.specs.Kinds.{nesting_answer}
use Rattle.table.specs.Reading.{one_each, plain_read, table_in}
use Rattle.table.specs.Writing.{file_of}
use Rattle.table.specs.Moving.{move_reply}
use Rattle.table.specs.TableSamples.{task, table, p4_table, p4_file, p8_table, p8_file}
use Rattle.schedule.specs.declared.Run.{Run}
use Rattle.schedule.specs.Jobs.{job_at}
use Rattle.plans.specs.declared.Planned.{Planned}
use Rattle.plans.specs.Planning.{lists_for, plan_reply, plan_marks, plan_runs}
use Rattle.printed_plan.specs.ProgramInput.{plan_output}
use Rattle.samples.specs.Inputs.{run, not_written, not_planned, plan_with}

-- a table with its file, a launch tick, the reply of planning into lists that are just long enough, and of a plan its marks and runs
pub record PlanSample : Type 0 where
  pub table : Table
  pub file : List ℕ
  pub launch : ℕ
  pub reply : Planned
  pub marks : List ℕ
  pub runs : List Run

-- a task of a table at a launch tick, with the ticks expected of its release and of its deadline
pub record WindowSample : Type 0 where
  pub table : Table
  pub launch : ℕ
  pub position : ℕ
  pub release : ℕ
  pub deadline : ℕ

-- a table with its file, a number of frames, and the reply of moving the file by them into a list as long as it
pub record MoveSample : Type 0 where
  pub table : Table
  pub file : List ℕ
  pub shift : ℤ
  pub reply : Written

-- an input of the program, the 4 bytes of a launch tick and a table file, and the whole text printed of it
pub record PrintSample : Type 0 where
  pub input : List ℕ
  pub text : List ℕ

-- a table, and the place of the 7 that document 01's own rule sends: it stays the rule of readers and planners of nested tables alone
pub record NestingSample : Type 0 where
  pub table : Table
  pub place : ℕ

pub data Sample : Type 0 where
  clock : ClockSample → Sample
  plan : PlanSample → Sample
  window : WindowSample → Sample
  move : MoveSample → Sample
  text : PrintSample → Sample
  nesting : NestingSample → Sample

-- a table and its file with the plan expected at a launch tick: kept, discarded, marks, runs
abbrev pub planned_at : ℕ → Table → List ℕ → ℕ → ℕ → List ℕ → List Run → Sample
planned_at launch t file kept discarded marks runs =
    plan record { table = t; file = file; launch = launch; reply = plan_with kept discarded (length runs); marks = marks; runs = runs }

-- the same with launch 0
abbrev pub planned : Table → List ℕ → ℕ → ℕ → List ℕ → List Run → Sample
planned = planned_at 0

-- a table and its file that planning refuses at a launch tick
abbrev pub refused_at : ℕ → Table → List ℕ → ℕ → ℕ → Sample
refused_at launch t file number place =
    plan record { table = t; file = file; launch = launch; reply = not_planned number place; marks = []; runs = [] }

-- the same with launch 0
abbrev pub refused : Table → List ℕ → ℕ → ℕ → Sample
refused = refused_at 0

-- an input of the program: the 4 bytes of launch tick 0, or of 43,200,000, which is 02 93 2E 00, and a file
abbrev pub at_zero : List ℕ → List ℕ
at_zero file = 0x00 ∷ 0x00 ∷ 0x00 ∷ 0x00 ∷ file

abbrev pub at_noon : List ℕ → List ℕ
at_noon file = 0x02 ∷ 0x93 ∷ 0x2E ∷ 0x00 ∷ file

-- the marks and the runs of P8's plan, whose windows are the ticks 1 to 10, 3 to 8 and 5 to 6, and what is printed of it
abbrev pub p8_marks : List ℕ
p8_marks = 1 ∷ 0 ∷ 0 ∷ []

abbrev pub p8_runs : List Run
p8_runs = run 3 5 0 ∷ run 5 6 2 ∷ run 6 7 0 ∷ run 7 8 1 ∷ run 8 10 0 ∷ []

abbrev pub p8_plan_text : List ℕ
p8_plan_text =
    text_of
    ("PLAN 3 1 2"
    ∷ "DROP 1"
    ∷ "DROP 2"
    ∷ "RUN 3 5 0"
    ∷ "RUN 5 6 2"
    ∷ "RUN 6 7 0"
    ∷ "RUN 7 8 1"
    ∷ "RUN 8 10 0"
    ∷ [])

-- P11: period 5/4, frames 1 to 2, mandatory 1
abbrev pub p11_table : Table
p11_table = table 5 4 (task 1 2 1 0 ∷ [])

-- Tables for the rows of request 1, p = q = 1: frames f to g are the ticks f + 1 to g.

-- frames 0 to 5 and 3 to 9 are similar and not nested, 3 to 9 and 4 to 6 are nested and not similar: cut after task 2 the table is of neither kind
abbrev pub neither_table : Table
neither_table = table 1 1 (task 0 5 1 1 ∷ task 3 9 1 1 ∷ task 4 6 1 1 ∷ [])

-- ticks 1 to 5 and 2 to 6, each with an optional part, the later one longer: there is room for one of the two
abbrev pub tie_table : Table
tie_table = table 1 1 (task 0 5 1 1 ∷ task 1 6 1 3 ∷ [])

abbrev pub tie_file : List ℕ
tie_file =
    0x04 ∷ 0x00 ∷ 0x20 ∷ 0x02 ∷ 0x00 ∷ 0x00 ∷ 0x00 ∷ 0x02 ∷ 0x80 ∷ 0x02 ∷ 0x00 ∷ 0x08 ∷ 0x00 ∷ 0x04 ∷ 0x00 ∷ 0x0C ∷ 0x00 ∷ 0x08 ∷ 0x00 ∷ 0x60 ∷ []

-- the runs of its plan, and what is printed of it
abbrev pub tie_runs : List Run
tie_runs = run 1 2 0 ∷ run 2 6 1 ∷ []

abbrev pub tie_text : List ℕ
tie_text = text_of ("PLAN 2 1 1" ∷ "DROP 0" ∷ "RUN 1 2 0" ∷ "RUN 2 6 1" ∷ [])

-- ticks 1 to 4, 2 to 5 and 3 to 6, each with 2 mandatory ticks: 6 ticks in 5
abbrev pub late_table : Table
late_table = table 1 1 (task 0 4 2 0 ∷ task 1 5 2 1 ∷ task 2 6 2 0 ∷ [])

abbrev pub late_file : List ℕ
late_file =
    0x06 ∷ 0x00 ∷ 0x20 ∷ 0x02 ∷ 0x00 ∷ 0x00 ∷ 0x00 ∷ 0x02 ∷ 0x00 ∷ 0x04 ∷ 0x00 ∷ 0x00 ∷ 0x00 ∷ 0x04 ∷ 0x00 ∷ 0x0A ∷ 0x00 ∷ 0x10 ∷ 0x00 ∷ 0x20 ∷ 0x00 ∷ 0x20
    ∷ 0x00 ∷ 0x30 ∷ 0x00 ∷ 0x40 ∷ 0x00 ∷ 0x00 ∷ []

-- Tables for the rows of request 3.

-- P8 with every deadline a frame later: ticks 1 to 11, 3 to 9 and 5 to 7, so that each window has as many ticks as document 01 gave it
abbrev pub p8_wider_table : Table
p8_wider_table = table 1 1 (task 0 11 2 3 ∷ task 2 9 1 3 ∷ task 4 7 1 1 ∷ [])

abbrev pub p8_wider_file : List ℕ
p8_wider_file =
    0x06 ∷ 0x00 ∷ 0x20 ∷ 0x02 ∷ 0x00 ∷ 0x00 ∷ 0x00 ∷ 0x05 ∷ 0x80 ∷ 0x04 ∷ 0x00 ∷ 0x18 ∷ 0x00 ∷ 0x08 ∷ 0x00 ∷ 0x12 ∷ 0x00 ∷ 0x08 ∷ 0x00 ∷ 0x60 ∷ 0x00 ∷ 0x40
    ∷ 0x00 ∷ 0x38 ∷ 0x00 ∷ 0x20 ∷ 0x00 ∷ 0x80 ∷ []

-- what document 01 prints of P8, each run a tick later
abbrev pub p8_wider_text : List ℕ
p8_wider_text =
    text_of
    ("PLAN 3 2 1"
    ∷ "DROP 1"
    ∷ "RUN 3 5 0"
    ∷ "RUN 5 7 2"
    ∷ "RUN 7 8 0"
    ∷ "RUN 8 9 1"
    ∷ "RUN 9 11 0"
    ∷ [])

-- P11 with its deadline a frame later
abbrev pub p11_wider_table : Table
p11_wider_table = table 5 4 (task 1 3 1 0 ∷ [])

-- P11's window with no work, and with no mandatory tick and an optional one
abbrev pub no_work_file : List ℕ
no_work_file = 0x02 ∷ 0x00 ∷ 0xA0 ∷ 0x08 ∷ 0x00 ∷ 0x01 ∷ 0x00 ∷ 0x01 ∷ 0x00 ∷ 0x00 ∷ 0x00 ∷ 0x00 ∷ []

abbrev pub empty_file : List ℕ
empty_file = 0x02 ∷ 0x00 ∷ 0xA0 ∷ 0x08 ∷ 0x00 ∷ 0x01 ∷ 0x00 ∷ 0x01 ∷ 0x00 ∷ 0x00 ∷ 0x00 ∷ 0x08 ∷ []

-- P1 to P12, one after another, and then the rows of request 1, those of request 2 whose test is computed, and those of request 3
abbrev pub computed_samples : List Sample
computed_samples =
    -- P1, P2 and P3, and after them P1's frame at launch 43,200,000, a row of request 2, and a release on a whole tick, which P2 showed, a row of request 3
    map (λ sample. clock sample) clock_samples
    -- P4: ticks 100 to 200; 100 mandatory ticks fill them, so the optional part is dropped; run 100 to 200
    ++ planned p4_table p4_file 0 1 (0 ∷ []) (run 100 200 0 ∷ [])
    -- P5: that window with 200 and 1; refusal 8, place 0
    ∷ refused (table 100 1 (task 0 2 200 1 ∷ []))
    (0x02 ∷ 0x0C ∷ 0x80 ∷ 0x02 ∷ 0x00 ∷ 0x00 ∷ 0x00 ∷ 0x01 ∷ 0x01 ∷ 0x90 ∷ 0x00 ∷ 0x08 ∷ [])
    8 0
    -- P6: with 201 and 0; refusal 8, place 0
    ∷ refused (table 100 1 (task 0 2 201 0 ∷ []))
    (0x02 ∷ 0x0C ∷ 0x80 ∷ 0x02 ∷ 0x00 ∷ 0x00 ∷ 0x00 ∷ 0x01 ∷ 0x01 ∷ 0x92 ∷ 0x00 ∷ 0x00 ∷ [])
    8 0
    -- P7: with 0 and 0; counts 0 and 0, no runs, mark 1
    ∷ planned (table 100 1 (task 0 2 0 0 ∷ []))
    (0x02 ∷ 0x0C ∷ 0x80 ∷ 0x02 ∷ 0x00 ∷ 0x00 ∷ 0x00 ∷ 0x01 ∷ 0x00 ∷ 0x00 ∷ 0x00 ∷ 0x00 ∷ [])
    0 0 (1 ∷ []) []
    -- P8: the three tasks, of which 1 and 2 are dropped, and their whole printed plan
    ∷ planned p8_table p8_file 1 2 p8_marks p8_runs
    ∷ text record { input = at_zero p8_file; text = p8_plan_text }
    -- P9: frames 0 to 5 and 5 to 9, accepted as similar, which are the ticks 1 to 5 and 6 to 9; with 2 and 3, and 1 and 2, chosen here: task 0 has no room
    -- for its part, and each task runs as early as it can
    ∷ planned (table 1 1 (task 0 5 2 3 ∷ task 5 9 1 2 ∷ []))
    (0x04 ∷ 0x00 ∷ 0x20 ∷ 0x02 ∷ 0x00 ∷ 0x00 ∷ 0x00 ∷ 0x02 ∷ 0x80 ∷ 0x04 ∷ 0x00 ∷ 0x18 ∷ 0x00 ∷ 0x14 ∷ 0x00 ∷ 0x12 ∷ 0x00 ∷ 0x08 ∷ 0x00 ∷ 0x40 ∷ [])
    1 1 (0 ∷ 1 ∷ []) (run 1 3 0 ∷ run 6 9 1 ∷ [])
    -- P10: two windows of the frames 0 to 4, each 0 and 3, p = q = 1; task 0 dropped, run 1 to 4 of task 1
    ∷ planned (table 1 1 (task 0 4 0 3 ∷ task 0 4 0 3 ∷ []))
    (0x04 ∷ 0x00 ∷ 0x20 ∷ 0x02 ∷ 0x00 ∷ 0x00 ∷ 0x00 ∷ 0x02 ∷ 0x00 ∷ 0x00 ∷ 0x00 ∷ 0x18 ∷ 0x00 ∷ 0x00 ∷ 0x00 ∷ 0x08 ∷ 0x00 ∷ 0x00 ∷ 0x00 ∷ 0x60 ∷ [])
    1 1 (0 ∷ 1 ∷ []) (run 1 4 1 ∷ [])
    -- P11: the release is tick 3, one after the deadline, tick 2: the window is empty, refusal 8
    ∷ window record { table = p11_table; launch = 0; position = 0; release = 3; deadline = 2 }
    ∷ refused p11_table (0x02 ∷ 0x00 ∷ 0xA0 ∷ 0x08 ∷ 0x00 ∷ 0x01 ∷ 0x00 ∷ 0x01 ∷ 0x00 ∷ 0x02 ∷ 0x00 ∷ 0x00 ∷ []) 8 0
    -- P12: P8's table moved by −1; refusal 10, place 0
    ∷ move record { table = p8_table; file = p8_file; shift = negsuc 0; reply = not_written 10 0 }
    -- The rows of request 1.
    -- 7 with its new place: cut after task 1 the table is similar, cut after task 2 it is of neither kind; refusal 7, place 2
    ∷ refused neither_table
    (0x06 ∷ 0x00 ∷ 0x20 ∷ 0x02 ∷ 0x00 ∷ 0x00 ∷ 0x00 ∷ 0x02 ∷ 0x80 ∷ 0x02 ∷ 0x00 ∷ 0x08 ∷ 0x00 ∷ 0x0C ∷ 0x00 ∷ 0x12 ∷ 0x00 ∷ 0x08 ∷ 0x00 ∷ 0x20 ∷ 0x00 ∷ 0x40
    ∷ 0x00 ∷ 0x30 ∷ 0x00 ∷ 0x20 ∷ 0x00 ∷ 0x80 ∷ [])
    7 2
    -- document 01's own rule, which stays for nested tables alone, gives place 1: task 1 is not nested with task 0
    ∷ nesting record { table = neither_table; place = 1 }
    -- a tie: task 1 keeps its 3 ticks, since it stands last; the least total of kept ticks would keep the part of task 0. And the whole printed plan.
    ∷ planned tie_table tie_file 1 1 (0 ∷ 1 ∷ []) tie_runs
    ∷ text record { input = at_zero tie_file; text = tie_text }
    -- 'at the last task in that order where two differ it keeps': ticks 1 to 7 and 4 to 10, equal lengths, one tick too much for both parts; tick 3 stays
    -- free, since task 1 is released at 4
    ∷ planned (table 1 1 (task 0 7 2 3 ∷ task 3 10 2 3 ∷ []))
    (0x04 ∷ 0x00 ∷ 0x20 ∷ 0x02 ∷ 0x00 ∷ 0x00 ∷ 0x00 ∷ 0x03 ∷ 0x80 ∷ 0x04 ∷ 0x00 ∷ 0x18 ∷ 0x00 ∷ 0x0C ∷ 0x00 ∷ 0x14 ∷ 0x00 ∷ 0x10 ∷ 0x00 ∷ 0x60 ∷ [])
    1 1 (0 ∷ 1 ∷ []) (run 1 3 0 ∷ run 4 9 1 ∷ [])
    -- a task without work in a full table: the others take every tick of its window; it gets no run, its mark is 1 and it enters neither count
    ∷ planned (table 1 1 (task 0 3 2 0 ∷ task 1 4 0 0 ∷ task 2 5 2 0 ∷ []))
    (0x06 ∷ 0x00 ∷ 0x20 ∷ 0x02 ∷ 0x00 ∷ 0x00 ∷ 0x00 ∷ 0x01 ∷ 0x80 ∷ 0x04 ∷ 0x00 ∷ 0x00 ∷ 0x00 ∷ 0x04 ∷ 0x00 ∷ 0x08 ∷ 0x00 ∷ 0x00 ∷ 0x00 ∷ 0x00 ∷ 0x00 ∷ 0x20
    ∷ 0x00 ∷ 0x28 ∷ 0x00 ∷ 0x40 ∷ 0x00 ∷ 0x00 ∷ [])
    0 0 (1 ∷ 1 ∷ 1 ∷ []) (run 1 3 0 ∷ run 3 5 2 ∷ [])
    -- 8 in a similar table: tasks 0 and 1 run 1 to 5, and task 2 would end at 7, after its deadline
    ∷ refused late_table late_file 8 2
    -- positions and similar order told apart: task 1 is released first, so task 0 stands last and keeps
    ∷ planned (table 1 1 (task 3 10 2 3 ∷ task 0 7 2 3 ∷ []))
    (0x04 ∷ 0x00 ∷ 0x20 ∷ 0x02 ∷ 0x00 ∷ 0x03 ∷ 0x00 ∷ 0x05 ∷ 0x00 ∷ 0x04 ∷ 0x00 ∷ 0x18 ∷ 0x00 ∷ 0x00 ∷ 0x00 ∷ 0x0E ∷ 0x00 ∷ 0x10 ∷ 0x00 ∷ 0x60 ∷ [])
    1 1 (1 ∷ 0 ∷ []) (run 1 3 1 ∷ run 4 9 0 ∷ [])
    -- a table of both kinds, ticks 1 to 5 and 1 to 7, is planned as nested: the least total is kept, in the latest ticks. As similar it would keep the
    -- part of task 1, with runs 1 to 2 and 2 to 6
    ∷ planned (table 1 1 (task 0 5 1 2 ∷ task 0 7 1 3 ∷ []))
    (0x04 ∷ 0x00 ∷ 0x20 ∷ 0x02 ∷ 0x00 ∷ 0x00 ∷ 0x00 ∷ 0x02 ∷ 0x80 ∷ 0x02 ∷ 0x00 ∷ 0x10 ∷ 0x00 ∷ 0x00 ∷ 0x00 ∷ 0x0E ∷ 0x00 ∷ 0x08 ∷ 0x00 ∷ 0x60 ∷ [])
    1 1 (1 ∷ 0 ∷ []) (run 2 5 0 ∷ run 6 7 1 ∷ [])
    -- The other rows of request 2 whose test is computed.
    -- P11's window at launch 43,200,000, and the 8 of the late table there, which is the same at every accepted launch tick
    ∷ window record { table = p11_table; launch = 43_200_000; position = 0; release = 43_200_003; deadline = 43_200_002 }
    ∷ refused_at 43_200_000 late_table late_file 8 2
    -- The other rows of request 3. First tables of document 01 with every deadline a frame later: each shows what its sample showed there, a frame later.
    -- P4: ticks 100 to 300, with 100 and 50; kept, in the latest ticks
    ∷ planned (table 100 1 (task 0 3 100 50 ∷ []))
    (0x02 ∷ 0x0C ∷ 0x80 ∷ 0x02 ∷ 0x00 ∷ 0x00 ∷ 0x00 ∷ 0x01 ∷ 0x80 ∷ 0xC8 ∷ 0x01 ∷ 0x90 ∷ [])
    1 0 (1 ∷ []) (run 150 300 0 ∷ [])
    -- P5: with 200 and 1; the mandatory part fills the window, so the optional tick is dropped
    ∷ planned (table 100 1 (task 0 3 200 1 ∷ []))
    (0x02 ∷ 0x0C ∷ 0x80 ∷ 0x02 ∷ 0x00 ∷ 0x00 ∷ 0x00 ∷ 0x01 ∷ 0x81 ∷ 0x90 ∷ 0x00 ∷ 0x08 ∷ [])
    0 1 (0 ∷ []) (run 100 300 0 ∷ [])
    -- P6: with 201 and 0, one tick more than the window has
    ∷ refused (table 100 1 (task 0 3 201 0 ∷ []))
    (0x02 ∷ 0x0C ∷ 0x80 ∷ 0x02 ∷ 0x00 ∷ 0x00 ∷ 0x00 ∷ 0x01 ∷ 0x81 ∷ 0x92 ∷ 0x00 ∷ 0x00 ∷ [])
    8 0
    -- P8: of three lists that drop one part two keep the least total, and of these task 0, the outermost, keeps; and the whole printed plan
    ∷ planned p8_wider_table p8_wider_file 2 1 (1 ∷ 0 ∷ 1 ∷ []) (run 3 5 0 ∷ run 5 7 2 ∷ run 7 8 0 ∷ run 8 9 1 ∷ run 9 11 0 ∷ [])
    ∷ text record { input = at_zero p8_wider_file; text = p8_wider_text }
    -- P9: both parts kept, and task 1 runs where task 0 ends
    ∷ planned (table 1 1 (task 0 6 2 3 ∷ task 5 10 1 2 ∷ []))
    (0x04 ∷ 0x00 ∷ 0x20 ∷ 0x02 ∷ 0x00 ∷ 0x00 ∷ 0x00 ∷ 0x03 ∷ 0x00 ∷ 0x04 ∷ 0x00 ∷ 0x18 ∷ 0x00 ∷ 0x14 ∷ 0x00 ∷ 0x14 ∷ 0x00 ∷ 0x08 ∷ 0x00 ∷ 0x40 ∷ [])
    2 0 (1 ∷ 1 ∷ []) (run 1 6 0 ∷ run 6 9 1 ∷ [])
    -- P10: the latest three ticks of a window of four
    ∷ planned (table 1 1 (task 0 5 0 3 ∷ task 0 5 0 3 ∷ []))
    (0x04 ∷ 0x00 ∷ 0x20 ∷ 0x02 ∷ 0x00 ∷ 0x00 ∷ 0x00 ∷ 0x02 ∷ 0x80 ∷ 0x00 ∷ 0x00 ∷ 0x18 ∷ 0x00 ∷ 0x00 ∷ 0x00 ∷ 0x0A ∷ 0x00 ∷ 0x00 ∷ 0x00 ∷ 0x60 ∷ [])
    1 1 (0 ∷ 1 ∷ []) (run 2 5 1 ∷ [])
    -- P11: release and deadline are both tick 3, refusal 8
    ∷ window record { table = p11_wider_table; launch = 0; position = 0; release = 3; deadline = 3 }
    ∷ refused p11_wider_table (0x02 ∷ 0x00 ∷ 0xA0 ∷ 0x08 ∷ 0x00 ∷ 0x01 ∷ 0x00 ∷ 0x01 ∷ 0x80 ∷ 0x02 ∷ 0x00 ∷ 0x00 ∷ []) 8 0
    -- Then windows whose release tick is the deadline tick + 1. P11's, without mandatory ticks: planned, an optional part of 0 ticks marked 1, one of 1
    -- tick dropped
    ∷ planned (table 5 4 (task 1 2 0 0 ∷ [])) no_work_file 0 0 (1 ∷ []) []
    ∷ planned (table 5 4 (task 1 2 0 1 ∷ [])) empty_file 0 1 (0 ∷ []) []
    -- the same window inside one of the ticks 2 to 10
    ∷ planned (table 5 4 (task 1 2 0 2 ∷ task 0 8 1 2 ∷ []))
    (0x04 ∷ 0x00 ∷ 0xA0 ∷ 0x08 ∷ 0x00 ∷ 0x01 ∷ 0x00 ∷ 0x01 ∷ 0x00 ∷ 0x00 ∷ 0x00 ∷ 0x10 ∷ 0x00 ∷ 0x00 ∷ 0x00 ∷ 0x10 ∷ 0x00 ∷ 0x08 ∷ 0x00 ∷ 0x40 ∷ [])
    1 1 (0 ∷ 1 ∷ []) (run 7 10 1 ∷ [])
    -- in a similar table, between ticks 2 to 5 and 8 to 11: no mandatory tick and an optional one, which is dropped; no work; a mandatory tick, refusal 8
    ∷ planned (table 5 4 (task 0 4 2 1 ∷ task 4 5 0 1 ∷ task 5 9 2 1 ∷ []))
    (0x06 ∷ 0x00 ∷ 0xA0 ∷ 0x08 ∷ 0x00 ∷ 0x00 ∷ 0x00 ∷ 0x02 ∷ 0x00 ∷ 0x04 ∷ 0x00 ∷ 0x08 ∷ 0x00 ∷ 0x10 ∷ 0x00 ∷ 0x0A ∷ 0x00 ∷ 0x00 ∷ 0x00 ∷ 0x20 ∷ 0x00 ∷ 0x50
    ∷ 0x00 ∷ 0x48 ∷ 0x00 ∷ 0x40 ∷ 0x00 ∷ 0x80 ∷ [])
    2 1 (1 ∷ 0 ∷ 1 ∷ []) (run 2 5 0 ∷ run 8 11 2 ∷ [])
    ∷ planned (table 5 4 (task 0 4 2 1 ∷ task 4 5 0 0 ∷ task 5 9 2 1 ∷ []))
    (0x06 ∷ 0x00 ∷ 0xA0 ∷ 0x08 ∷ 0x00 ∷ 0x00 ∷ 0x00 ∷ 0x02 ∷ 0x00 ∷ 0x04 ∷ 0x00 ∷ 0x08 ∷ 0x00 ∷ 0x10 ∷ 0x00 ∷ 0x0A ∷ 0x00 ∷ 0x00 ∷ 0x00 ∷ 0x00 ∷ 0x00 ∷ 0x50
    ∷ 0x00 ∷ 0x48 ∷ 0x00 ∷ 0x40 ∷ 0x00 ∷ 0x80 ∷ [])
    2 0 (1 ∷ 1 ∷ 1 ∷ []) (run 2 5 0 ∷ run 8 11 2 ∷ [])
    ∷ refused (table 5 4 (task 0 4 2 1 ∷ task 4 5 1 0 ∷ task 5 9 2 1 ∷ []))
    (0x06 ∷ 0x00 ∷ 0xA0 ∷ 0x08 ∷ 0x00 ∷ 0x00 ∷ 0x00 ∷ 0x02 ∷ 0x00 ∷ 0x04 ∷ 0x00 ∷ 0x08 ∷ 0x00 ∷ 0x10 ∷ 0x00 ∷ 0x0A ∷ 0x00 ∷ 0x08 ∷ 0x00 ∷ 0x00 ∷ 0x00 ∷ 0x50
    ∷ 0x00 ∷ 0x48 ∷ 0x00 ∷ 0x40 ∷ 0x00 ∷ 0x80 ∷ [])
    8 1
    ∷ []

-- P8 at launch 43,200,000, which is noon: each run later by it, and the printed plan
abbrev pub p8_noon_runs : List Run
p8_noon_runs =
    run 43_200_003 43_200_005 0
    ∷ run 43_200_005 43_200_006 2
    ∷ run 43_200_006 43_200_007 0
    ∷ run 43_200_007 43_200_008 1
    ∷ run 43_200_008 43_200_010 0
    ∷ []

abbrev pub p8_noon_text : List ℕ
p8_noon_text =
    text_of
    ("PLAN 3 1 2"
    ∷ "DROP 1"
    ∷ "DROP 2"
    ∷ "RUN 43200003 43200005 0"
    ∷ "RUN 43200005 43200006 2"
    ∷ "RUN 43200006 43200007 0"
    ∷ "RUN 43200007 43200008 1"
    ∷ "RUN 43200008 43200010 0"
    ∷ [])

-- the rows of request 2 that are proved by laws, from the rows with launch 0: to compute a placing tick by tick from tick 0 takes too long
abbrev pub launch_samples : List Sample
launch_samples =
    planned_at 43_200_000 p8_table p8_file 1 2 p8_marks p8_noon_runs
    ∷ text record { input = at_noon p8_file; text = p8_noon_text }
    -- the similar table of the tie at the greatest launch tick
    ∷ planned_at 86_399_999 tie_table tie_file 1 1 (0 ∷ 1 ∷ []) (run 86_400_000 86_400_001 0 ∷ run 86_400_001 86_400_005 1 ∷ [])
    ∷ []

abbrev pub samples : List Sample
samples = computed_samples ++ launch_samples

-- What a sample says of the definitions.

-- a file holds a table, and is the file of it
abbrev pub FileHolds : List ℕ → Table → Type 0
FileHolds file t = (table_in file ≡ t) × (file_of t ≡ file)

-- what planning replies to the file, and which marks and runs a plan has
abbrev pub PlanSays : PlanSample → Type 0
PlanSays s =
    FileHolds s.file s.table
    × (plan_reply s.launch (plain_read s.file) (lists_for s.table.count) ≡ s.reply)
    × (s.reply.number ≡ 0 → (plan_marks s.launch one_each s.table ≡ s.marks) × (plan_runs s.launch one_each s.table ≡ s.runs))

abbrev pub Says : Sample → Type 0
Says (clock s) = ClockSays s
Says (plan s) = PlanSays s
Says (window s) =
    ((job_at s.launch s.table s.position).release ≡ s.release) × ((job_at s.launch s.table s.position).deadline ≡ s.deadline)
Says (move s) = FileHolds s.file s.table × (move_reply s.file s.shift (length s.file) ≡ s.reply)
Says (text s) = plan_output s.input ≡ s.text
Says (nesting s) = nesting_answer (task_at s.table) s.table.count ≡ Err (Kind s.place)

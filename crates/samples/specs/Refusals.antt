-- The refusals of document 01, with 7 and 8 as request 1 of document 02 has them, 14 of request 2 and 15 of requests 5 and 6, as one table of 232 rows, calls
-- with their whole replies: every number with its place, the order among the numbers, calls at a limit that are not refused, calls on similar tables, which are
-- not refused either, what lent lists hold after a call, what the judge says of runs at the ends of a window, what the queries answer at the ends of runs and
-- what is printed of them, and limits with their numbers.
use Rattle.std.specs.Prelude.{ℕ, zero, suc, ◌-◌, ◌≡◌, List, [], ◌∷◌, ◌++◌, length, replicate, take, ℤ, pos, negsuc}
use Rattle.lines.specs.Ascii.{text_of}
use Rattle.table.specs.declared.Table.{Table}
use Rattle.table.specs.declared.Written.{Written}
use Rattle.table.specs.Answers.{number_of, place_of}
use Rattle.table.specs.Layout.{max_file, file_bytes_read}
use Rattle.table.specs.Reading.{plain_read, read_reply}
use Rattle.table.specs.Writing.{file_of, write_reply, written_over}
use Rattle.table.specs.Moving.{move_reply, moved_over}
use Rattle.table.specs.TableSamples.{task, table, p4_file, p8_file}
use Rattle.schedule.specs.declared.Judged.{Judged}
use Rattle.schedule.specs.declared.Busy.{Busy}
use Rattle.schedule.specs.declared.Run.{Run}
use Rattle.schedule.specs.Ticks.{one_if}
use Rattle.schedule.specs.Judging.{judge_reply}
use Rattle.schedule.specs.BusyCount.{busy_reply}
use Rattle.schedule.specs.RunCheck.{check_answer, runs_number, runs_place}
use Rattle.schedule.specs.Queries.{Found, run_at_tick, run_from_tick, found_number, found_place, is_found, run_found, touching, stretch_of}
use Rattle.plans.specs.declared.Planned.{Planned}
use Rattle.plans.specs.Planning.{LentLists, lists_for, plan_reply, lists_left}
use Rattle.printed_plan.specs.Printing.{max_line, max_text, PrintsWithin}
use Rattle.printed_plan.specs.ProgramInput.{input_bytes, plan_front, plan_output, now_front, now_output}
use Rattle.samples.specs.Inputs.{
  run,
  lists_of,
  not_written,
  bytes_written,
  not_planned,
  plan_with,
  not_judged,
  judged_no,
  judged_yes,
  not_counted,
  counted_ticks,
}
use Rattle.samples.specs.Samples.{p8_marks, p8_runs, neither_table, tie_file, late_file, empty_file, at_zero}

-- a call, with what is given to it and its whole reply, and of lent lists what they hold then
pub data Call : Type 0 where
  -- reading a file: the number and the place of the answer, and the table
  reads : List ℕ → ℕ → ℕ → Table → Call
  -- writing a table into a list of so many bytes
  writes : Table → ℕ → Written → Call
  -- writing a table: what a lent list holds before, and then
  writes_over : Table → List ℕ → List ℕ → Call
  -- moving a file by a number of frames into a list of so many bytes
  moves : List ℕ → ℤ → ℕ → Written → Call
  -- moving a file: what a lent list holds before, and then
  moves_over : List ℕ → ℤ → List ℕ → List ℕ → Call
  -- planning a file at a launch tick into lent lists: the reply, and what the lists hold then
  plans : List ℕ → ℕ → LentLists → Planned → LentLists → Call
  -- judging a file at a launch tick, a keep list and a run list
  judges : List ℕ → ℕ → List ℕ → List Run → Judged → Call
  -- the busy count of a run list, from one tick to another
  busy_counts : List Run → ℕ → ℕ → Busy → Call
  -- the check of a run list: the number and the place of the answer
  checks : List Run → ℕ → ℕ → Call
  -- the run at a tick, and the first run that starts at a tick or after it: the numbers of the answer
  asks_at : List Run → ℕ → List ℕ → Call
  asks_from : List Run → ℕ → List ℕ → Call
  -- the runs that share a tick with the interval from one tick to another: the index of the first, and the runs
  asks_touching : List Run → ℕ → ℕ → ℕ → List Run → Call
  -- printing what an input of the program `plan` gets: the bytes of the text; and the same of the program `now`
  prints_plan : List ℕ → List ℕ → Call
  prints_now : List ℕ → List ℕ → Call
  -- printing a text: what a lent list holds before, how many bytes are printed, and what the list holds then
  prints_over : List ℕ → List ℕ → ℕ → List ℕ → Call
  -- a limit that contracts name, and its number
  limits : ℕ → ℕ → Call

-- the numbers of a query's answer: the number, the place, 1 for a run or 0 for none, and the run's start, end and task
abbrev pub found_parts : Found → List ℕ
found_parts answer =
    found_number answer
    ∷ found_place answer
    ∷ one_if (is_found answer)
    ∷ (run_found answer).start
    ∷ (run_found answer).end
    ∷ (run_found answer).task
    ∷ []

-- what a call's row says of the definitions
abbrev pub CallSays : Call → Type 0
CallSays (reads file number place t) =
    (number_of (read_reply file).answer ≡ number) × (place_of (read_reply file).answer ≡ place) × ((read_reply file).table ≡ t)
CallSays (writes t room reply) = write_reply t room ≡ reply
CallSays (writes_over t out after) = written_over t out ≡ after
CallSays (moves file shift room reply) = move_reply file shift room ≡ reply
CallSays (moves_over file shift out after) = moved_over file shift out ≡ after
CallSays (plans file launch lists reply after) = (plan_reply launch (plain_read file) lists ≡ reply) × (lists_left launch (plain_read file) reply lists ≡ after)
CallSays (judges file launch marks runs reply) = judge_reply launch (plain_read file) marks runs ≡ reply
CallSays (busy_counts runs a b reply) = busy_reply runs a b ≡ reply
CallSays (checks runs number place) = (runs_number (check_answer runs) ≡ number) × (runs_place (check_answer runs) ≡ place)
CallSays (asks_at runs tick numbers) = found_parts (run_at_tick runs tick) ≡ numbers
CallSays (asks_from runs tick numbers) = found_parts (run_from_tick runs tick) ≡ numbers
CallSays (asks_touching runs a b first part) =
    (touching runs a b ≡ part) × ((stretch_of runs a b).first ≡ first) × ((stretch_of runs a b).runs ≡ length part)
CallSays (prints_plan input text) = plan_output input ≡ text
CallSays (prints_now input text) = now_output input ≡ text
CallSays (prints_over text out bytes after) = PrintsWithin text out bytes after
CallSays (limits limit number) = limit ≡ number

-- a file that reading refuses: the table is 0 throughout
abbrev pub unread : List ℕ → ℕ → ℕ → Call
unread file number place = reads file number place (table 0 0 [])

-- a file that planning refuses at a launch tick: the lists stay as they were
abbrev pub unplanned : List ℕ → ℕ → LentLists → ℕ → ℕ → Call
unplanned file launch lists number place = plans file launch lists (not_planned number place) lists

-- a file with another last byte
abbrev pub ending : ℕ → List ℕ → List ℕ
ending byte file = take (length file - 1) file ++ byte ∷ []

-- the table of period p/q with so many equal tasks, of which the 64 places hold the first 64
abbrev pub equal_tasks : ℕ → ℕ → ℕ → Table
equal_tasks n p q = record { count = n; p = p; q = q; tasks = take 64 (replicate n (task 0 1 0 0) ++ replicate 64 (task 0 0 0 0)) }

-- lists of so many marks, starts, ends and tasks, and what they hold before: 9, 90, 91 and 92 at every place
abbrev pub lists : ℕ → ℕ → ℕ → ℕ → LentLists
lists marks starts ends tasks = lists_of (replicate marks 9) (replicate starts 90) (replicate ends 91) (replicate tasks 92)

-- the run of which every number is 0
abbrev pub empty_run : Run
empty_run = run 0 0 0

-- an input of the program `now`: launch tick, tick and number of ticks, each below 256, and a file
abbrev pub now_input : ℕ → ℕ → ℕ → List ℕ → List ℕ
now_input launch tick span file = 0 ∷ 0 ∷ 0 ∷ launch ∷ 0 ∷ 0 ∷ 0 ∷ tick ∷ 0 ∷ 0 ∷ 0 ∷ span ∷ file

-- a file with a byte too many: 12 are needed
abbrev pub long_file : List ℕ
long_file = p4_file ++ 0 ∷ []

-- three tasks, frames 0 to 5, 3 to 9 and 4 to 6: cut after task 2 the table is of neither kind; by document 01 alone the place would be 1
abbrev pub neither_file : List ℕ
neither_file = file_of neither_table

-- the same windows, and one after them that is bad
abbrev pub neither_then_bad : Table
neither_then_bad = table 1 1 (task 0 5 0 0 ∷ task 3 9 0 0 ∷ task 4 6 0 0 ∷ task 8 7 0 0 ∷ [])

-- three tasks: task 2 is nested with task 1, the one before it, and not with task 0; tasks 0 and 1 are not similar
abbrev pub crossed_at2 : Table
crossed_at2 = table 1 1 (task 2 6 0 0 ∷ task 0 9 0 0 ∷ task 5 8 0 0 ∷ [])

-- three tasks whose windows are similar, and no two of them nested
abbrev pub similar_table : Table
similar_table = table 1 1 (task 0 5 0 0 ∷ task 3 9 0 0 ∷ task 4 10 0 0 ∷ [])

abbrev pub similar_file : List ℕ
similar_file = file_of similar_table

-- tables of three tasks whose windows are similar, and those of tasks 0 and 2 not nested: two releases are equal, and two deadlines
abbrev pub equal_releases : Table
equal_releases = table 1 1 (task 0 5 0 0 ∷ task 0 7 0 0 ∷ task 3 9 0 0 ∷ [])

abbrev pub equal_deadlines : Table
equal_deadlines = table 1 1 (task 0 5 0 0 ∷ task 2 5 0 0 ∷ task 3 9 0 0 ∷ [])

-- five tasks whose windows are nested, and those of tasks 0 and 1 not similar: equal releases, equal deadlines, and two equal windows
abbrev pub nested_table : Table
nested_table = table 1 1 (task 0 9 0 0 ∷ task 2 7 0 0 ∷ task 2 5 0 0 ∷ task 4 5 0 0 ∷ task 4 5 0 0 ∷ [])

-- two tasks whose windows are nested and similar
abbrev pub both_kinds : Table
both_kinds = table 5 4 (task 0 5 1 2 ∷ task 0 7 3 4 ∷ [])

-- P4's table, and at the places beyond its count tasks whose windows are reversed and whose fields are too wide
abbrev pub beyond_table : Table
beyond_table = record { count = 1; p = 100; q = 1; tasks = task 0 2 100 50 ∷ replicate 63 (task 131_072 0 16_384 16_384) }

-- two tasks: task 1 has the lower release frame and the higher deadline frame
abbrev pub two_tasks : List ℕ
two_tasks = file_of (table 1 1 (task 2 8 0 0 ∷ task 1 9 0 0 ∷ []))

-- two tasks, frames 0 to 5 and 0 to 9: task 0 has an optional part of 0 ticks, and task 1 one of a tick
abbrev pub zero_optional : List ℕ
zero_optional = file_of (table 1 1 (task 0 5 2 0 ∷ task 0 9 1 1 ∷ []))

-- three tasks whose mandatory ticks exceed the outermost window alone: that of task 1, which is the last in nest order
abbrev pub outermost_exceeds : List ℕ
outermost_exceeds = file_of (table 1 1 (task 2 9 2 0 ∷ task 0 11 7 0 ∷ task 4 7 2 0 ∷ []))

-- three tasks of which two exceed their windows: task 1, the first in nest order, and task 0, the last
abbrev pub innermost_exceeds : List ℕ
innermost_exceeds = file_of (table 1 1 (task 0 10 9 0 ∷ task 4 6 3 0 ∷ task 2 8 1 0 ∷ []))

-- three tasks in a similar table, task 2 the first in similar order, task 0 the last: its mandatory ticks, after those of the others, end late
abbrev pub last_late : List ℕ
last_late = file_of (table 1 1 (task 2 6 2 0 ∷ task 1 5 2 0 ∷ task 0 4 2 0 ∷ []))

-- two tasks in a similar table, both longer than their windows: task 1 is the first in similar order
abbrev pub both_late : List ℕ
both_late = file_of (table 1 1 (task 3 6 4 0 ∷ task 0 3 4 0 ∷ []))

-- Reading: 1 for under 4 bytes, then 2, 1, 3, 4, 5, 6, 7.
abbrev pub reading_rows : List Call
reading_rows =
    -- 1, the file length: fewer than 4 bytes, whatever they are (1 before 2)
    unread [] 1 0
    ∷ unread (0x00 ∷ 0x00 ∷ 0x00 ∷ []) 1 3
    -- fewer than the count needs: 12 for one task
    ∷ unread (0x02 ∷ 0x00 ∷ 0x00 ∷ 0x00 ∷ []) 1 4
    ∷ unread (take 11 p4_file) 1 11
    -- 2: count 0, in 4 bytes and in 12 (2 before 3)
    ∷ unread (replicate 4 0) 2 0
    ∷ unread (replicate 12 0) 2 0
    -- count 65 in as many bytes as 65 tasks need, and in 4 bytes (2 before the second 1)
    ∷ unread (0x82 ∷ replicate 507 0) 2 0
    ∷ unread (0x82 ∷ 0x00 ∷ 0x00 ∷ 0x00 ∷ []) 2 0
    -- count 64 in 4 bytes: not 2, but 1
    ∷ unread (0x80 ∷ 0x00 ∷ 0x00 ∷ 0x00 ∷ []) 1 4
    -- 3, the length needed: one byte too many, two too many, and one too many with padding set (3 before 4)
    ∷ unread long_file 3 12
    ∷ unread (p4_file ++ 0 ∷ 0 ∷ []) 3 12
    ∷ unread (ending 0x97 p4_file ++ 0 ∷ []) 3 12
    -- 4: each of the three padding bits, from the lowest on; and the lowest and the highest of seven
    ∷ unread (ending 0x91 p4_file) 4 0
    ∷ unread (ending 0x92 p4_file) 4 0
    ∷ unread (ending 0x94 p4_file) 4 0
    ∷ unread (ending 0x81 p8_file) 4 0
    ∷ unread (ending 0xC0 p8_file) 4 0
    -- padding and period: 4 before 5
    ∷ unread (ending 0x01 (file_of (table 0 1 (task 0 2 0 0 ∷ [])))) 4 0
    -- 5: p is 0, q is 0, p below q
    ∷ unread (file_of (table 0 1 (task 0 2 0 0 ∷ []))) 5 0
    ∷ unread (file_of (table 1 0 (task 0 2 0 0 ∷ []))) 5 0
    ∷ unread (file_of (table 4 5 (task 0 2 0 0 ∷ []))) 5 0
    -- period and window: 5 before 6
    ∷ unread (file_of (table 4 5 (task 2 0 0 0 ∷ []))) 5 0
    -- 6, the position: release above deadline in tasks 1 and 2, release equal to deadline
    ∷ unread (file_of (table 1 1 (task 0 9 0 0 ∷ task 3 2 0 0 ∷ task 5 4 0 0 ∷ []))) 6 1
    ∷ unread (file_of (table 1 1 (task 0 9 0 0 ∷ task 3 3 0 0 ∷ []))) 6 1
    -- 6 before 7, which has the lower place
    ∷ unread (file_of neither_then_bad) 6 3
    -- 7, the lowest position such that the table cut after it is of neither kind: 2 of 2 and 3, and 2 alone. What stands before it is similar and not
    -- nested, so document 01's place would be 1
    ∷ unread (file_of (table 1 1 (task 0 5 0 0 ∷ task 3 9 0 0 ∷ task 4 6 0 0 ∷ task 5 10 0 0 ∷ []))) 7 2
    ∷ unread neither_file 7 2
    -- what stands before it is nested and not similar, and it is of both kinds
    ∷ unread (file_of crossed_at2) 7 2
    ∷ unread (file_of (table 1 1 (task 0 4 0 0 ∷ task 0 6 0 0 ∷ task 3 5 0 0 ∷ []))) 7 2
    -- similar and not nested: accepted, also with equal releases, which put no condition on the deadlines, and with equal deadlines
    ∷ reads similar_file 0 0 similar_table
    ∷ reads (file_of equal_releases) 0 0 equal_releases
    ∷ reads (file_of equal_deadlines) 0 0 equal_deadlines
    -- nested and not similar: accepted, with equal releases, equal deadlines and equal windows
    ∷ reads (file_of nested_table) 0 0 nested_table
    -- of both kinds: accepted
    ∷ reads (file_of both_kinds) 0 0 both_kinds
    ∷ []

-- Writing: 2, 5, 12, 6, 7, 9. A file of one task has 12 bytes, of two 20, of three 28, of four 35, of 64 tasks 500.
abbrev pub writing_rows : List Call
writing_rows =
    -- 2: count 0, count 65
    writes (equal_tasks 0 1 1) 500 (not_written 2 0)
    ∷ writes (equal_tasks 65 1 1) 600 (not_written 2 0)
    -- count and period: 2 before 5
    ∷ writes (equal_tasks 65 0 0) 600 (not_written 2 0)
    -- 5: p is 4,095, p is 4,096; q is 4,095, q is 4,096, which is above every p that is allowed; p below q
    ∷ writes (table 4_095 1 (task 0 1 0 0 ∷ [])) 12 (bytes_written 12)
    ∷ writes (table 4_096 1 (task 0 1 0 0 ∷ [])) 12 (not_written 5 0)
    ∷ writes (table 4_095 4_095 (task 0 1 0 0 ∷ [])) 12 (bytes_written 12)
    ∷ writes (table 4_095 4_096 (task 0 1 0 0 ∷ [])) 12 (not_written 5 0)
    ∷ writes (table 1 2 (task 0 1 0 0 ∷ [])) 12 (not_written 5 0)
    -- period and width: 5 before 12
    ∷ writes (table 4_096 1 (task 0 131_072 0 0 ∷ [])) 12 (not_written 5 0)
    -- 12, the position: every field of the greatest number that its bits hold, and then each field one more; in the last row two tasks are so
    ∷ writes (table 1 1 (task 131_070 131_071 16_383 16_383 ∷ [])) 12 (bytes_written 12)
    ∷ writes (table 1 1 (task 0 9 0 0 ∷ task 131_072 131_071 0 0 ∷ [])) 20 (not_written 12 1)
    ∷ writes (table 1 1 (task 0 9 0 0 ∷ task 0 131_072 0 0 ∷ [])) 20 (not_written 12 1)
    ∷ writes (table 1 1 (task 0 9 0 0 ∷ task 0 9 16_384 0 ∷ [])) 20 (not_written 12 1)
    ∷ writes (table 1 1 (task 0 9 0 0 ∷ task 0 9 0 16_384 ∷ task 0 9 0 16_384 ∷ [])) 28 (not_written 12 1)
    -- task 0 has a bad window, task 1 is too wide: 12 before 6
    ∷ writes (table 1 1 (task 9 0 0 0 ∷ task 0 9 16_384 0 ∷ [])) 20 (not_written 12 1)
    -- 6, the position; and where the release is the last frame, which is not too wide
    ∷ writes (table 1 1 (task 0 9 0 0 ∷ task 3 3 0 0 ∷ [])) 20 (not_written 6 1)
    ∷ writes (table 1 1 (task 131_071 131_071 0 0 ∷ [])) 12 (not_written 6 0)
    -- 6 before 7, which has the lower place
    ∷ writes neither_then_bad 35 (not_written 6 3)
    -- 7, the position, also into a list too short: 7 before 9
    ∷ writes crossed_at2 28 (not_written 7 2)
    ∷ writes crossed_at2 0 (not_written 7 2)
    -- 7 where document 01's place would be 1
    ∷ writes neither_table 28 (not_written 7 2)
    -- similar and not nested: accepted; and nested and not similar
    ∷ writes similar_table 28 (bytes_written 28)
    ∷ writes nested_table 43 (bytes_written 43)
    -- 9: a byte too short
    ∷ writes (table 1 1 (task 0 1 0 0 ∷ [])) 11 (not_written 9 0)
    -- places beyond the count are disregarded
    ∷ writes beyond_table 12 (bytes_written 12)
    -- what the list holds then: the file, and what stood beyond it; what it held on a refusal, 12 and 9
    ∷ writes_over beyond_table (replicate 14 255) (p4_file ++ 255 ∷ 255 ∷ [])
    ∷ writes_over (table 1 1 (task 0 131_072 0 0 ∷ [])) (replicate 14 255) (replicate 14 255)
    ∷ writes_over beyond_table (replicate 11 255) (replicate 11 255)
    ∷ []

-- Moving: reading, 10, 9. Here `negsuc k` is −(k + 1).
abbrev pub moving_rows : List Call
moving_rows =
    -- reading's refusal with its place, before 10 and 9
    moves long_file (negsuc 0) 0 (not_written 3 12)
    -- 7 before 10 and 9, where document 01's place would be 1
    ∷ moves neither_file (negsuc 0) 0 (not_written 7 2)
    -- 10, the position: below 0, where task 1 alone is moved there, and where both are
    ∷ moves two_tasks (negsuc 1) 20 (not_written 10 1)
    ∷ moves two_tasks (negsuc 2) 20 (not_written 10 0)
    -- above 131,071, and up to it
    ∷ moves two_tasks (pos 131_063) 20 (not_written 10 1)
    ∷ moves two_tasks (pos 131_062) 20 (bytes_written 20)
    -- down to 0
    ∷ moves two_tasks (negsuc 0) 20 (bytes_written 20)
    -- 10 before 9, and 9: a byte too short
    ∷ moves p8_file (negsuc 0) 0 (not_written 10 0)
    ∷ moves p8_file (pos 1) 27 (not_written 9 0)
    -- a similar table is moved; and one by no frame
    ∷ moves similar_file (pos 1) 28 (bytes_written 28)
    ∷ moves p8_file (pos 0) 28 (bytes_written 28)
    -- what the list holds then: the file of the moved table, both frames of each task one more, and what stood beyond it
    ∷ moves_over p8_file (pos 1) (replicate 30 255)
    (0x06 ∷ 0x00 ∷ 0x20 ∷ 0x02 ∷ 0x00 ∷ 0x01 ∷ 0x00 ∷ 0x05 ∷ 0x80 ∷ 0x04 ∷ 0x00 ∷ 0x18 ∷ 0x00 ∷ 0x0C ∷ 0x00 ∷ 0x12 ∷ 0x00 ∷ 0x08 ∷ 0x00 ∷ 0x60 ∷ 0x00 ∷ 0x50
    ∷ 0x00 ∷ 0x38 ∷ 0x00 ∷ 0x20 ∷ 0x00 ∷ 0x80 ∷ 255 ∷ 255 ∷ [])
    -- p and q stay as they are
    ∷ moves_over p4_file (pos 1) (replicate 12 255) (0x02 ∷ 0x0C ∷ 0x80 ∷ 0x02 ∷ 0x00 ∷ 0x01 ∷ 0x00 ∷ 0x01 ∷ 0x80 ∷ 0xC8 ∷ 0x01 ∷ 0x90 ∷ [])
    -- down to frame 0, and up to frame 131,071
    ∷ moves_over two_tasks (negsuc 0) (replicate 20 255)
    (0x04 ∷ 0x00 ∷ 0x20 ∷ 0x02 ∷ 0x00 ∷ 0x01 ∷ 0x00 ∷ 0x03 ∷ 0x80 ∷ 0x00 ∷ 0x00 ∷ 0x00 ∷ 0x00 ∷ 0x00 ∷ 0x00 ∷ 0x10 ∷ 0x00 ∷ 0x00 ∷ 0x00 ∷ 0x00 ∷ [])
    ∷ moves_over two_tasks (pos 131_062) (replicate 20 255)
    (0x04 ∷ 0x00 ∷ 0x20 ∷ 0x03 ∷ 0xFF ∷ 0xF8 ∷ 0xFF ∷ 0xFF ∷ 0x00 ∷ 0x00 ∷ 0x00 ∷ 0x07 ∷ 0xFF ∷ 0xDF ∷ 0xFF ∷ 0xFE ∷ 0x00 ∷ 0x00 ∷ 0x00 ∷ 0x00 ∷ [])
    -- what it held on a refusal: reading's, 10, 9
    ∷ moves_over long_file (pos 0) (replicate 14 255) (replicate 14 255)
    ∷ moves_over two_tasks (negsuc 1) (replicate 20 255) (replicate 20 255)
    ∷ moves_over p8_file (pos 1) (replicate 27 255) (replicate 27 255)
    ∷ []

-- Planning: reading, 8, 9; the launch tick is 0 but where it is said. Two tasks need 2 marks and 3 runs, three tasks 3 marks and 5 runs.
abbrev pub planning_rows : List Call
planning_rows =
    -- reading's refusal with its place, before 9, and before 8: task 0 exceeds its window, and the table is of neither kind
    unplanned long_file 0 (lists 0 0 0 0) 3 12
    ∷ unplanned (file_of (table 1 1 (task 0 5 6 0 ∷ task 3 9 0 0 ∷ task 4 6 0 0 ∷ []))) 0 (lists 3 5 5 5) 7 2
    -- without its last task the table is similar: 8
    ∷ unplanned (file_of (table 1 1 (task 0 5 6 0 ∷ task 3 9 0 0 ∷ []))) 0 (lists 2 3 3 3) 8 0
    -- 8, the position of the first task in nest order that exceeds
    ∷ unplanned outermost_exceeds 0 (lists 3 5 5 5) 8 1
    ∷ unplanned innermost_exceeds 0 (lists 3 5 5 5) 8 1
    -- in a similar table the position of the first task in similar order that can't be met: it is the last there, and it is the first of two
    ∷ unplanned last_late 0 (lists 3 5 5 5) 8 0
    ∷ unplanned both_late 0 (lists 2 3 3 3) 8 1
    -- 8 before 9, in a nested and in a similar table
    ∷ unplanned outermost_exceeds 0 (lists 0 0 0 0) 8 1
    ∷ unplanned late_file 0 (lists 0 0 0 0) 8 2
    -- 9: the marks and each column of the runs one short
    ∷ unplanned p8_file 0 (lists 2 5 5 5) 9 0
    ∷ unplanned p8_file 0 (lists 3 4 5 5) 9 0
    ∷ unplanned p8_file 0 (lists 3 5 4 5) 9 0
    ∷ unplanned p8_file 0 (lists 3 5 5 4) 9 0
    -- 9 in a similar table too, where 2n − 2 runs would do for this plan, and with 2n − 1 it is planned
    ∷ unplanned tie_file 0 (lists 2 2 2 2) 9 0
    ∷ plans tie_file 0 (lists 2 3 3 3) (plan_with 1 1 2) (lists_of (0 ∷ 1 ∷ []) (1 ∷ 2 ∷ 90 ∷ []) (2 ∷ 6 ∷ 91 ∷ []) (0 ∷ 1 ∷ 92 ∷ []))
    -- what the lists hold after a plan: its marks and runs, and what stood beyond them; P8, the similar table and P8 at launch 10, a plan without a run
    ∷ plans p8_file 0 (lists 5 7 6 8) (plan_with 1 2 5)
    (lists_of (1 ∷ 0 ∷ 0 ∷ 9 ∷ 9 ∷ []) (3 ∷ 5 ∷ 6 ∷ 7 ∷ 8 ∷ 90 ∷ 90 ∷ []) (5 ∷ 6 ∷ 7 ∷ 8 ∷ 10 ∷ 91 ∷ []) (0 ∷ 2 ∷ 0 ∷ 1 ∷ 0 ∷ 92 ∷ 92 ∷ 92 ∷ []))
    ∷ plans tie_file 10 (lists 3 4 3 5) (plan_with 1 1 2)
    (lists_of (0 ∷ 1 ∷ 9 ∷ []) (11 ∷ 12 ∷ 90 ∷ 90 ∷ []) (12 ∷ 16 ∷ 91 ∷ []) (0 ∷ 1 ∷ 92 ∷ 92 ∷ 92 ∷ []))
    ∷ plans p8_file 10 (lists 3 5 5 5) (plan_with 1 2 5)
    (lists_of (1 ∷ 0 ∷ 0 ∷ []) (13 ∷ 15 ∷ 16 ∷ 17 ∷ 18 ∷ []) (15 ∷ 16 ∷ 17 ∷ 18 ∷ 20 ∷ []) (0 ∷ 2 ∷ 0 ∷ 1 ∷ 0 ∷ []))
    ∷ plans empty_file 0 (lists 2 1 2 3) (plan_with 0 1 0) (lists_of (0 ∷ 9 ∷ []) (90 ∷ []) (91 ∷ 91 ∷ []) (92 ∷ 92 ∷ 92 ∷ []))
    -- the line printed of a refusal
    ∷ prints_plan (at_zero outermost_exceeds) (text_of ("REFUSED 8 1" ∷ []))
    ∷ prints_plan (at_zero long_file) (text_of ("REFUSED 3 12" ∷ []))
    ∷ []

-- Judging with launch 0: reading, 11, 13; in 11 the length goes first.
abbrev pub judging_rows : List Call
judging_rows =
    -- reading's refusal with its place
    judges long_file 0 [] [] (not_judged 3 12)
    -- 7 before 11, where document 01's place would be 1
    ∷ judges neither_file 0 [] [] (not_judged 7 2)
    -- 11, the task count: a keep list too short and one too long, whatever its marks
    ∷ judges p8_file 0 (2 ∷ 1 ∷ []) [] (not_judged 11 3)
    ∷ judges p8_file 0 (1 ∷ 2 ∷ 1 ∷ 1 ∷ []) [] (not_judged 11 3)
    -- 11, the first mark above 1: the first of all, one of two, and the last
    ∷ judges p8_file 0 (2 ∷ 1 ∷ 1 ∷ []) [] (not_judged 11 0)
    ∷ judges p8_file 0 (1 ∷ 2 ∷ 2 ∷ []) [] (not_judged 11 1)
    ∷ judges p8_file 0 (0 ∷ 1 ∷ 255 ∷ []) [] (not_judged 11 2)
    -- 11 before 13
    ∷ judges p8_file 0 (1 ∷ 2 ∷ 1 ∷ []) (replicate 4_097 empty_run) (not_judged 11 1)
    -- 13: 4,097 runs
    ∷ judges p8_file 0 p8_marks (replicate 4_097 empty_run) (not_judged 13 0)
    -- a similar table, ticks 1 to 5 and 2 to 6: yes with its counts for the planner's plan, and for another that keeps the other part and runs late
    ∷ judges tie_file 0 (0 ∷ 1 ∷ []) (run 1 2 0 ∷ run 2 6 1 ∷ []) (judged_yes 1 1)
    ∷ judges tie_file 0 (1 ∷ 0 ∷ []) (run 3 5 0 ∷ run 5 6 1 ∷ []) (judged_yes 1 1)
    -- no for a run outside its window: task 1 before its release, task 0 after its deadline
    ∷ judges tie_file 0 (1 ∷ 0 ∷ []) (run 1 2 1 ∷ run 2 4 0 ∷ []) judged_no
    ∷ judges tie_file 0 (1 ∷ 0 ∷ []) (run 2 3 1 ∷ run 4 6 0 ∷ []) judged_no
    -- frames 0 to 2 at period 100/1 are the ticks 100 to 200: yes for a run of all of them, no for one a tick earlier, which begins in frame 0, and for one
    -- a tick later
    ∷ judges p4_file 0 (0 ∷ []) (run 100 200 0 ∷ []) (judged_yes 0 1)
    ∷ judges p4_file 0 (0 ∷ []) (run 99 199 0 ∷ []) judged_no
    ∷ judges p4_file 0 (0 ∷ []) (run 101 201 0 ∷ []) judged_no
    -- two runs of one task may touch; no where a start is not below its end, though all else holds: a run without a tick, and one that is reversed
    ∷ judges p4_file 0 (0 ∷ []) (run 100 150 0 ∷ run 150 200 0 ∷ []) (judged_yes 0 1)
    ∷ judges p4_file 0 (0 ∷ []) (run 100 200 0 ∷ run 200 200 0 ∷ []) judged_no
    ∷ judges p4_file 0 (0 ∷ []) (run 100 200 0 ∷ run 200 199 0 ∷ []) judged_no
    -- no for a task that the table has not
    ∷ judges p4_file 0 (0 ∷ []) (run 100 200 0 ∷ run 200 201 1 ∷ []) judged_no
    -- no where a run starts before the one before it ends, though all else holds: by one tick, and where the later run is listed first
    ∷ judges tie_file 0 (1 ∷ 0 ∷ []) (run 1 3 0 ∷ run 3 4 1 ∷ []) (judged_yes 1 1)
    ∷ judges tie_file 0 (1 ∷ 0 ∷ []) (run 1 3 0 ∷ run 2 3 1 ∷ []) judged_no
    ∷ judges tie_file 0 (1 ∷ 0 ∷ []) (run 3 4 1 ∷ run 1 3 0 ∷ []) judged_no
    -- no where a task has a tick less than its work, and a tick more
    ∷ judges tie_file 0 (1 ∷ 0 ∷ []) (run 1 2 0 ∷ run 3 4 1 ∷ []) judged_no
    ∷ judges tie_file 0 (1 ∷ 0 ∷ []) (run 1 3 0 ∷ run 3 5 1 ∷ []) judged_no
    -- an optional part of 0 ticks, that of task 0, enters neither count, and a mark of 1 or 0 for it is equally good
    ∷ judges zero_optional 0 (1 ∷ 1 ∷ []) (run 1 3 0 ∷ run 3 5 1 ∷ []) (judged_yes 1 0)
    ∷ judges zero_optional 0 (0 ∷ 1 ∷ []) (run 1 3 0 ∷ run 3 5 1 ∷ []) (judged_yes 1 0)
    ∷ judges zero_optional 0 (1 ∷ 0 ∷ []) (run 1 3 0 ∷ run 3 4 1 ∷ []) (judged_yes 0 1)
    ∷ judges zero_optional 0 (0 ∷ 0 ∷ []) (run 1 3 0 ∷ run 3 4 1 ∷ []) (judged_yes 0 1)
    -- P8: yes for its plan, no for the one that document 01's clock would give
    ∷ judges p8_file 0 p8_marks p8_runs (judged_yes 1 2)
    ∷ judges p8_file 0 (1 ∷ 0 ∷ 1 ∷ []) (run 2 4 0 ∷ run 4 6 2 ∷ run 6 7 0 ∷ run 7 8 1 ∷ run 8 10 0 ∷ []) judged_no
    -- an empty window, release tick 3 and deadline tick 2, and no mandatory tick: yes without a run, no for a run at either tick
    ∷ judges empty_file 0 (0 ∷ []) [] (judged_yes 0 1)
    ∷ judges empty_file 0 (1 ∷ []) (run 2 3 0 ∷ []) judged_no
    ∷ judges empty_file 0 (1 ∷ []) (run 3 4 0 ∷ []) judged_no
    ∷ []

-- The launch tick: 14, place 0, above 86,399,999, after every refusal of reading and before 8, 9, 11 and 13.
abbrev pub launch_rows : List Call
launch_rows =
    -- planning: one tick above the limit, and the greatest number of 32 bits
    unplanned p8_file 86_400_000 (lists 3 5 5 5) 14 0
    ∷ unplanned p8_file 4_294_967_295 (lists 3 5 5 5) 14 0
    -- reading's refusals before 14: 1, 2, 3, 4, 5, 6, 7
    ∷ unplanned [] 86_400_000 (lists 0 0 0 0) 1 0
    ∷ unplanned (replicate 4 0) 86_400_000 (lists 0 0 0 0) 2 0
    ∷ unplanned long_file 86_400_000 (lists 0 0 0 0) 3 12
    ∷ unplanned (ending 0x91 p4_file) 86_400_000 (lists 0 0 0 0) 4 0
    ∷ unplanned (file_of (table 4 5 (task 0 2 0 0 ∷ []))) 86_400_000 (lists 0 0 0 0) 5 0
    ∷ unplanned (file_of (table 1 1 (task 0 9 0 0 ∷ task 3 3 0 0 ∷ []))) 86_400_000 (lists 0 0 0 0) 6 1
    ∷ unplanned neither_file 86_400_000 (lists 0 0 0 0) 7 2
    -- 14 before 8, and before 9
    ∷ unplanned outermost_exceeds 86_400_000 (lists 3 5 5 5) 14 0
    ∷ unplanned p8_file 86_400_000 (lists 0 0 0 0) 14 0
    -- at the limit: 8 in a nested and in a similar table and 9, as with launch 0
    ∷ unplanned outermost_exceeds 86_399_999 (lists 3 5 5 5) 8 1
    ∷ unplanned late_file 86_399_999 (lists 3 5 5 5) 8 2
    ∷ unplanned p8_file 86_399_999 (lists 2 5 5 5) 9 0
    -- judging: reading's refusal before 14
    ∷ judges neither_file 86_400_000 [] [] (not_judged 7 2)
    -- 14, before 11 and before 13
    ∷ judges tie_file 86_400_000 (0 ∷ 1 ∷ []) (run 86_400_001 86_400_002 0 ∷ run 86_400_002 86_400_006 1 ∷ []) (not_judged 14 0)
    ∷ judges p8_file 86_400_000 (2 ∷ 1 ∷ []) [] (not_judged 14 0)
    ∷ judges p8_file 86_400_000 p8_marks (replicate 4_097 empty_run) (not_judged 14 0)
    -- at the limit: yes for the plan that lies later by it, which with launch 0 gets a no, and no for the plan of launch 0
    ∷ judges tie_file 86_399_999 (0 ∷ 1 ∷ []) (run 86_400_000 86_400_001 0 ∷ run 86_400_001 86_400_005 1 ∷ []) (judged_yes 1 1)
    ∷ judges tie_file 0 (0 ∷ 1 ∷ []) (run 86_400_000 86_400_001 0 ∷ run 86_400_001 86_400_005 1 ∷ []) judged_no
    ∷ judges tie_file 86_399_999 (0 ∷ 1 ∷ []) (run 1 2 0 ∷ run 2 6 1 ∷ []) judged_no
    -- the program's input: fewer than 4 bytes get 1 with the input's length; from 4 bytes on 1 has the length of the file that follows them
    ∷ prints_plan [] (text_of ("REFUSED 1 0" ∷ []))
    ∷ prints_plan (0x05 ∷ 0x26 ∷ 0x5C ∷ []) (text_of ("REFUSED 1 3" ∷ []))
    ∷ prints_plan (at_zero []) (text_of ("REFUSED 1 0" ∷ []))
    ∷ prints_plan (at_zero (take 11 p4_file)) (text_of ("REFUSED 1 11" ∷ []))
    -- high byte first: 05 26 5C 00 is 86,400,000, 05 26 5B FF is 86,399,999, and 00 5C 26 05 is 6,039,045
    ∷ prints_plan (0x05 ∷ 0x26 ∷ 0x5C ∷ 0x00 ∷ outermost_exceeds) (text_of ("REFUSED 14 0" ∷ []))
    ∷ prints_plan (0x05 ∷ 0x26 ∷ 0x5B ∷ 0xFF ∷ outermost_exceeds) (text_of ("REFUSED 8 1" ∷ []))
    ∷ prints_plan (0x00 ∷ 0x5C ∷ 0x26 ∷ 0x05 ∷ outermost_exceeds) (text_of ("REFUSED 8 1" ∷ []))
    ∷ []

-- Busy count: 13, then 15.
abbrev pub busy_rows : List Call
busy_rows =
    -- 13: 4,097 runs, also where 15 has its cause, and whatever the interval
    busy_counts (replicate 4_097 (run 0 1 0)) 0 9 (not_counted 13 0)
    ∷ busy_counts (replicate 4_097 empty_run) 9 0 (not_counted 13 0)
    -- 15, the index of the first run that is out of order: one without a tick, one that is reversed, one that starts before the previous end
    ∷ busy_counts (run 2 2 0 ∷ run 6 4 0 ∷ run 3 7 1 ∷ run 6 8 0 ∷ []) 0 9 (not_counted 15 0)
    ∷ busy_counts (run 0 1 0 ∷ run 4 3 0 ∷ []) 0 9 (not_counted 15 1)
    ∷ busy_counts (run 0 1 0 ∷ run 1 3 0 ∷ run 2 4 1 ∷ run 4 4 0 ∷ []) 0 9 (not_counted 15 2)
    -- two runs of all ticks of the interval, whose sum would be twice its length
    ∷ busy_counts (run 0 10 0 ∷ run 0 10 1 ∷ []) 5 10 (not_counted 15 1)
    -- later runs first
    ∷ busy_counts (run 8 10 0 ∷ run 5 6 0 ∷ run 2 4 0 ∷ []) 3 9 (not_counted 15 1)
    -- before a and b are looked at: where a is not below b, and where the interval shares no tick with any run
    ∷ busy_counts (run 3 5 0 ∷ run 4 6 1 ∷ []) 5 5 (not_counted 15 1)
    ∷ busy_counts (run 3 5 0 ∷ run 4 6 1 ∷ []) 9 0 (not_counted 15 1)
    ∷ busy_counts (run 3 5 0 ∷ run 4 6 1 ∷ []) 7 9 (not_counted 15 1)
    -- lists that are accepted: all ticks of touching runs, the length of an interval within them, one tick on each side of a gap, and no run
    ∷ busy_counts (run 3 5 0 ∷ run 5 6 2 ∷ run 6 9 0 ∷ []) 0 20 (counted_ticks 6)
    ∷ busy_counts (run 3 5 0 ∷ run 5 6 2 ∷ run 6 9 0 ∷ []) 4 8 (counted_ticks 4)
    ∷ busy_counts (run 3 5 0 ∷ run 8 10 4_294_967_295 ∷ []) 4 9 (counted_ticks 2)
    ∷ busy_counts [] 0 9 (counted_ticks 0)
    -- an interval without a tick
    ∷ busy_counts (run 3 7 1 ∷ []) 5 5 (counted_ticks 0)
    ∷ busy_counts (run 3 7 1 ∷ []) 9 0 (counted_ticks 0)
    ∷ []

-- The run list that the queries below are about: the second run begins where the first ends, and then two ticks are free.
abbrev pub asked_runs : List Run
asked_runs = run 3 5 0 ∷ run 5 6 2 ∷ run 8 10 1 ∷ []

-- Queries: 13, then 15.
abbrev pub query_rows : List Call
query_rows =
    -- 13: 4,097 runs, also where 15 has its cause
    checks (replicate 4_097 empty_run) 13 0
    -- 15, the index of the first run that is out of order: one without a tick, one that is reversed, one that starts before the previous end
    ∷ checks (run 3 3 0 ∷ []) 15 0
    ∷ checks (run 0 1 0 ∷ run 4 3 0 ∷ []) 15 1
    ∷ checks (run 0 1 0 ∷ run 1 3 0 ∷ run 2 4 1 ∷ run 4 4 0 ∷ []) 15 2
    -- a list that is accepted: runs may touch, and so may two of one task; a task that no table has is no fault
    ∷ checks (run 0 1 0 ∷ run 1 3 0 ∷ run 3 4 4_294_967_295 ∷ []) 0 0
    ∷ checks [] 0 0
    -- the run at a tick: none before the first, at its start, at its last tick; at its end the next run has the tick; none in a gap and none after the last
    ∷ asks_at asked_runs 2 (0 ∷ 0 ∷ 0 ∷ 0 ∷ 0 ∷ 0 ∷ [])
    ∷ asks_at asked_runs 3 (0 ∷ 0 ∷ 1 ∷ 3 ∷ 5 ∷ 0 ∷ [])
    ∷ asks_at asked_runs 4 (0 ∷ 0 ∷ 1 ∷ 3 ∷ 5 ∷ 0 ∷ [])
    ∷ asks_at asked_runs 5 (0 ∷ 0 ∷ 1 ∷ 5 ∷ 6 ∷ 2 ∷ [])
    ∷ asks_at asked_runs 6 (0 ∷ 0 ∷ 0 ∷ 0 ∷ 0 ∷ 0 ∷ [])
    ∷ asks_at asked_runs 10 (0 ∷ 0 ∷ 0 ∷ 0 ∷ 0 ∷ 0 ∷ [])
    -- refusals, with no run
    ∷ asks_at (run 3 5 0 ∷ run 4 6 1 ∷ []) 3 (15 ∷ 1 ∷ 0 ∷ 0 ∷ 0 ∷ 0 ∷ [])
    ∷ asks_at (replicate 4_097 empty_run) 3 (13 ∷ 0 ∷ 0 ∷ 0 ∷ 0 ∷ 0 ∷ [])
    -- the first run that starts at a tick or after it
    ∷ asks_from asked_runs 0 (0 ∷ 0 ∷ 1 ∷ 3 ∷ 5 ∷ 0 ∷ [])
    ∷ asks_from asked_runs 3 (0 ∷ 0 ∷ 1 ∷ 3 ∷ 5 ∷ 0 ∷ [])
    ∷ asks_from asked_runs 4 (0 ∷ 0 ∷ 1 ∷ 5 ∷ 6 ∷ 2 ∷ [])
    ∷ asks_from asked_runs 8 (0 ∷ 0 ∷ 1 ∷ 8 ∷ 10 ∷ 1 ∷ [])
    ∷ asks_from asked_runs 9 (0 ∷ 0 ∷ 0 ∷ 0 ∷ 0 ∷ 0 ∷ [])
    ∷ asks_from (run 3 5 0 ∷ run 4 6 1 ∷ []) 0 (15 ∷ 1 ∷ 0 ∷ 0 ∷ 0 ∷ 0 ∷ [])
    ∷ asks_from (replicate 4_097 empty_run) 0 (13 ∷ 0 ∷ 0 ∷ 0 ∷ 0 ∷ 0 ∷ [])
    -- the runs that share a tick with an interval: all of them, one by its last tick, one by its first, none where they touch at an end alone, none in a gap
    ∷ asks_touching asked_runs 0 100 0 asked_runs
    ∷ asks_touching asked_runs 4 5 0 (run 3 5 0 ∷ [])
    ∷ asks_touching asked_runs 4 6 0 (run 3 5 0 ∷ run 5 6 2 ∷ [])
    ∷ asks_touching asked_runs 5 9 1 (run 5 6 2 ∷ run 8 10 1 ∷ [])
    ∷ asks_touching asked_runs 0 3 0 []
    ∷ asks_touching asked_runs 10 12 0 []
    ∷ asks_touching asked_runs 6 8 0 []
    -- empty where a is not below b, and on a refusal
    ∷ asks_touching asked_runs 4 4 0 []
    ∷ asks_touching asked_runs 9 3 0 []
    ∷ asks_touching (run 3 5 0 ∷ run 4 6 1 ∷ []) 0 9 0 []
    ∷ asks_touching (replicate 4_097 empty_run) 0 9 0 []
    ∷ []

-- What is printed for a tick of P8's plan: the run that holds it, the next one, and the runs of the ticks from it on.
abbrev pub now_rows : List Call
now_rows =
    -- an input of fewer than 12 bytes gets 1 with its length; then 1 has the length of the file that follows them
    prints_now (replicate 11 0) (text_of ("REFUSED 1 11" ∷ []))
    ∷ prints_now (replicate 12 0) (text_of ("REFUSED 1 0" ∷ []))
    -- launch 0, tick 4 and the 4 ticks from it on
    ∷ prints_now (now_input 0 4 4 p8_file)
    (text_of ("NOW 3 5 0" ∷ "NEXT 5 6 2" ∷ "RUN 3 5 0" ∷ "RUN 5 6 2" ∷ "RUN 6 7 0" ∷ "RUN 7 8 1" ∷ []))
    -- launch 10, tick 15 and the tick itself: the next run starts there
    ∷ prints_now (now_input 10 15 1 p8_file) (text_of ("NOW 15 16 2" ∷ "NEXT 15 16 2" ∷ "RUN 15 16 2" ∷ []))
    -- before the first run, and no tick; after the last
    ∷ prints_now (now_input 0 2 0 p8_file) (text_of ("NOW NONE" ∷ "NEXT 3 5 0" ∷ []))
    ∷ prints_now (now_input 0 10 9 p8_file) (text_of ("NOW NONE" ∷ "NEXT NONE" ∷ []))
    -- a refusal
    ∷ prints_now (now_input 0 0 0 outermost_exceeds) (text_of ("REFUSED 8 1" ∷ []))
    ∷ []

-- A list that is lent to printing is long enough with 13,632 bytes, for every text; a text is not printed into a shorter one, which keeps its content.
abbrev pub length_rows : List Call
length_rows =
    limits max_line 71
    ∷ limits max_text 13_632
    ∷ prints_over (1 ∷ 2 ∷ 3 ∷ []) (replicate 13_631 255) 0 (replicate 13_631 255)
    ∷ prints_over (1 ∷ 2 ∷ 3 ∷ []) (replicate 13_632 255) 3 (1 ∷ 2 ∷ 3 ∷ replicate 13_629 255)
    -- the most bytes of a file, and how many are read: of a file, of an input of the program `plan`, and of one of the program `now`
    ∷ limits max_file 500
    ∷ limits file_bytes_read 501
    ∷ limits (input_bytes plan_front) 505
    ∷ limits (input_bytes now_front) 513
    ∷ []

-- Calls at a limit that are not refused.
abbrev pub limit_rows : List Call
limit_rows =
    -- 64 tasks are written
    writes (equal_tasks 64 1 1) 500 (bytes_written 500)
    -- 4,096 runs are judged; the first is empty, so the reply is no
    ∷ judges p8_file 0 p8_marks (replicate 4_096 empty_run) judged_no
    ∷ []

-- so many runs of one tick each, the first from a tick on and each other where the one before it ends
unfoldable pub tick_runs : ℕ → ℕ → List Run
tick_runs from zero = []
tick_runs from (suc n) = run from (suc from) 0 ∷ tick_runs (suc from) n

-- And four more, which are proved by laws: to compute them takes too long.
abbrev pub large_rows : List Call
large_rows =
    -- a plan at the greatest launch tick
    plans p8_file 86_399_999 (lists_for 3) (plan_with 1 2 5)
    (lists_of (1 ∷ 0 ∷ 0 ∷ []) (86_400_002 ∷ 86_400_004 ∷ 86_400_005 ∷ 86_400_006 ∷ 86_400_007 ∷ [])
    (86_400_004 ∷ 86_400_005 ∷ 86_400_006 ∷ 86_400_007 ∷ 86_400_009 ∷ [])
    (0 ∷ 2 ∷ 0 ∷ 1 ∷ 0 ∷ []))
    -- 64 tasks are read
    ∷ reads (file_of (equal_tasks 64 1 1)) 0 0 (equal_tasks 64 1 1)
    -- 4,096 runs are accepted, and counted: they hold every tick of the interval
    ∷ checks (tick_runs 0 4_096) 0 0
    ∷ busy_counts (tick_runs 0 4_096) 0 4_096 (counted_ticks 4_096)
    ∷ []

-- the rows whose test is computed, and all rows
abbrev pub computed_rows : List Call
computed_rows = limit_rows ++ reading_rows ++ writing_rows ++ moving_rows ++ planning_rows ++ judging_rows ++ launch_rows ++ busy_rows ++ query_rows ++ now_rows ++ length_rows

abbrev pub refusals : List Call
refusals = computed_rows ++ large_rows

-- Samples of weighted tables, as request 7 of document 02 has them: one table of calls with their whole replies. What is expected is written in plain numbers.
use Rattle.std.specs.Prelude.{ℕ, ◌-◌, ◌≡◌, List, [], ◌∷◌, ◌++◌, length, replicate}
use Rattle.table.specs.declared.Table.{Table}
use Rattle.table.specs.declared.Written.{Written}
use Rattle.table.specs.Answers.{number_of, place_of}
use Rattle.table.specs.TableSamples.{task, table}
use Rattle.weighted_file.specs.declared.Weighted.{Weighted}
use Rattle.weighted_file.specs.Weights.{max_weighted_file, weighted_bytes_read, file_of_weighted, weighted_read_reply, weighted_write_reply, weighted_written_over, weighted_read}
use Rattle.schedule.specs.declared.Judged.{Judged}
use Rattle.schedule.specs.declared.Run.{Run}
use Rattle.schedule.specs.Judging.{judge_reply}
use Rattle.plans.specs.declared.Planned.{Planned}
use Rattle.plans.specs.Planning.{LentLists, lists_for, plan_reply, lists_left}
use Rattle.samples.specs.Inputs.{run, lists_of, not_written, bytes_written, not_planned, plan_with, not_judged, judged_no, judged_yes}

-- a table with the weights of its tasks, by position: of its 64 places those beyond them are 0
abbrev pub weighted : Table → List ℕ → Weighted
weighted t weights = record { table = t; weights = weights ++ replicate (64 - length weights) 0 }

-- Tables with their files.

-- three windows, one inside the other: 0 to 11, 2 to 9 and 4 to 7, with the weights 1, 5 and 2
abbrev pub nested_table : Weighted
nested_table = weighted (table 1 1 (task 0 11 2 3 ∷ task 2 9 1 3 ∷ task 4 7 1 1 ∷ [])) (1 ∷ 5 ∷ 2 ∷ [])

abbrev pub nested_file : List ℕ
nested_file =
    0x06 ∷ 0x00 ∷ 0x20 ∷ 0x02 ∷ 0x00 ∷ 0x00 ∷ 0x00 ∷ 0x05 ∷ 0x80 ∷ 0x04 ∷ 0x00 ∷ 0x18 ∷ 0x80 ∷ 0x00 ∷ 0x80 ∷ 0x01 ∷ 0x20 ∷ 0x00 ∷ 0x80 ∷ 0x06 ∷
    0xA0 ∷ 0x00 ∷ 0x40 ∷ 0x00 ∷ 0x38 ∷ 0x00 ∷ 0x20 ∷ 0x00 ∷ 0x90 ∷ []

-- three equal windows of five ticks, with one part of 5 ticks and weight 5 and two of 2 ticks and weight 2
abbrev pub heavy_table : Weighted
heavy_table = weighted (table 1 1 (task 0 6 0 5 ∷ task 0 6 0 2 ∷ task 0 6 0 2 ∷ [])) (5 ∷ 2 ∷ 2 ∷ [])

abbrev pub heavy_file : List ℕ
heavy_file =
    0x06 ∷ 0x00 ∷ 0x20 ∷ 0x02 ∷ 0x00 ∷ 0x00 ∷ 0x00 ∷ 0x03 ∷ 0x00 ∷ 0x00 ∷ 0x00 ∷ 0x2A ∷ 0x80 ∷ 0x00 ∷ 0x00 ∷ 0x00 ∷ 0xC0 ∷ 0x00 ∷ 0x00 ∷ 0x04 ∷
    0x40 ∷ 0x00 ∷ 0x00 ∷ 0x00 ∷ 0x30 ∷ 0x00 ∷ 0x00 ∷ 0x01 ∷ 0x10 ∷ []

-- the first with all weights 1
abbrev pub even_table : Weighted
even_table = weighted (table 1 1 (task 0 11 2 3 ∷ task 2 9 1 3 ∷ task 4 7 1 1 ∷ [])) (1 ∷ 1 ∷ 1 ∷ [])

abbrev pub even_file : List ℕ
even_file =
    0x06 ∷ 0x00 ∷ 0x20 ∷ 0x02 ∷ 0x00 ∷ 0x00 ∷ 0x00 ∷ 0x05 ∷ 0x80 ∷ 0x04 ∷ 0x00 ∷ 0x18 ∷ 0x80 ∷ 0x00 ∷ 0x80 ∷ 0x01 ∷ 0x20 ∷ 0x00 ∷ 0x80 ∷ 0x06 ∷
    0x20 ∷ 0x00 ∷ 0x40 ∷ 0x00 ∷ 0x38 ∷ 0x00 ∷ 0x20 ∷ 0x00 ∷ 0x88 ∷ []

-- two equal windows of two ticks; the first task has no ticks and the weight 15
abbrev pub zero_table : Weighted
zero_table = weighted (table 1 1 (task 0 3 0 0 ∷ task 0 3 0 2 ∷ [])) (15 ∷ 1 ∷ [])

abbrev pub zero_file : List ℕ
zero_file =
    0x04 ∷ 0x00 ∷ 0x20 ∷ 0x02 ∷ 0x00 ∷ 0x00 ∷ 0x00 ∷ 0x01 ∷ 0x80 ∷ 0x00 ∷ 0x00 ∷ 0x07 ∷ 0x80 ∷ 0x00 ∷ 0x00 ∷ 0x00 ∷ 0x60 ∷ 0x00 ∷ 0x00 ∷ 0x04 ∷
    0x20 ∷ []

-- one task, period 100/1, frames 0 to 3, mandatory 100, optional 50, weight 7
abbrev pub single_table : Weighted
single_table = weighted (table 100 1 (task 0 3 100 50 ∷ [])) (7 ∷ [])

abbrev pub single_file : List ℕ
single_file =
    0x02 ∷ 0x0C ∷ 0x80 ∷ 0x02 ∷ 0x00 ∷ 0x00 ∷ 0x00 ∷ 0x01 ∷ 0x80 ∷ 0xC8 ∷ 0x01 ∷ 0x93 ∷ 0x80 ∷ []

-- a call, with what is given to it and its whole reply, and of lent lists what they hold then
pub data WeightedCall : Type 0 where
  -- the file of a weighted table
  files : Weighted → List ℕ → WeightedCall
  -- reading a file: the number and the place of the answer, and the weighted table
  reads : List ℕ → ℕ → ℕ → Weighted → WeightedCall
  -- writing a weighted table into a list of so many bytes
  writes : Weighted → ℕ → Written → WeightedCall
  -- writing a weighted table: what a lent list holds before, and then
  writes_over : Weighted → List ℕ → List ℕ → WeightedCall
  -- planning a file at a launch tick into lent lists: the reply, and what the lists hold then
  plans : List ℕ → ℕ → LentLists → Planned → LentLists → WeightedCall
  -- judging a file at a launch tick, a keep list and a run list
  judges : List ℕ → ℕ → List ℕ → List Run → Judged → WeightedCall
  -- a limit that contracts name, and its number
  limits : ℕ → ℕ → WeightedCall

-- what a call's row says of the definitions
abbrev pub WeightedSays : WeightedCall → Type 0
WeightedSays (files w file) = file_of_weighted w ≡ file
WeightedSays (reads file number place w) =
    (number_of (weighted_read_reply file).answer ≡ number)
    × (place_of (weighted_read_reply file).answer ≡ place)
    × ((weighted_read_reply file).weighted.table ≡ w.table)
    × ((weighted_read_reply file).weighted.weights ≡ w.weights)
WeightedSays (writes w room reply) = weighted_write_reply w room ≡ reply
WeightedSays (writes_over w out after) = weighted_written_over w out ≡ after
WeightedSays (plans file launch lists reply after) =
    (plan_reply launch (weighted_read file) lists ≡ reply) × (lists_left launch (weighted_read file) reply lists ≡ after)
WeightedSays (judges file launch marks runs reply) = judge_reply launch (weighted_read file) marks runs ≡ reply
WeightedSays (limits limit number) = limit ≡ number

-- the weighted table that is 0 throughout
abbrev pub nothing : Weighted
nothing = weighted (table 0 0 []) []

-- the table
abbrev pub weighted_rows : List WeightedCall
weighted_rows =
    -- the file of each table, which is read again
    files nested_table nested_file
    ∷ files heavy_table heavy_file
    ∷ files even_table even_file
    ∷ files zero_table zero_file
    ∷ files single_table single_file
    ∷ reads nested_file 0 0 nested_table
    ∷ reads zero_file 0 0 zero_table
    ∷ reads single_file 0 0 single_table
    -- reading: 1 for under 4 bytes, 2, 1, 3, 4, 5, 6, 16, 7; the length is that of 66 bits a task
    ∷ reads (0x02 ∷ 0x0C ∷ 0x80 ∷ []) 1 3 nothing
    ∷ reads (0x00 ∷ 0x0C ∷ 0x80 ∷ 0x02 ∷ 0x00 ∷ 0x00 ∷ 0x00 ∷ 0x01 ∷ 0x80 ∷ 0xC8 ∷ 0x01 ∷ 0x93 ∷ 0x80 ∷ []) 2 0 nothing
    ∷ reads (0x02 ∷ 0x0C ∷ 0x80 ∷ 0x02 ∷ 0x00 ∷ 0x00 ∷ 0x00 ∷ 0x01 ∷ 0x80 ∷ 0xC8 ∷ 0x01 ∷ 0x93 ∷ []) 1 12 nothing
    ∷ reads (single_file ++ 0 ∷ []) 3 13 nothing
    ∷ reads (0x02 ∷ 0x0C ∷ 0x80 ∷ 0x02 ∷ 0x00 ∷ 0x00 ∷ 0x00 ∷ 0x01 ∷ 0x80 ∷ 0xC8 ∷ 0x01 ∷ 0x93 ∷ 0x81 ∷ []) 4 0 nothing
    ∷ reads (0x02 ∷ 0x00 ∷ 0x00 ∷ 0x02 ∷ 0x00 ∷ 0x00 ∷ 0x00 ∷ 0x01 ∷ 0x80 ∷ 0xC8 ∷ 0x01 ∷ 0x90 ∷ 0x00 ∷ []) 5 0 nothing
    -- 6 before 16, and 16 for the lowest position, before 7
    ∷ reads (0x04 ∷ 0x00 ∷ 0x20 ∷ 0x02 ∷ 0x00 ∷ 0x00 ∷ 0x00 ∷ 0x02 ∷ 0x80 ∷ 0x02 ∷ 0x00 ∷ 0x08 ∷ 0x00 ∷ 0x02 ∷ 0x40 ∷ 0x01 ∷ 0x20 ∷ 0x00 ∷ 0x80 ∷ 0x02 ∷ 0x20 ∷ []) 6 1 nothing
    ∷ reads (0x04 ∷ 0x00 ∷ 0x20 ∷ 0x02 ∷ 0x00 ∷ 0x00 ∷ 0x00 ∷ 0x02 ∷ 0x80 ∷ 0x02 ∷ 0x00 ∷ 0x08 ∷ 0x00 ∷ 0x00 ∷ 0x40 ∷ 0x00 ∷ 0x60 ∷ 0x00 ∷ 0x80 ∷ 0x02 ∷ 0x00 ∷ []) 16 0 nothing
    ∷ reads (0x04 ∷ 0x00 ∷ 0x20 ∷ 0x02 ∷ 0x00 ∷ 0x00 ∷ 0x00 ∷ 0x02 ∷ 0x80 ∷ 0x02 ∷ 0x00 ∷ 0x08 ∷ 0x80 ∷ 0x01 ∷ 0x40 ∷ 0x01 ∷ 0x20 ∷ 0x00 ∷ 0x80 ∷ 0x02 ∷ 0x00 ∷ []) 16 1 nothing
    -- 7 for windows that follow one another: of weighted tables only nested ones are accepted
    ∷ reads (0x04 ∷ 0x00 ∷ 0x20 ∷ 0x02 ∷ 0x00 ∷ 0x00 ∷ 0x00 ∷ 0x02 ∷ 0x80 ∷ 0x02 ∷ 0x00 ∷ 0x08 ∷ 0x80 ∷ 0x01 ∷ 0x40 ∷ 0x01 ∷ 0x20 ∷ 0x00 ∷ 0x80 ∷ 0x02 ∷ 0x20 ∷ []) 7 1 nothing
    -- writing: 2, 5, 12, 6, 16, 7, 9
    ∷ writes (weighted (table 1 1 []) []) 13 (not_written 2 0)
    ∷ writes (weighted (table 1 2 (task 3 0 16384 0 ∷ [])) (0 ∷ [])) 13 (not_written 5 0)
    -- 12 does not look at weights
    ∷ writes (weighted (table 1 1 (task 0 3 1 1 ∷ task 3 0 16384 0 ∷ [])) (16 ∷ 0 ∷ [])) 21 (not_written 12 1)
    ∷ writes (weighted (table 1 1 (task 0 3 1 1 ∷ [])) (16 ∷ [])) 13 (not_written 16 0)
    ∷ writes (weighted (table 1 1 (task 0 3 1 1 ∷ task 3 3 1 1 ∷ [])) (0 ∷ 1 ∷ [])) 21 (not_written 6 1)
    ∷ writes (weighted (table 1 1 (task 0 5 1 1 ∷ task 5 9 1 1 ∷ [])) (1 ∷ 4294967295 ∷ [])) 21 (not_written 16 1)
    ∷ writes (weighted (table 1 1 (task 0 5 1 1 ∷ task 5 9 1 1 ∷ [])) (1 ∷ 15 ∷ [])) 0 (not_written 7 1)
    ∷ writes single_table 12 (not_written 9 0)
    ∷ writes single_table 13 (bytes_written 13)
    ∷ writes_over single_table (replicate 14 0xFF) (single_file ++ 0xFF ∷ [])
    ∷ writes_over single_table (replicate 12 0xFF) (replicate 12 0xFF)
    -- planning: the part of weight 1 is dropped, where fewest parts and least ticks would drop task 1's
    ∷ plans nested_file 0 (lists_for 3) (plan_with 2 1 4)
    (lists_of (0 ∷ 1 ∷ 1 ∷ []) (3 ∷ 5 ∷ 7 ∷ 9 ∷ 0 ∷ []) (5 ∷ 7 ∷ 9 ∷ 11 ∷ 0 ∷ []) (1 ∷ 2 ∷ 1 ∷ 0 ∷ 0 ∷ []))
    -- at a launch tick each run lies later by it
    ∷ plans nested_file 7 (lists_for 3) (plan_with 2 1 4)
    (lists_of (0 ∷ 1 ∷ 1 ∷ []) (10 ∷ 12 ∷ 14 ∷ 16 ∷ 0 ∷ []) (12 ∷ 14 ∷ 16 ∷ 18 ∷ 0 ∷ []) (1 ∷ 2 ∷ 1 ∷ 0 ∷ 0 ∷ []))
    -- two parts of weight 2 are dropped for one of weight 5: discarded is a count, and not the least
    ∷ plans heavy_file 0 (lists_for 3) (plan_with 1 2 1)
    (lists_of (1 ∷ 0 ∷ 0 ∷ []) (1 ∷ 0 ∷ 0 ∷ 0 ∷ 0 ∷ []) (6 ∷ 0 ∷ 0 ∷ 0 ∷ 0 ∷ []) (0 ∷ 0 ∷ 0 ∷ 0 ∷ 0 ∷ []))
    -- with all weights 1 the plan is that of the plain table: least ticks, then the outermost keeps
    ∷ plans even_file 0 (lists_for 3) (plan_with 2 1 5)
    (lists_of (1 ∷ 0 ∷ 1 ∷ []) (3 ∷ 5 ∷ 7 ∷ 8 ∷ 9 ∷ []) (5 ∷ 7 ∷ 8 ∷ 9 ∷ 11 ∷ []) (0 ∷ 2 ∷ 0 ∷ 1 ∷ 0 ∷ []))
    -- a part of no ticks weighs nothing, and is marked 1
    ∷ plans zero_file 0 (lists_for 2) (plan_with 1 0 1)
    (lists_of (1 ∷ 1 ∷ []) (1 ∷ 0 ∷ 0 ∷ []) (3 ∷ 0 ∷ 0 ∷ []) (1 ∷ 0 ∷ 0 ∷ []))
    -- reading's refusals, 14, 8, 9; a refusal leaves the lists
    ∷ plans (0x04 ∷ 0x00 ∷ 0x20 ∷ 0x02 ∷ 0x00 ∷ 0x00 ∷ 0x00 ∷ 0x02 ∷ 0x80 ∷ 0x02 ∷ 0x00 ∷ 0x08 ∷ 0x80 ∷ 0x01 ∷ 0x40 ∷ 0x01 ∷ 0x20 ∷ 0x00 ∷ 0x80 ∷ 0x02 ∷ 0x00 ∷ []) 86400000 (lists_for 2) (not_planned 16 1) (lists_for 2)
    ∷ plans nested_file 86400000 (lists_for 3) (not_planned 14 0) (lists_for 3)
    ∷ plans (0x02 ∷ 0x00 ∷ 0x20 ∷ 0x02 ∷ 0x00 ∷ 0x00 ∷ 0x00 ∷ 0x01 ∷ 0x80 ∷ 0x06 ∷ 0x00 ∷ 0x08 ∷ 0x80 ∷ []) 0 (lists_of [] [] [] []) (not_planned 8 0) (lists_of [] [] [] [])
    ∷ plans nested_file 0 (lists_for 2) (not_planned 9 0) (lists_for 2)
    -- judging: reading's refusals, 14, 11, 13; the counts are those of parts
    ∷ judges nested_file 0 (0 ∷ 1 ∷ 1 ∷ []) (run 3 5 1 ∷ run 5 7 2 ∷ run 7 9 1 ∷ run 9 11 0 ∷ []) (judged_yes 2 1)
    ∷ judges nested_file 0 (1 ∷ 1 ∷ 1 ∷ []) (run 3 5 1 ∷ run 5 7 2 ∷ run 7 9 1 ∷ run 9 11 0 ∷ []) judged_no
    ∷ judges nested_file 0 (0 ∷ 1 ∷ []) (run 3 5 1 ∷ run 5 7 2 ∷ run 7 9 1 ∷ run 9 11 0 ∷ []) (not_judged 11 3)
    ∷ judges nested_file 86400000 (0 ∷ 1 ∷ []) (run 3 5 1 ∷ run 5 7 2 ∷ run 7 9 1 ∷ run 9 11 0 ∷ []) (not_judged 14 0)
    ∷ judges (0x04 ∷ 0x00 ∷ 0x20 ∷ 0x02 ∷ 0x00 ∷ 0x00 ∷ 0x00 ∷ 0x02 ∷ 0x80 ∷ 0x02 ∷ 0x00 ∷ 0x08 ∷ 0x80 ∷ 0x01 ∷ 0x40 ∷ 0x01 ∷ 0x20 ∷ 0x00 ∷ 0x80 ∷ 0x02 ∷ 0x20 ∷ []) 0 (0 ∷ 0 ∷ []) [] (not_judged 7 1)
    -- the most bytes of a file, and how many of one are read
    ∷ limits max_weighted_file 532
    ∷ limits weighted_bytes_read 533
    ∷ []

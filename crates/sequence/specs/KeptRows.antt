-- For the proofs of sequencing's code alone: what the code holds of the rows of similar jobs. The rows of all jobs stand in one list, one after the
-- other: the row of the jobs from place k on stands from place 65 k on, and the row of no job after those of all.
use Rattle.std.specs.Prelude.{ℕ, zero, suc, ◌+◌, ◌*◌, ◌-◌, ◌≤◌, ◌<◌, min, max, ◌≡◌, List, map, Bool, true, leb, ltb, length, get_or}
use Rattle.base.specs.Limits.{max_tasks}
use Rattle.base.specs.Tests.{pick, and}
use Rattle.base.specs.Arrays.{Rewritten}
use Rattle.schedule.specs.declared.Job.{Job}
use Rattle.schedule.specs.Jobs.{counts, work_with}
use Rattle.schedule.specs.JobArrays.{no_job}
use Rattle.choice.specs.Choice.{count_one}
use Rattle.choice.specs.Programme.{mandatory_sum, all_worth}
use Rattle.choice.specs.Decisions.{row_places, huge_ticks, jobs_from}
use Rattle.sequence.specs.OrderRows.{earliest, read_back, most_worth}

-- the places of all rows: one row for each of the most tasks, and that of no job
abbrev pub all_row_places : ℕ
all_row_places = row_places * (max_tasks + 1)

-- the list that has one mark throughout. Where the one that keeps every part fits, no row is made.
abbrev pub same_marks : Bool → List Job → List Bool
same_marks keep jobs = map (λ job. keep) jobs

-- the row of some jobs, where each part counts 1
abbrev pub earliest_of : List Job → ℕ → ℕ
earliest_of = earliest count_one huge_ticks

-- the marks read back from it, for the worth v: every list that fits ends before huge
abbrev pub marks_back : List Job → ℕ → List Bool
marks_back jobs v = read_back count_one huge_ticks jobs v (huge_ticks - 1)

-- an end as it stands in a row: without the mandatory ticks that were run by then; what is left of it is waiting and kept optional ticks
unfoldable pub beside : ℕ → ℕ → ℕ
beside mandatory end = pick (ltb end huge_ticks) (end - mandatory) huge_ticks

-- where `ticks` end that are run from a time on, and not before `from`; huge where that is later than `room`
unfoldable pub limited_end : ℕ → ℕ → ℕ → ℕ → ℕ
limited_end from room ticks time = pick (leb (max time from + ticks) room) (max time from + ticks) huge_ticks

-- the limits of a job whose optional part is discarded, from those with it kept: where the job has no work, nothing is tested
unfoldable pub free_from : Job → ℕ → ℕ
free_from job from = pick (ltb 0 job.mandatory) from 0

unfoldable pub free_room : Job → ℕ → ℕ
free_room job room = pick (ltb 0 job.mandatory) room huge_ticks

-- the row of a job without an optional part, from the row of the jobs before it
abbrev pub row_without : ℕ → ℕ → (ℕ → ℕ) → ℕ → ℕ
row_without from room before v = limited_end from room 0 (before v)

-- and of one with an optional part: from one part less with it kept, and from as many with it discarded
unfoldable pub row_with : ℕ → ℕ → ℕ → ℕ → ℕ → (ℕ → ℕ) → ℕ → ℕ
row_with optional from room free freeTo before zero = limited_end free freeTo 0 (before 0)
row_with optional from room free freeTo before (suc v) = min (limited_end from room optional (before v)) (limited_end free freeTo 0 (before (suc v)))

-- the row of a job and those before it, from the limits of the job with its part kept and the row of those before
unfoldable pub next_row : Job → ℕ → ℕ → (ℕ → ℕ) → ℕ → ℕ
next_row job from room =
    pick (counts job)
    (row_with job.optional from room (free_from job from) (free_room job room))
    (row_without (free_from job from) (free_room job room))

-- a job is kept on the way back, at v parts: one without an optional part is, and any other where the part ends within the limits
unfoldable pub kept_beside : Job → ℕ → ℕ → (ℕ → ℕ) → ℕ → Bool
kept_beside job from room before v = pick (counts job) (and (ltb 0 v) (leb (max (before (v - 1)) from + job.optional) room)) true

-- the bound for the jobs before a job, without their mandatory ticks, from the job's room and the bound
unfoldable pub bound_beside : Job → Bool → ℕ → ℕ → ℕ
bound_beside job keep room bound = pick (ltb 0 (work_with job keep)) (room - pick keep job.optional 0) bound

-- the numbers that stand from a place on
abbrev pub numbers_from : List ℕ → ℕ → ℕ → ℕ
numbers_from rows first v = get_or rows (first + v) 0

-- a list of `size` places has room for the rows of `count` jobs, and for no more rows than those of the most jobs
abbrev pub RoomFor : ℕ → ℕ → Type 0
RoomFor count size = (row_places * (count + 1) ≤ size) × (size ≤ all_row_places)

-- no row is written yet: every number is huge
abbrev pub Blank : List ℕ → Type 0
Blank rows = (k : ℕ) → k < length rows → get_or rows k 0 ≡ huge_ticks

-- from job i on, the rows stand in their places, up to as many parts as there are jobs, each without the mandatory ticks of its jobs
pub record RowsKept (at : ℕ → Job) (count i : ℕ) (rows : List ℕ) : Type 0 where
  pub row : (k : ℕ) → i ≤ k → k ≤ count → (v : ℕ) → v ≤ count
      → get_or rows (row_places * k + v) 0 ≡ beside (mandatory_sum (jobs_from at count k)) (earliest_of (jobs_from at count k) v)

-- a row was written, up to `most` parts, at the places from `at` on; the row that it is made from stands one row further
abbrev pub RowPut : ((ℕ → ℕ) → ℕ → ℕ) → ℕ → ℕ → List ℕ → List ℕ → Type 0
RowPut next most at before after = Rewritten 0 (next (numbers_from before (at + row_places))) at 0 (most + 1) before after

-- the rows of some jobs, the most parts that a list that fits keeps, and all mandatory ticks
pub record RowsInPlace (jobs : List Job) (rows : List ℕ) (most mandatory : ℕ) : Type 0 where
  pub room : RoomFor (length jobs) (length rows)
  pub rows_kept : RowsKept (λ k. get_or jobs k no_job) (length jobs) 0 rows
  pub most_is : most ≡ most_worth count_one huge_ticks jobs
  pub most_within : most ≤ length jobs
  pub mandatory_is : mandatory ≡ mandatory_sum jobs

-- the number of the optional parts above 0 ticks of some jobs
abbrev pub PartsOf : List Job → ℕ → Type 0
PartsOf jobs parts = (parts ≡ all_worth count_one jobs) × (parts ≤ length jobs)

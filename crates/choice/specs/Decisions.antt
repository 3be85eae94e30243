-- For the proofs of choosing's, weighted_choosing's and sequencing's code alone: what the code holds of the rows. The numbers of the outermost row so far,
-- up to the most that a list that fits keeps, and what says where each job is kept on the way back: where each part counts 1, its rank.
use Rattle.std.specs.Prelude.{ℕ, ◌+◌, ◌-◌, ◌≤◌, ◌<◌, ◌≡◌, List, Bool, true, leb, ltb, length, get_or}
use Rattle.base.specs.Limits.{max_tasks}
use Rattle.base.specs.Tests.{pick}
use Rattle.base.specs.Places.{places_from}
use Rattle.schedule.specs.declared.Job.{Job}
use Rattle.choice.specs.Choice.{count_one}
use Rattle.schedule.specs.Jobs.{counts}
use Rattle.schedule.specs.JobArrays.{no_job}
use Rattle.choice.specs.Programme.{all_worth, keeping, row, backtrack}

-- the places of a row: one for each number of optional parts that a list can keep, 0 among them
abbrev pub row_places : ℕ
row_places = max_tasks + 1

-- what stands in a row where no list fits: more than any deadline, and so more than any window has ticks
abbrev pub huge_ticks : ℕ
huge_ticks = 1_073_741_824

-- the row of some jobs, over a worth of each optional part,
abbrev pub row_over : (Job → ℕ) → List Job → ℕ → ℕ
row_over worth = row worth huge_ticks

-- and where each part counts 1
abbrev pub row_of : List Job → ℕ → ℕ
row_of = row_over count_one

-- the marks read back from the row of some jobs, for the worth v,
abbrev pub back_over : (Job → ℕ) → List Job → ℕ → List Bool
back_over worth jobs v = backtrack worth huge_ticks jobs v (row_over worth jobs v)

-- and where each part counts 1
abbrev pub back_of : List Job → ℕ → List Bool
back_of = back_over count_one

-- a job is kept on the way back, at the worth v, where that takes no more ticks than to discard it
unfoldable pub keeps_over : (Job → ℕ) → Job → (ℕ → ℕ) → ℕ → Bool
keeps_over worth job inner v = leb (keeping worth huge_ticks job inner v) (inner v)

-- the jobs from place i on, of `count` jobs
abbrev pub jobs_from : (ℕ → Job) → ℕ → ℕ → List Job
jobs_from at count i = places_from at i (count - i)

-- a row is below huge at `top` last: no list that fits keeps more
pub record Last (numbers : ℕ → ℕ) (top : ℕ) : Type 0 where
  pub below : numbers top < huge_ticks
  pub beyond : (v : ℕ) → top < v → numbers v ≡ huge_ticks

-- a row goes up to `top` parts: no list that fits keeps more, and one keeps each number up to it
pub record Reaches (numbers : ℕ → ℕ) (top : ℕ) : Type 0 where
  pub below : (v : ℕ) → v ≤ top → numbers v < huge_ticks
  pub beyond : (v : ℕ) → top < v → numbers v ≡ huge_ticks

-- up to `top` the numbers don't fall, and no step from one to the next is less than the step before it
pub record Convex (numbers : ℕ → ℕ) (top : ℕ) : Type 0 where
  pub first : 1 ≤ top → numbers 0 ≤ numbers 1
  pub steps : (v : ℕ) → v + 2 ≤ top → numbers (v + 1) + numbers (v + 1) ≤ numbers v + numbers (v + 2)

-- above `rank` a part was put into a row that goes up to `top`: each number is the one before it and the part, which is no more than the number was
pub record PutAbove (optional top rank : ℕ) (before after : List ℕ) : Type 0 where
  pub same_length : length after ≡ length before
  pub within : rank ≤ top
  pub stays : (v : ℕ) → v ≤ rank → get_or after v 0 ≡ get_or before v 0
  pub put : (v : ℕ) → rank ≤ v → v ≤ top → get_or after (v + 1) 0 ≡ optional + get_or before v 0
  pub no_more : (v : ℕ) → rank ≤ v → v + 1 ≤ top → optional + get_or before v 0 ≤ get_or before (v + 1) 0

-- and the rank is the greatest place at which it would be more, or 0
abbrev pub PartAdded : ℕ → ℕ → ℕ → List ℕ → List ℕ → Type 0
PartAdded optional top rank before after =
    PutAbove optional top rank before after
    × (0 < rank → get_or before rank 0 < optional + get_or before (rank - 1) 0)

-- the optional part of a job was put into the row of the jobs inside it, with its rank; a part of no ticks changes nothing
abbrev pub JobAdded : Job → ℕ → ℕ → List ℕ → List ℕ → Type 0
JobAdded job top rank before after =
    (job.optional ≡ 0 → after ≡ before)
    × (0 < job.optional → PartAdded job.optional top rank before after)
    × (length after ≡ length before)

-- a job of some rank is kept on the way back, at the worth v, where its part has no ticks or v is above the rank
unfoldable pub keeps_above : Job → ℕ → ℕ → Bool
keeps_above job rank v = pick (counts job) (ltb rank v) true

-- from job i on, a test of place and worth says where a job is kept over the row of the jobs inside it, wherever a list of the job and those fits
pub record DecidedBy (worth : Job → ℕ) (at : ℕ → Job) (count i : ℕ) (test : ℕ → ℕ → Bool) : Type 0 where
  pub decided : (k : ℕ) → i ≤ k → k < count → (v : ℕ) → row_over worth (jobs_from at count k) v < huge_ticks
      → test k v ≡ keeps_over worth (at k) (row_over worth (jobs_from at count (k + 1))) v

-- and where each part counts 1, the rank of each job says it
abbrev pub Decided : (ℕ → Job) → ℕ → ℕ → List ℕ → Type 0
Decided at count i ranks = DecidedBy count_one at count i (λ k v. keeps_above (at k) (get_or ranks k 0) v)

-- the ranks of some jobs, the number of their optional parts above 0 ticks, and the most of them that a list that fits keeps
abbrev pub RowsMade : List Job → List ℕ → ℕ → ℕ → Type 0
RowsMade jobs ranks all most =
    Decided (λ k. get_or jobs k no_job) (length jobs) 0 ranks
    × Reaches (row_of jobs) most
    × (all ≡ all_worth count_one jobs)
    × (most ≤ length jobs)
    × (all ≤ length jobs)
    × (length ranks ≡ max_tasks)

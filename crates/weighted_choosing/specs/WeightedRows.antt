-- For the proofs of weighted_choosing's code alone: what the code holds of the rows, one number a weight, and of the decisions, one word a weight.
use Rattle.std.specs.Prelude.{ℕ, ◌+◌, ◌*◌, ◌/◌, ◌%◌, ◌^◌, ◌<◌, min, ◌≡◌, List, Bool, leb, eqb, length, get_or}
use Rattle.base.specs.Limits.{max_tasks, max_weight}
use Rattle.base.specs.Tests.{pick}
use Rattle.base.specs.Arrays.{Rewritten}
use Rattle.schedule.specs.declared.Job.{Job}
use Rattle.schedule.specs.JobArrays.{no_job}
use Rattle.choice.specs.Decisions.{huge_ticks, row_over, Last, DecidedBy}

-- the places of a row: one for each weight that a list can keep, 0 among them
abbrev pub weight_places : ℕ
weight_places = max_tasks * max_weight + 1

-- a number of ticks where there is room for them, and else huge
unfoldable pub held_to : ℕ → ℕ → ℕ
held_to room ticks = pick (leb ticks room) ticks huge_ticks

-- bit k of a word is set
abbrev pub bit_set : ℕ → ℕ → Bool
bit_set word k = eqb (word / 2 ^ k % 2) 1

-- `bit` where a test holds, and else 0
abbrev pub bit_where : Bool → ℕ → ℕ
bit_where test bit = pick test bit 0

-- The row with the ticks of a part added to each of its first `places` numbers stands behind as many places as the greatest weight. These stay huge, so
-- that from place max_weight - w on it is the row moved up by the weight w.
abbrev pub PartAddedTo : List ℕ → ℕ → ℕ → List ℕ → List ℕ → Type 0
PartAddedTo row optional places before after = Rewritten 0 (λ v. optional + get_or row v 0) max_weight 0 places before after

-- the part is kept at the weight v where that takes no more ticks than to discard it
abbrev pub kept_at : List ℕ → ℕ → List ℕ → ℕ → Bool
kept_at kept from row v = leb (get_or kept (from + v) 0) (get_or row v 0)

-- the numbers that are compared at the first `places` weights are below 2³¹, where signed and unsigned numbers are ordered alike
abbrev pub SignFree : List ℕ → ℕ → List ℕ → ℕ → Type 0
SignFree kept from row places = (v : ℕ) → v < places → (get_or kept (from + v) 0 < 2 ^ 31) × (get_or row v 0 < 2 ^ 31)

-- at the first `places` weights bit i is set where the part is kept
abbrev pub BitPut : List ℕ → ℕ → List ℕ → ℕ → ℕ → List ℕ → List ℕ → Type 0
BitPut kept from row i places before after = Rewritten 0 (λ v. get_or before v 0 + bit_where (kept_at kept from row v) (2 ^ i)) 0 0 places before after

-- and the lesser of the two is put into the row, where there is room for it
abbrev pub LesserPut : List ℕ → ℕ → ℕ → ℕ → List ℕ → List ℕ → Type 0
LesserPut kept from room places before after =
    Rewritten 0 (λ v. held_to room (min (get_or kept (from + v) 0) (get_or before v 0))) 0 0 places before after

-- The decisions of some jobs, and the greatest weight that a list that fits keeps.
pub record WeightsDecided (worth : Job → ℕ) (jobs : List Job) (decisions : List ℕ) (most : ℕ) : Type 0 where
  pub words : length decisions ≡ weight_places
  pub within : most < weight_places
  pub decided : DecidedBy worth (λ k. get_or jobs k no_job) (length jobs) 0 (λ k v. bit_set (get_or decisions v 0) k)
  pub last : Last (row_over worth jobs) most

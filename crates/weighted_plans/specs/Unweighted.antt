-- 'With all weights 1 the plan equals the unweighted one': document 02, 'Some smoothing matters more', as a clause of the weighted plan call.
use Rattle.std.specs.Prelude.{ℕ, ◌<◌, ◌≡◌, List}
use Rattle.table.specs.Answers.{Accepted}
use Rattle.table.specs.Reading.{plain_read}
use Rattle.table.specs.Writing.{file_of}
use Rattle.weighted_file.specs.declared.Weighted.{Weighted}
use Rattle.weighted_file.specs.Weights.{weight_at, weighted_in, weighted_answer}
use Rattle.plans.specs.declared.Planned.{Planned}
use Rattle.plans.specs.Planning.{LentLists, plan_reply, lists_left}

-- every weight of the table is 1
abbrev pub AllOne : Weighted → Type 0
AllOne w = (k : ℕ) → k < w.table.count → weight_at w k ≡ 1

-- the file of the table without its weights
abbrev pub unweighted_file : List ℕ → List ℕ
unweighted_file file = file_of (weighted_in file).table

-- a call replies and leaves in the lists what planning that file would
pub record SameAsUnweighted (launch : ℕ) (file : List ℕ) (reply : Planned) (before after : LentLists) : Type 0 where
  pub reply_is : reply ≡ plan_reply launch (plain_read (unweighted_file file)) before
  pub lists_are : after ≡ lists_left launch (plain_read (unweighted_file file)) reply before

-- the clause: so it is for every accepted file whose weights are all 1, refusals 14, 8 and 9 included
abbrev pub EqualsUnweighted : ℕ → List ℕ → Planned → LentLists → LentLists → Type 0
EqualsUnweighted launch file reply before after =
    weighted_answer file ≡ Accepted → AllOne (weighted_in file) → SameAsUnweighted launch file reply before after

-- What the searches find in the columns of a run list that the check accepts is where the definitions look in the list.
use Prim.Native.Nat.{ℕ, ◌+◌, ◌≤◌, ◌<◌}
use mathlib.Core.Path.{◌≡◌, ◌∙◌}
use mathlib.Core.Bool.{Bool, true, false}
use mathlib.Core.List.{List}
use native.Mathlib.Omega.{arith}
use lib.Dec.{leb, ltb}
use lib.ListN.{length, get_or}
use denote.Param.Members.{Mut}
use denote.Ref.{Bor}
use Rattle.std.specs.Fn.{Called, ComputesKey}
use Rattle.std.specs.List.Sorted.{IsPartitionedBy, IsPartitionPoint}
use Rattle.base.specs.Lowest.{lowest}
use Rattle.base.proofs.LowestLaws.{same}
use Rattle.schedule.specs.Runs.{runs_of}
use Rattle.schedule.specs.RunCheck.{Accepted, check_answer}
use Rattle.schedule.proofs.ColumnLaws.{columns_length, start_at_lem, end_at}
use Rattle.schedule.proofs.CheckLaws.{accepted_order, starts_rise, ends_rise}
use Rattle.schedule.proofs.SearchLaws.{ends_after, starts_from_at, first_ending, first_starting}
use Rattle.checking.proofs.PointLaws.{place_after, place_from}

module _ (starts ends tasks : List ℕ) where
  -- the first that ends after a tick, and the first that starts at it or after it
  pub ending_first : (tick : ℕ) → length starts ≡ length ends
      → lowest (λ k. leb (tick + 1) (get_or ends k 0)) (length ends) ≡ first_ending (runs_of starts ends tasks) tick
  ending_first tick e =
      rw (columns_length starts ends tasks, ← e)
      (same (λ k. leb (tick + 1) (get_or ends k 0)) (ends_after (runs_of starts ends tasks) tick) (length starts) (λ k l. rw (end_at starts ends tasks k l)))

  pub starting_first : (tick : ℕ) → lowest (λ k. leb tick (get_or starts k 0)) (length starts) ≡ first_starting (runs_of starts ends tasks) tick
  starting_first tick =
      rw (columns_length starts ends tasks)
      (same (λ k. leb tick (get_or starts k 0)) (starts_from_at (runs_of starts ends tasks) tick) (length starts) (λ k l. rw (start_at_lem starts ends tasks k l)))

  module _ (accepted : check_answer (runs_of starts ends tasks) ≡ Accepted) where
    -- the columns of an accepted list do not fall
    pub starts-column : (i k : ℕ) → i ≤ k → k < length starts → get_or starts i 0 ≤ get_or starts k 0
    starts-column i k l h =
        rw (← start_at_lem starts ends tasks i (omega arith), ← start_at_lem starts ends tasks k h)
        (starts_rise (runs_of starts ends tasks) (accepted_order (runs_of starts ends tasks) accepted) i k l (omega (arith, columns_length starts ends tasks)))

    pub ends-column : length starts ≡ length ends → (i k : ℕ) → i ≤ k → k < length ends → get_or ends i 0 ≤ get_or ends k 0
    ends-column e i k l h =
        rw (← end_at starts ends tasks i (omega arith), ← end_at starts ends tasks k (omega arith))
        (ends_rise (runs_of starts ends tasks) (accepted_order (runs_of starts ends tasks) accepted) i k l (omega (arith, columns_length starts ends tasks)))

    -- so `partition_point`, whose closure f makes the test, answers the first index whose run ends after the tick, or starts at it or after it
    pub ending_there : length starts ≡ length ends → {F : Type 0} → {g : Mut F (Bor ℕ × Unit {0}) Bool} → {f : F} → (tick i : ℕ) → i ≤ length ends
        → ((q : ℕ → Bool) → ComputesKey g q f → IsPartitionedBy q ends → IsPartitionPoint (λ end. q end ≡ true) (λ end. q end ≡ false) ends i)
        → ((a : Bor ℕ × Unit {0}) (r : Bool) (f' : F) → Called g f a r f' → (r ≡ leb a.0.now tick) × (f' ≡ f)) → i ≡ first_ending (runs_of starts ends tasks) tick
    ending_there e tick i within parted h = place_after 0 (λ (end : ℕ). end) ends (ends-column e) tick i within parted h ∙ ending_first tick e

    pub starting_there : {F : Type 0} → {g : Mut F (Bor ℕ × Unit {0}) Bool} → {f : F} → (tick i : ℕ) → i ≤ length starts
        → ((q : ℕ → Bool) → ComputesKey g q f → IsPartitionedBy q starts → IsPartitionPoint (λ start. q start ≡ true) (λ start. q start ≡ false) starts i)
        → ((a : Bor ℕ × Unit {0}) (r : Bool) (f' : F) → Called g f a r f' → (r ≡ ltb a.0.now tick) × (f' ≡ f)) → i ≡ first_starting (runs_of starts ends tasks) tick
    starting_there tick i within parted h = place_from 0 (λ (start : ℕ). start) starts starts-column tick i within parted h ∙ starting_first tick

-- What a search by halving finds in a run list that the check accepts is where the definitions look.
use Prim.Native.Nat.{ℕ, ◌+◌, ◌-◌, ◌≤◌, ◌<◌}
use mathlib.Core.Path.{◌≡◌, sym, ap, ◌∙◌}
use mathlib.Core.List.{List}
use mathlib.Core.Bool.{Bool, true, false, not}
use native.Mathlib.Omega.{arith}
use native.Mathlib.Decide.{dec_lt}
use lib.Dec.{leb, ltb}
use lib.ListN.{length, get_or}
use borrow.Author.Tests.{leb-true, leb-false, le-leb, lt-leb, lt-ltb, le-ltb, eq-eqb, ne_eqb}
use denote.Param.Members.{Mut}
use denote.Ref.{Bor}
use Rattle.std.specs.Prelude.{Option, Some, None, Ok, Err, MatchOption, slice_get, option_copied}
use Rattle.std.specs.Bool.{then_some}
use Rattle.std.specs.Fn.{Called, ComputesKey}
use Rattle.std.specs.Slice.{IsItemAt}
use Rattle.std.specs.List.Sorted.{IsPartitionedBy, IsPartitionPoint}
use Rattle.std.proofs.lemmas.Option.{slice_get-get_or, slice_get_past}
use Rattle.std.proofs.lemmas.List.Sorted.{IsPartitionedBy-leb, IsPartitionedBy-ltb, IsNonDecreasingBy-from_default, IsPartitionPoint-from_clause}
use Rattle.base.specs.Lowest.{lowest}
use Rattle.base.proofs.TestLaws.{cases, both_absurd}
use Rattle.base.proofs.LowestLaws.{before, passes, lowest_bound}
use Rattle.schedule.specs.declared.Run.{Run}
use Rattle.schedule.specs.Runs.{no_run}
use Rattle.schedule.specs.RunCheck.{Accepted, check_answer}
use Rattle.schedule.specs.declared.RunsRefusal.{RunsRefusal}
use Rattle.schedule.specs.declared.Stretch.{Stretch}
use Rattle.schedule.specs.Queries.{found_first, run_at_tick, run_from_tick, touches, stretch_of}
use Rattle.schedule.proofs.CheckLaws.{accepted_order, starts_rise, ends_rise}
use Rattle.schedule.proofs.SearchLaws.{first_ending, first_starting, at-found, at_ended, at-not-begun, from_found, from-started}
use Rattle.schedule.proofs.StretchLaws.{Stretched, interval_stretched, stretch_is}
use Rattle.schedule.proofs.QueryLaws.{touching_none}

-- where a test parts a list into the elements that pass and those that fail, the first that fails stands at the lowest such index
point_lowest : {X : Type 0} (none : X) (test : X → Bool) (fails : ℕ → Bool) (xs : List X) (i : ℕ) → i ≤ length xs
    → IsPartitionPoint (λ x. test x ≡ true) (λ x. test x ≡ false) xs i
    → ((k : ℕ) → fails k ≡ not (test (get_or xs k none))) → i ≡ lowest fails (length xs)
point_lowest none test fails xs i l p same =
    let n = length xs in
    let bound : lowest fails n ≤ n = lowest_bound fails n in
    elim (dec_lt (lowest fails n) i) [
      | yes m ↦
          both_absurd (fails (lowest fails n)) (passes fails n (omega arith))
          (same (lowest fails n) ∙ ap not (p.0 (lowest fails n) none (omega arith) m))
      | no m ↦
          elim (dec_lt i (lowest fails n)) [
            | yes q ↦ both_absurd (fails i) (same i ∙ ap not (p.1 i none (omega arith) (omega arith))) (before fails n i q)
            | no q ↦ omega arith
          ]
    ]

-- an end is after a tick where it is not at most the tick, and a start is at a tick or after it where it is not before it
after_not : (tick end : ℕ) → leb (tick + 1) end ≡ not (leb end tick)
after_not tick end =
    elim (dec_lt tick end) [
      | yes l ↦ rw (le-leb (tick + 1) end (omega arith), lt-leb end tick l)
      | no l ↦ rw (lt-leb (tick + 1) end (omega arith), le-leb end tick (omega arith))
    ]

from_not : (tick start : ℕ) → leb tick start ≡ not (ltb start tick)
from_not tick start =
    elim (dec_lt start tick) [
      | yes l ↦ rw (lt-leb tick start l, lt-ltb start tick l)
      | no l ↦ rw (le-leb tick start (omega arith), le-ltb start tick (omega arith))
    ]

-- Numbers of a list do not fall with the index, so these tests part it, and `partition_point`, whose closure f makes the test, answers the first index whose
-- number is after the tick, or is the tick or after it.
module _ {X : Type 0} (none : X) (number : X → ℕ) (xs : List X)
    (rise : (i k : ℕ) → i ≤ k → k < length xs → number (get_or xs i none) ≤ number (get_or xs k none))
    {F : Type 0} {g : Mut F (Bor X × Unit {0}) Bool} {f : F} (tick i : ℕ) (within : i ≤ length xs)
    (parted : (q : X → Bool) → ComputesKey g q f → IsPartitionedBy q xs → IsPartitionPoint (λ x. q x ≡ true) (λ x. q x ≡ false) xs i) where
  pub place_after : ((a : Bor X × Unit {0}) (r : Bool) (f' : F) → Called g f a r f' → (r ≡ leb (number a.0.now) tick) × (f' ≡ f))
      → i ≡ lowest (λ k. leb (tick + 1) (number (get_or xs k none))) (length xs)
  place_after h =
      point_lowest none (λ x. leb (number x) tick) (λ k. leb (tick + 1) (number (get_or xs k none))) xs i within
      (IsPartitionPoint-from_clause (λ x. leb (number x) tick) xs i parted
      (IsPartitionedBy-leb number xs tick (IsNonDecreasingBy-from_default number xs none rise)) h)
      (λ k. after_not tick (number (get_or xs k none)))

  pub place_from : ((a : Bor X × Unit {0}) (r : Bool) (f' : F) → Called g f a r f' → (r ≡ ltb (number a.0.now) tick) × (f' ≡ f))
      → i ≡ lowest (λ k. leb tick (number (get_or xs k none))) (length xs)
  place_from h =
      point_lowest none (λ x. ltb (number x) tick) (λ k. leb tick (number (get_or xs k none))) xs i within
      (IsPartitionPoint-from_clause (λ x. ltb (number x) tick) xs i parted
      (IsPartitionedBy-ltb number xs tick (IsNonDecreasingBy-from_default number xs none rise)) h)
      (λ k. from_not tick (number (get_or xs k none)))

module _ (runs : List Run) (accepted : check_answer runs ≡ Accepted) where
  -- of an accepted list starts and ends rise, so of its runs it answers the first that ends after the tick, or starts at it or after it
  module _ {F : Type 0} {g : Mut F (Bor Run × Unit {0}) Bool} {f : F} (tick i : ℕ) (within : i ≤ length runs)
      (parted : (q : Run → Bool) → ComputesKey g q f → IsPartitionedBy q runs → IsPartitionPoint (λ run. q run ≡ true) (λ run. q run ≡ false) runs i) where
    pub ending_place : ((a : Bor Run × Unit {0}) (r : Bool) (f' : F) → Called g f a r f' → (r ≡ leb a.0.now.end tick) × (f' ≡ f)) → i ≡ first_ending runs tick
    ending_place h = place_after no_run (λ (run : Run). run.end) runs (ends_rise runs (accepted_order runs accepted)) tick i within parted h

    pub starting_place : ((a : Bor Run × Unit {0}) (r : Bool) (f' : F) → Called g f a r f' → (r ≡ ltb a.0.now.start tick) × (f' ≡ f))
        → i ≡ first_starting runs tick
    starting_place h = place_from no_run (λ (run : Run). run.start) runs (starts_rise runs (accepted_order runs accepted)) tick i within parted h

  -- the run found behind those that have ended, kept where it has begun, is the one that holds the tick
  pub held_found : (tick i : ℕ) (there kept : Option Run) → i ≡ first_ending runs tick → there ≡ slice_get runs i
      → (Says : Run → Bool → Type 0) → ((run : Run) (b : Bool) → Says run b → b ≡ leb run.start tick)
      → MatchOption there (kept ≡ None) (λ run. (b : Bool) × Says run b × (kept ≡ then_some b run)) → Ok kept ≡ run_at_tick runs tick
  held_found tick i there kept e t Says begun m =
      elim (dec_lt i (length runs)) [
        | yes l ↦
            let run = get_or runs i no_run in
            let got : there ≡ Some run = t ∙ slice_get-get_or runs i no_run l in
            let said : (b : Bool) × Says run b × (kept ≡ then_some b run) = rw got at m in
            let kept-is : kept ≡ then_some (leb run.start tick) run = said.2 ∙ ap (λ (b : Bool). then_some b run) (begun run said.0 said.1) in
            cases (leb run.start tick)
            (λ b.
            let k : kept ≡ Some run = rw b at kept-is in
            rw k (sym (rw (← e) at (at-found runs tick accepted (omega arith) (rw (← e) (leb-true run.start tick b))))))
            (λ b.
            let k : kept ≡ None = rw b at kept-is in
            rw k (sym (at-not-begun runs tick accepted (rw (← e) (leb-false run.start tick b)))))
        | no l ↦
            let got : there ≡ None = t ∙ slice_get_past runs i (omega arith) in
            let k : kept ≡ None = rw got at m in
            rw k (sym (at_ended runs tick accepted (omega arith)))
      ]

  -- and the one found behind those that start before the tick is the first from the tick on
  pub next_found : (tick i : ℕ) (there : Option Run) → i ≡ first_starting runs tick → there ≡ slice_get runs i → Ok there ≡ run_from_tick runs tick
  next_found tick i there e t =
      elim (dec_lt i (length runs)) [
        | yes l ↦
            let got : there ≡ Some (get_or runs i no_run) = t ∙ slice_get-get_or runs i no_run l in
            rw got (sym (rw (← e) at (from_found runs tick accepted (omega arith))))
        | no l ↦
            let got : there ≡ None = t ∙ slice_get_past runs i (omega arith) in
            rw got (sym (from-started runs tick accepted (omega arith)))
      ]

-- what `get` lends of a list is what the list has at the index
pub copied_there : (runs : List Run) (i : ℕ) (lent : Option (Bor Run)) → IsItemAt runs i lent → option_copied lent ≡ slice_get runs i
copied_there runs i None p = sym (slice_get_past runs i p.3)
copied_there runs i (Some run) p = ap Some (p.3.1 no_run) ∙ sym (slice_get-get_or runs i no_run p.3.0)

-- what the check refuses, a query for one run refuses
pub refused : (test : Run → Bool) (runs : List Run) (refusal : RunsRefusal) → Err refusal ≡ check_answer runs → Err refusal ≡ found_first test runs
unfolding found_first
refused test runs refusal e = rw (← e)

-- The stretch of the runs that share a tick with an interval.

-- of an empty interval it is empty
pub none_interval : (runs : List Run) (a b : ℕ) → b ≤ a → ◌≡◌ {A = Stretch} (record { first = 0; runs = 0 }) (stretch_of runs a b)
unfolding stretch_of
none_interval runs a b h = rw (touching_none runs a b h)

module _ (runs : List Run) (a b : ℕ) (accepted : check_answer runs ≡ Accepted) (h : a < b) (first end : ℕ) (f : first ≡ first_ending runs a)
    (e : end ≡ first_starting runs b) where
  -- where the runs stand, by the places that the two searches find
  stands : Stretched (touches a b) runs first (end - first)
  stands = rw (f, e) (interval_stretched runs a b accepted h)

  pub none_between : end ≤ first → ◌≡◌ {A = Stretch} (record { first = 0; runs = 0 }) (stretch_of runs a b)
  none_between l = sym (rw (eq-eqb (end - first) 0 (omega arith)) at (stretch_is runs a b first (end - first) accepted stands))

  pub some_between : first < end → ◌≡◌ {A = Stretch} (record { first = first; runs = end - first }) (stretch_of runs a b)
  some_between l = sym (rw (ne_eqb (end - first) 0 (λ z. omega arith)) at (stretch_is runs a b first (end - first) accepted stands))

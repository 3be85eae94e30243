-- The runs that a query for an interval names by their place in the list, as a part of the columns.
use Prim.Native.Nat.{ℕ, ◌+◌, ◌-◌, ◌≤◌, ◌<◌, min}
use mathlib.Core.Path.{◌≡◌, sym, ◌∙◌}
use mathlib.Core.List.{List}
use native.Mathlib.Omega.{arith}
use lib.ListN.{length, get_or, take, drop, length-take, length-drop}
use lib.Seq.{get_or-take, get_or-drop}
use Rattle.base.proofs.PlaceLaws.{places_is}
use Rattle.schedule.specs.declared.Stretch.{Stretch}
use Rattle.schedule.specs.Runs.{no_run, run_at_index, runs_of}
use Rattle.schedule.specs.Queries.{touching, stretch_of}
use Rattle.schedule.proofs.ColumnLaws.{columns_length, runs_at_lem, end_at}
use Rattle.schedule.proofs.CheckLaws.{all_indices}
use Rattle.schedule.proofs.QueryLaws.{stretch_touching, stretch_within}
use Rattle.printed_plan.proofs.NowLaws.{touching_cut}

-- so many elements of a list from a place on
abbrev pub elements_from : {A : Type 0} → ℕ → ℕ → List A → List A
elements_from first count list = take count (drop first list)

-- its element at index k, and its length
part_at : {A : Type 0} (list : List A) (first count k : ℕ) (d : A) → k < count → get_or (elements_from first count list) k d ≡ get_or list (first + k) d
part_at list first count k d l = get_or-take count (drop first list) k d l ∙ get_or-drop first list k d

part_length : {A : Type 0} (list : List A) (first count : ℕ) → first + count ≤ length list → length (elements_from first count list) ≡ count
part_length list first count h = omega (arith, length-take count (drop first list), length-drop first list)

-- A part of the columns is that part of the run list.
pub columns_part : (starts ends tasks : List ℕ) (first count : ℕ) → first + count ≤ length starts
    → runs_of (elements_from first count starts) (elements_from first count ends) (elements_from first count tasks) ≡ elements_from first count (runs_of starts ends tasks)
unfolding runs_of run_at_index
columns_part starts ends tasks first count h =
    let runs = runs_of starts ends tasks in
    let long = part_length starts first count h in
    let same = part_length runs first count (omega (arith, columns_length starts ends tasks)) in
    sym (places_is (run_at_index (elements_from first count starts) (elements_from first count ends) (elements_from first count tasks)) (length (elements_from first count starts))
    no_run (elements_from first count runs) (same ∙ sym long) (λ k l.
    let m : k < count = omega arith in
    part_at runs first count k no_run m
    ∙ (runs_at_lem starts ends tasks (first + k) (omega arith)
    ∙ sym (rw (part_at starts first count k 0 m, part_at ends first count k 0 m, part_at tasks first count k 0 m)))))

-- the part of a column that a stretch names, as the code gives it: by its first place and the place behind its last
abbrev pub named_in : Stretch → List ℕ → List ℕ
named_in s column = elements_from s.first (s.first + s.runs - s.first) column

-- columns of one length have parts of one length
pub named_length : (s : Stretch) (a b : List ℕ) → length a ≡ length b → length (named_in s a) ≡ length (named_in s b)
named_length s a b e =
    let count = s.first + s.runs - s.first in
    omega (
      arith,
      length-take count (drop s.first a),
      length-drop s.first a,
      length-take count (drop s.first b),
      length-drop s.first b,
    )

-- What a query for an interval names in the columns, where the interval is cut off at a tick after which no run ends: it lies within them, and
-- is the runs that share a tick with the whole interval.
module _ (starts ends tasks : List ℕ) (most tick span : ℕ) (low : (k : ℕ) → k < length starts → get_or ends k 0 ≤ most) (s : Stretch)
    (is : s ≡ stretch_of (runs_of starts ends tasks) tick (min (tick + span) most)) where
  -- it lies within the columns,
  pub interval_within : s.first + s.runs ≤ length starts
  interval_within =
      rw is (omega (arith, stretch_within (runs_of starts ends tasks) tick (min (tick + span) most), columns_length starts ends tasks))

  -- and it is the runs that share a tick with the whole interval
  pub interval_part : runs_of (named_in s starts) (named_in s ends) (named_in s tasks) ≡ touching (runs_of starts ends tasks) tick (tick + span)
  interval_part =
      let runs = runs_of starts ends tasks in
      let count : s.first + s.runs - s.first ≡ s.runs = omega arith in
      let ends_low = all_indices (λ run. run.end ≤ most) runs (λ k l.
      let m : k < length starts = omega (arith, columns_length starts ends tasks) in
      omega (arith, end_at starts ends tasks k m, low k m)) in
      rw count
      (columns_part starts ends tasks s.first s.runs interval_within
      ∙ (rw is (stretch_touching runs tick (min (tick + span) most)) ∙ touching_cut most runs tick (tick + span) ends_low))

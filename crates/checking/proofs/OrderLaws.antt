-- What the code tests at an index of a run list is what the definitions say of it, and what the check answers.
use Prim.Native.Nat.{ℕ, ◌+◌, ◌≤◌, ◌<◌}
use mathlib.Core.Path.{◌≡◌, refl, sym, ◌∙◌}
use mathlib.Core.List.{List}
use mathlib.Core.Bool.{Bool, true, false, not}
use native.Mathlib.Numerals.{add-one}
use lib.Dec.{ltb}
use lib.ListN.{length, get_or}
use borrow.Author.Tests.{ltb-true, ltb-false}
use Rattle.std.specs.Prelude.{Ok, Err}
use Rattle.base.specs.Limits.{max_runs}
use Rattle.base.specs.Tests.{or}
use Rattle.base.specs.Lowest.{some_below}
use Rattle.schedule.specs.declared.Run.{Run}
use Rattle.schedule.specs.declared.RunsRefusal.TheVariants.{TooMany, OutOfOrder}
use Rattle.schedule.specs.Runs.{no_run, too_many, runs_of}
use Rattle.schedule.specs.RunCheck.{RunsChecked, Accepted, runs_accepted, previous_end, out_of_order, first_out_of_order, check_answer}
use Rattle.schedule.proofs.CheckLaws.{many_refused, order_refused, accepts, accepted_known}
use Rattle.schedule.proofs.ColumnLaws.{start_at_lem, end_at}
use Rattle.checking.specs.SomeOutOfOrder.{some_out_of_order}

-- an answer of the check that accepts nothing is a refusal
pub told_refused : (answer : RunsChecked) → (answer ≡ Accepted → ⊥) → runs_accepted answer ≡ false
told_refused (Ok done) other = absurd (other refl)
told_refused (Err refusal) other = refl

-- the test of a run and of the end before it is that of its index
pub tested_at : (runs : List Run) (k previous : ℕ) (tested : Bool) → previous ≡ previous_end runs k
    → tested ≡ or (not (ltb (get_or runs k no_run).start (get_or runs k no_run).end)) (ltb (get_or runs k no_run).start previous)
    → tested ≡ out_of_order runs k
unfolding out_of_order
tested_at runs k previous tested e t = rw e at t

-- of columns it is that of what they hold at the index: the end there is the one before the next index
module _ (starts ends tasks : List ℕ) (k : ℕ) (l : k < length starts) where
  pub column_tested : (previous : ℕ) (tested : Bool) → previous ≡ previous_end (runs_of starts ends tasks) k
      → tested ≡ or (not (ltb (get_or starts k 0) (get_or ends k 0))) (ltb (get_or starts k 0) previous)
      → tested ≡ out_of_order (runs_of starts ends tasks) k
  column_tested previous tested e t =
      tested_at (runs_of starts ends tasks) k previous tested e (rw (start_at_lem starts ends tasks k l, end_at starts ends tasks k l) t)

  pub column_end : get_or ends k 0 ≡ previous_end (runs_of starts ends tasks) (k + 1)
  column_end = rw add-one (sym (end_at starts ends tasks k l))

-- what the check answers, test by test
module _ (runs : List Run) (many : Bool) (m : many ≡ too_many runs) where
  pub says_many : many ≡ true → Err TooMany ≡ check_answer runs
  says_many e = sym (many_refused runs (sym m ∙ e))

  module _ (few : many ≡ false) (some : Bool) (s : some ≡ some_out_of_order runs) where
    pub says_order : (first : ℕ) → first ≡ first_out_of_order runs → some ≡ true → Err (OutOfOrder first) ≡ check_answer runs
    unfolding some_below first_out_of_order
    says_order first f e =
        rw f (sym (order_refused runs (sym m ∙ few) (ltb-true (first_out_of_order runs) (length runs) (sym s ∙ e))))

    pub says_accepted : some ≡ false → Accepted ≡ check_answer runs
    unfolding some_below first_out_of_order
    says_accepted e = sym (accepts runs (sym m ∙ few) (ltb-false (first_out_of_order runs) (length runs) (sym s ∙ e)))

-- an accepted list has no more runs than a run list may have
pub accepted_few : (runs : List Run) → check_answer runs ≡ Accepted → length runs ≤ max_runs
unfolding too_many
accepted_few runs e = ltb-false max_runs (length runs) (accepted_known runs e).0

use Rattle.std.proofs.Common.{◌≡◌, ◌<◌, ◌≤◌, ◌∙◌, refl, ℕ, List, get_or, length, take, below_more, get_or-set_other, get_or-set_same, arith, set, ◌+◌}
use lib.ListN.{length-set}
use lib.Seq.{length-take-le, get_or-take}
use Rattle.base.proofs.PlaceLaws.{places_is}
use Rattle.schedule.specs.declared.Run.{Run}
use Rattle.schedule.specs.Runs.{no_run, run_at_index, runs_of}
use Rattle.schedule.proofs.runs_of.Goals as goal

-- the first places of an array that hold the runs of columns are their run list
taken : (starts ends tasks : List ℕ) (runs : List Run) → length starts ≤ length runs
    → ((k : ℕ) → k < length starts → get_or runs k no_run ≡ run_at_index starts ends tasks k) → take (length starts) runs ≡ runs_of starts ends tasks
unfolding runs_of
taken starts ends tasks runs room h =
    places_is (run_at_index starts ends tasks) (length starts) no_run (take (length starts) runs) (length-take-le (length starts) runs room)
    (λ k l. get_or-take (length starts) runs k no_run l ∙ h k l)

-- one more place holds its run
filled : (runs : List Run) (i : ℕ) (run : Run) (item : ℕ → Run) → i < length runs → run ≡ item i
    → ((k : ℕ) → k < i → get_or runs k no_run ≡ item k) → (k : ℕ) → k < i + 1 → get_or (set runs i run) k no_run ≡ item k
filled runs i run item room e h =
    below_more (λ k. get_or (set runs i run) k no_run ≡ item k) i
    (λ k l. get_or-set_other runs i k run no_run (omega arith) ∙ h k l)
    (get_or-set_same runs i run no_run room ∙ e)

pub loop-i-preserved : goal.loop-i-preserved
unfolding run_at_index
loop-i-preserved g c = record {
  places = length-set c.loop-i.runs c.loop-i.i _ ∙ c.loop-i.invariant.places;
  filled = filled _ _ _ _ (omega arith) refl c.loop-i.invariant.filled;
}

pub returns : goal.returns
returns g c =
    taken _ _ _ _ (omega arith) (λ k l. c.loop-i.invariant.filled k (omega arith))

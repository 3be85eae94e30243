-- Laws of a plan's lines: what is left of them at a place of the list that they are printed from.
use Prim.Native.Nat.{ℕ, ◌+◌, ◌-◌, ◌≤◌, ◌<◌}
use mathlib.Core.Path.{◌≡◌, refl, sym, ap}
use mathlib.Core.List.{List, [], ◌∷◌, ◌++◌}
use native.Mathlib.Numerals.{add-one}
use native.Mathlib.Omega.{arith}
use lib.ListN.{length, get_or, drop, length-append, drop_of_length-le}
use lib.Seq.{drop-cons}
use borrow.Author.Tests.{ne_eqb}
use Rattle.base.specs.Places.{places_from}
use Rattle.base.proofs.PlaceLaws.{left_start, left_step, left_end}
use Rattle.lines.specs.Text.{line}
use Rattle.schedule.specs.declared.Run.{Run}
use Rattle.schedule.specs.Runs.{run_at_index, runs_of}
use Rattle.printed_plan.specs.Printing.{plan_word, plan_lines, drop_word, drops_from, drop_lines, run_line, run_lines}

-- the parts of a plan's text
pub plan_length : (tasks kept discarded : ℕ) (marks : List ℕ) (runs : List Run)
    → length (plan_lines tasks kept discarded marks runs)
    ≡ length (line plan_word (tasks ∷ kept ∷ discarded ∷ [])) + length (drop_lines marks) + length (run_lines runs)
unfolding plan_lines
plan_length tasks kept discarded marks runs =
    let head = line plan_word (tasks ∷ kept ∷ discarded ∷ []) in
    omega (arith, length-append (head ++ drop_lines marks) (run_lines runs), length-append head (drop_lines marks))

-- the DROP lines of the positions from k on
unfoldable pub drops_left : List ℕ → ℕ → List ℕ
drops_left marks k = drops_from k (drop k marks)

pub drops_start : (marks : List ℕ) → drop_lines marks ≡ drops_left marks 0
unfolding drops_left drop_lines
drops_start marks = refl

pub drops_step : (marks : List ℕ) (k : ℕ) → k < length marks → get_or marks k 0 ≡ 0 → drops_left marks k ≡ line drop_word (k ∷ []) ++ drops_left marks (k + 1)
unfolding drops_left drops_from
drops_step marks k h e = rw (drop-cons marks k 0 h, e, add-one k)

pub drops_skip : (marks : List ℕ) (k : ℕ) → k < length marks → (get_or marks k 0 ≡ 0 → ⊥) → drops_left marks k ≡ drops_left marks (k + 1)
unfolding drops_left drops_from
drops_skip marks k h e = rw (drop-cons marks k 0 h, ne_eqb (get_or marks k 0) 0 e, add-one k)

pub drops_end : (marks : List ℕ) (k : ℕ) → length marks ≤ k → drops_left marks k ≡ []
unfolding drops_left drops_from
drops_end marks k h = rw (drop_of_length-le marks {i = k} h)

-- the RUN lines of the runs from place k on
module _ (starts ends tasks : List ℕ) where
  unfoldable pub runs_left : ℕ → List ℕ
  runs_left k = run_lines (places_from (run_at_index starts ends tasks) k (length starts - k))

  pub runs_start : run_lines (runs_of starts ends tasks) ≡ runs_left 0
  unfolding runs_left runs_of
  runs_start = ap run_lines (sym (left_start (run_at_index starts ends tasks) (length starts)))

  pub runs_step : (k : ℕ) → k < length starts → runs_left k ≡ run_line (run_at_index starts ends tasks k) ++ runs_left (k + 1)
  unfolding runs_left run_lines
  runs_step k h = rw (left_step (run_at_index starts ends tasks) (length starts) k h)

  pub runs_end : (k : ℕ) → length starts ≤ k → runs_left k ≡ []
  unfolding runs_left run_lines
  runs_end k h = rw (left_end (run_at_index starts ends tasks) (length starts) k h)

-- Laws of windows whose frames stand in two columns.
use Prim.Native.Nat.{ℕ, ◌+◌, ◌≤◌, ◌<◌}
use mathlib.Core.Path.{◌≡◌, refl, sym, ◌∙◌}
use mathlib.Core.List.{List}
use native.Mathlib.Omega.{arith}
use native.Mathlib.Decide.{ℕ_discrete}
use lib.ListN.{length, get_or, set, length-set}
use lib.Seq.{get_or-set_same, get_or-set_other}
use Rattle.base.specs.Limits.{max_tasks}
use Rattle.base.specs.Lowest.{lowest, found, some_below}
use Rattle.base.proofs.LowestLaws.{same}
use Rattle.table.specs.declared.Task.{Task}
use Rattle.table.specs.declared.Table.{Table}
use Rattle.table.specs.declared.windows.Windows.{Windows}
use Rattle.table.specs.Tables.{task_at}
use Rattle.table.specs.Answers.{Answer}
use Rattle.table.specs.Windows.{nested, similar}
use Rattle.table.specs.Kinds.{fails_earlier, windows_answer, table_windows_answer, nested_answer}
use Rattle.table.specs.WindowColumns.{window_at, windows_of, FramesOf, Holds, greatest_number, Mirrored}
use Rattle.table.proofs.KindLaws.{MirroredWindow, similar_mirrored, fails_alike, frames_alike, windows_alike, nested_alike}

-- Columns that are filled place by place: they hold the frames of the tasks below `done`.
pub record FramesFilled (task : ℕ → Task) (done : ℕ) (releases deadlines : List ℕ) : Type 0 where
  pub places : (length releases ≡ max_tasks) × (length deadlines ≡ max_tasks)
  pub frames : FramesOf task done releases deadlines

-- At the beginning they hold none.
pub frames_start : (task : ℕ → Task) (releases deadlines : List ℕ) → length releases ≡ max_tasks → length deadlines ≡ max_tasks → FramesFilled task 0 releases deadlines
frames_start task releases deadlines r d = record { places = (r, d); frames = λ k l. absurd (omega arith) }

-- The frames of one task more.
pub frames_more : (task : ℕ → Task) (i : ℕ) (releases deadlines : List ℕ) (release deadline : ℕ) → i < max_tasks
    → release ≡ (task i).release → deadline ≡ (task i).deadline → FramesFilled task i releases deadlines
    → FramesFilled task (i + 1) (set releases i release) (set deadlines i deadline)
frames_more task i releases deadlines release deadline l r d held =
    record {
      places = (length-set releases i release ∙ held.places.0, length-set deadlines i deadline ∙ held.places.1);
      frames = λ k n.
          elim (ℕ_discrete k i) [
            | yes e ↦ rw e (
              get_or-set_same releases i release 0 (omega (arith, held.places.0)) ∙ r,
              get_or-set_same deadlines i deadline 0 (omega (arith, held.places.1)) ∙ d,
            )
            | no other ↦
                let old = held.frames k (omega arith) in
                (get_or-set_other releases i k release 0 other ∙ old.0, get_or-set_other deadlines i k deadline 0 other ∙ old.1)
          ];
    }

-- Where the code's columns hold the windows of a table, what they answer is what those of the table answer.
pub held_answer : (windows : Windows) (t : Table) → Holds windows (task_at t) t.count → windows_answer (windows_of windows) windows.count ≡ table_windows_answer t
unfolding table_windows_answer
held_answer windows t held = rw held.count_is (windows_alike (frames_alike (windows_of windows) (task_at t) t.count held.frames))

-- So it is by the rules of a form that is nested alone.
pub held_nested : (own : Answer) (windows : Windows) (t : Table) → Holds windows (task_at t) t.count
    → nested_answer own (windows_of windows) windows.count ≡ nested_answer own (task_at t) t.count
held_nested own windows t held = rw held.count_is (nested_alike own (frames_alike (windows_of windows) (task_at t) t.count held.frames))

-- The first window that is not similar to some earlier one is the first that is not nested with some earlier one where the deadlines are mirrored.
mirrored_lowest : (releases deadlines mirrored : List ℕ) (n : ℕ) → ((k : ℕ) → k < n → get_or deadlines k 0 ≤ greatest_number) → Mirrored n deadlines mirrored
    → lowest (fails_earlier nested (window_at releases mirrored)) n ≡ lowest (fails_earlier similar (window_at releases deadlines)) n
mirrored_lowest releases deadlines mirrored n small t =
    let each : (k : ℕ) → k < n → MirroredWindow (window_at releases deadlines k) (window_at releases mirrored k) =
    λ k l. record { release = refl; deadline = t k l; within_is = small k l } in
    same (fails_earlier nested (window_at releases mirrored)) (fails_earlier similar (window_at releases deadlines)) n (λ k l.
    fails_alike nested similar (window_at releases mirrored) (window_at releases deadlines) k (λ j m.
    sym
    (similar_mirrored (window_at releases deadlines j) (window_at releases deadlines k) (window_at releases mirrored j) (window_at releases mirrored k) (each j (omega arith)) (each k l))))

pub mirrored_crossing : (releases deadlines mirrored : List ℕ) (n : ℕ) → ((k : ℕ) → k < n → get_or deadlines k 0 ≤ greatest_number)
    → Mirrored n deadlines mirrored
    → found (fails_earlier nested (window_at releases mirrored)) n ≡ found (fails_earlier similar (window_at releases deadlines)) n
unfolding found some_below
mirrored_crossing releases deadlines mirrored n small t =
    rw (mirrored_lowest releases deadlines mirrored n small t)

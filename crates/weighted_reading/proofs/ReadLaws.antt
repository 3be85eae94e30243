-- From what the parts of reading a weighted file answer to the reply of the whole.
use Prim.Native.Nat.{ℕ, ◌*◌, ◌≤◌}
use mathlib.Core.Path.{◌≡◌, refl, ap, ◌∙◌}
use mathlib.Core.List.{List}
use native.Mathlib.Omega.{arith}
use lib.Dec.{ltb}
use lib.ListN.{length, get_or}
use Rattle.std.specs.Prelude.{Result, Ok, Err}
use Rattle.base.specs.Limits.{max_tasks}
use Rattle.base.specs.Tests.{pick}
use Rattle.base.specs.Places.{places}
use Rattle.bits.specs.Rows.{fields_from}
use Rattle.table.specs.declared.Refusal.{Refusal}
use Rattle.table.specs.Tables.{no_task, table_of, task_of}
use Rattle.table.specs.Layout.{row_start}
use Rattle.table.specs.Answers.{Answer, Accepted, is_accepted, answered}
use Rattle.table.specs.Reading.{count_in, p_in, q_in, front_answer}
use Rattle.reading.proofs.ReadLaws.{front_few}
use Rattle.weighted_file.specs.declared.Weighted.{Weighted}
use Rattle.weighted_file.specs.Weights.{
  weighted_widths,
  weighted_width,
  weighted_of,
  weighted_in,
  no_weighted,
  weighted_answer,
  weighted_read_result,
  WeightedReading,
  weighted_reading_of,
  weighted_read_reply,
}

-- the fields of the row at a position
abbrev pub row_at : List ℕ → ℕ → List ℕ
row_at s k = fields_from weighted_widths s (row_start weighted_width k)

-- a header of which nothing is refused has a count in range, and the file the bits of its rows
pub rows_few : (s : List ℕ) (count : ℕ) → count ≡ count_in s → front_answer weighted_width s ≡ Accepted
    → (count ≤ max_tasks) × (row_start weighted_width count ≤ 8 * length s)
rows_few s count c e = let few = front_few weighted_width s e in (omega arith, omega arith)

-- the header's numbers, the tasks and the weights that were taken make the weighted table of the file
pub weighted_taken : (s : List ℕ) (count : ℕ) (w : Weighted) → count ≡ count_in s → w.table.count ≡ count → w.table.p ≡ p_in s → w.table.q ≡ q_in s
    → w.table.tasks ≡ places (λ k. pick (ltb k count) (task_of (row_at s k)) no_task) max_tasks
    → w.weights ≡ places (λ k. pick (ltb k count) (get_or (row_at s k) 4 0) 0) max_tasks → w ≡ weighted_in s
unfolding weighted_in weighted_of table_of
weighted_taken s count w c d e f tasks weights = λ i.
    record {
      table = record { count = (d ∙ c) i; p = e i; q = f i; tasks = (tasks ∙ ap (λ n. places (λ k. pick (ltb k n) (task_of (row_at s k)) no_task) max_tasks) c) i };
      weights = (weights ∙ ap (λ n. places (λ k. pick (ltb k n) (get_or (row_at s k) 4 0) 0) max_tasks) c) i;
    }

-- what is returned comes to the reply that has a weighted table beside each answer
answered_reply : (a : Answer) (w : Weighted)
    → ◌≡◌ {A = WeightedReading} (weighted_reading_of (answered a w)) (record { answer = a; weighted = pick (is_accepted a) w no_weighted })
answered_reply (Ok accepted) w = refl
answered_reply (Err refusal) w = refl

pub result_reply : (s : List ℕ) (r : Result Weighted Refusal) → r ≡ weighted_read_result s → weighted_reading_of r ≡ weighted_read_reply s
unfolding weighted_read_result weighted_read_reply
result_reply s r e = ap weighted_reading_of e ∙ answered_reply (weighted_answer s) (weighted_in s)

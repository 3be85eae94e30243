-- Fields of a file, and the task that they make.
use Prim.Native.Nat.{ℕ, ◌+◌, ◌/◌, ◌%◌, ◌^◌}
use mathlib.Core.Path.{◌≡◌, sym}
use mathlib.Core.List.{List}
use Rattle.bits.specs.Bits.{field}
use Rattle.bits.proofs.ByteLaws.{field_within}
use Rattle.table.specs.declared.Task.{Task}

-- a field taken from a row: v bits of the row before it, and x behind it
pub field_taken : (s : List ℕ) (start v w x : ℕ) {row behind from : ℕ} → row ≡ field s start (v + w + x) → behind ≡ x → start + v ≡ from
    → row / 2 ^ behind % 2 ^ w ≡ field s from w
field_taken s start v w x e b f = rw (e, b, ← f) (sym (field_within s start v w x))

-- a task is the same where its four numbers are
pub task_is : {r r₂ d d₂ m m₂ o o₂ : ℕ} → r ≡ r₂ → d ≡ d₂ → m ≡ m₂ → o ≡ o₂
    → ◌≡◌ {A = Task} (record { release = r; deadline = d; mandatory = m; optional = o }) (record { release = r₂; deadline = d₂; mandatory = m₂; optional = o₂ })
task_is e f g h = λ i. record { release = e i; deadline = f i; mandatory = g i; optional = h i }

-- A list that is stored into an array element by element, from the first place upwards.
use Prim.Native.Nat.{ℕ, ◌+◌, ◌≤◌, ◌<◌}
use mathlib.Core.Path.{◌≡◌, refl}
use mathlib.Core.List.{List, [], ◌∷◌, ◌++◌, append_assoc}
use native.Mathlib.Omega.{arith}
use native.Mathlib.Numerals.{add-one}
use lib.ListN.{length, take, set, length-set}
use lib.Seq.{take-suc-set}

-- the first n places of an array that has room for the whole list hold what stands in it before `rest`
pub record Stored {A : Type 0} (whole rest : List A) (n : ℕ) (array : List A) : Type 0 where
  pub room : length whole ≤ length array
  pub reached : n + length rest ≡ length whole
  pub joined : take n array ++ rest ≡ whole

-- before the first place all is left, whatever stands in the array
pub stored_start : {A : Type 0} (whole array : List A) → length whole ≤ length array → Stored whole whole 0 array
stored_start whole array h = record { room = h; reached = omega arith; joined = refl }

-- the next element is stored
pub stored_next : {A : Type 0} (whole rest : List A) (n : ℕ) (array : List A) (x : A) → Stored whole (x ∷ rest) n array
    → Stored whole rest (n + 1) (set array n x)
stored_next whole rest n array x s =
    let h : n < length array = omega arith in
    record {
      room = rw (length-set array n x) s.room;
      reached = omega arith;
      joined = rw (add-one n, take-suc-set array n x h, append_assoc (take n array) (x ∷ []) rest) s.joined;
    }

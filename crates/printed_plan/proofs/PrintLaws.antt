-- Laws of printing a text into a lent list.
use Prim.Native.Nat.{ℕ, ◌≤◌, ◌<◌}
use mathlib.Core.Path.{◌≡◌, refl}
use mathlib.Core.List.{List}
use native.Mathlib.Omega.{arith}
use lib.Dec.{ltb}
use lib.ListN.{length}
use borrow.Author.Tests.{lt-ltb, le-ltb}
use Rattle.base.proofs.TestLaws.{pick_cases}
use Rattle.lines.specs.Putting.{Put}
use Rattle.lines.proofs.PutLaws.{put_front}
use Rattle.printed_plan.specs.Printing.{max_text, Prints, printed_within, PrintsWithin}

-- into a list that is long enough the whole text is printed
pub prints_whole : (text out : List ℕ) (next : ℕ) (new : List ℕ) → max_text ≤ length out → PrintsWithin text out next new → Prints text out next new
unfolding printed_within
prints_whole text out next new h p = rw (le-ltb (length out) max_text h) at p

-- so it is where it was put at the front
pub prints_put : (text out : List ℕ) (next : ℕ) (new : List ℕ) → max_text ≤ length out → Put text 0 out next new → PrintsWithin text out next new
unfolding printed_within
prints_put text out next new h p =
    let front = put_front text out next new p in
    rw (le-ltb (length out) max_text h) (record { bytes_are = front.0; content = front.1 })

-- into another nothing is printed
pub prints_none : (text out : List ℕ) → length out < max_text → PrintsWithin text out 0 out
unfolding printed_within
prints_none text out h = rw (lt-ltb (length out) max_text h) (record { bytes_are = refl; content = refl })

-- what is printed of a text is printed of any text that it equals
pub prints_same : (text wanted out : List ℕ) (next : ℕ) (new : List ℕ) → text ≡ wanted → PrintsWithin text out next new → PrintsWithin wanted out next new
prints_same text wanted out next new e p = rw (← e) p

-- never more bytes than the longest text has
pub prints_most : (text out : List ℕ) (next : ℕ) (new : List ℕ) → length text ≤ max_text → PrintsWithin text out next new → next ≤ max_text
unfolding printed_within
prints_most text out next new few p =
    rw p.bytes_are (pick_cases (λ (l : List ℕ). length l ≤ max_text) (ltb (length out) max_text) (λ q. omega arith) (λ q. few))

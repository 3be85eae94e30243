-- For the proofs of code alone: what a lent list holds once a text was put into it.
use Rattle.std.specs.Prelude.{ℕ, ◌+◌, ◌≡◌, List, ◌++◌, length, take, drop}

-- the list with a text in place of what stood from place `at` on; before and beyond the text it keeps its content
unfoldable pub spliced : ℕ → List ℕ → List ℕ → List ℕ
spliced at text old = take at old ++ text ++ drop (at + length text) old

-- a text was put at a place: the place after it, and what the list holds then
pub record Put (text : List ℕ) (at : ℕ) (old : List ℕ) (next : ℕ) (new : List ℕ) : Type 0 where
  pub next_is : next ≡ at + length text
  pub content : new ≡ spliced at text old

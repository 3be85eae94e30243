-- For the proofs of reading's code alone: what the code holds of a file's header.
use Rattle.std.specs.Prelude.{ℕ, ◌≡◌, List}
use Rattle.table.specs.Reading.{count_in, p_in, q_in}
use Rattle.reading.specs.declared.Header.{Header}

-- the numbers of a file's header
abbrev pub HeaderOf : List ℕ → Header → Type 0
HeaderOf s header = (header.count ≡ count_in s) × (header.p ≡ p_in s) × (header.q ≡ q_in s)

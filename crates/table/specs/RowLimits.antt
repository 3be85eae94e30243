-- For the proofs of code alone: how wide the rows of a file may be for the code that counts their bits.
use Rattle.std.specs.Prelude.{ℕ}

-- the most bits of a row: no form of table has wider rows, and those of a whole file are far from overflow
abbrev pub widest_row : ℕ
widest_row = 128

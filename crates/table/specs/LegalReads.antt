-- For proofs alone: that an accepted file has a legal table, and what a reading gives of a file to those that look at no weight.
use Rattle.std.specs.Prelude.{◌≡◌, Result, Ok, Err}
use Rattle.table.specs.declared.Refusal.{Refusal}
use Rattle.table.specs.declared.Table.{Table}
use Rattle.table.specs.Tables.{no_table}
use Rattle.table.specs.Answers.{Accepted, answered}
use Rattle.table.specs.Reading.{ReadTable, one_each}
use Rattle.table.specs.Writing.{Legal}

-- an accepted table is legal: what the form of a file must give
abbrev pub LegalRead : ReadTable → Type 0
LegalRead read = read.answer ≡ Accepted → Legal read.table

-- what a call that reads gives to those that look at no weight: beside a refusal stands no table, and so the one that is 0 throughout
abbrev pub taken_from : Result Table Refusal → ReadTable
taken_from (Ok table) = record { answer = Accepted; table = table; weight = one_each }
taken_from (Err refusal) = record { answer = Err refusal; table = no_table; weight = one_each }

-- such a call returns what a file gives, of whatever form: its table, or the refusal
abbrev pub Reads : ReadTable → Result Table Refusal → Type 0
Reads read result = result ≡ answered read.answer read.table

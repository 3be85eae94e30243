-- `exports::planner_read` meets its contract: the parts of the reply of reading.
use Prim.Native.Nat.{ℕ}
use mathlib.Core.Path.{◌≡◌, sym, ap}
use mathlib.Core.List.{List}
use Rattle.std.specs.Prelude.{Err}
use Rattle.table.specs.Answers.{Accepted, refusal_number, refusal_place}
use Rattle.table.specs.Reading.{table_in, read_answer, read_reply}
use Rattle.table.specs.Tables.{no_table}
use Rattle.table.specs.declared.Refusal.{Refusal}
use Rattle.table.specs.declared.Table.{Table}
use Rattle.reading.proofs.ReadLaws.{read_head}
use Rattle.exports.specs.declared.TableRead.{TableRead}
use Rattle.exports.specs.FileRead.{read_in_c}
use Rattle.exports.proofs.planner_read.Goals as goal

-- the reply of an accepted file, and that of a refusal, by their parts
accepted_in_c : (file : List ℕ) (t : Table) → Accepted ≡ read_answer file → t ≡ table_in file → record { number = 0; place = 0; table = t } ≡ read_in_c file
unfolding read_in_c read_reply
accepted_in_c file t a e = rw (sym a) (ap (λ (x : Table). record { number = 0; place = 0; table = x }) e)

refused_in_c : (file : List ℕ) (refusal : Refusal) (r : TableRead) → Err refusal ≡ read_answer file
    → r.number ≡ refusal_number refusal → r.place ≡ refusal_place refusal → r.table ≡ no_table → r ≡ read_in_c file
unfolding read_in_c read_reply
refused_in_c file refusal r a n p t = rw (sym a) (λ i. record { number = n i; place = p i; table = t i })

pub table_in-requires-clause-file_value : goal.table_in-requires-clause-file_value
table_in-requires-clause-file_value c = read_head c.args.file.now (sym c.in-Ok.ensures.answer)

pub returns-in-Ok : goal.returns-in-Ok
returns-in-Ok c = accepted_in_c c.args.file.now c.table_in.result c.in-Ok.ensures.answer c.table_in.ensures

pub returns-in-Err : goal.returns-in-Err
returns-in-Err c = refused_in_c c.args.file.now c.in-Err.refused _ c.in-Err.ensures.answer c.number.ensures c.place.ensures c.none.ensures

-- `reading::take_header` meets its contract: each field starts at the bit where the last ended.
use Rattle.std.proofs.Common.{refl, ◌∙◌, arith}
use Rattle.table.specs.Reading.{count_in, p_in, q_in}
use Rattle.reading.proofs.Fields.{field_taken}
use Rattle.reading.proofs.take_header.Goals as goal

pub returns : goal.returns
unfolding count_in p_in q_in
returns c =
    let s = c.args.file.now in
    let row = c.first-row.ensures in
    let second = c.take.ensures.moved.0 ∙ row.0 in
    let third = c.take-2.ensures.moved.0 ∙ second in (
      c.take.ensures.value ∙ field_taken s 0 0 7 25 row.0 (omega arith) refl,
      c.take-2.ensures.value ∙ field_taken s 0 7 12 13 second (omega arith) refl,
      c.take-3.ensures.value ∙ field_taken s 0 19 12 1 third (omega arith) refl,
    )

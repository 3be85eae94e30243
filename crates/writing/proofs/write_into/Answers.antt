-- `writing::write_into` meets its contract: a refusal touches no byte, and past it the table is one that is written, and the list has room.
use Rattle.std.proofs.Common.{sym, ap, refl}
use Rattle.table.specs.declared.Written.{Written}
use Rattle.table.specs.Writing.{written_over}
use Rattle.table.proofs.ContentLaws.{refusal_keeps, accepted_leaves}
use Rattle.table.proofs.FileLaws.{accepted_legal, legal_count}
use Rattle.writing.proofs.write_into.Goals as goal

pub returns-in_err-bytes-clause-content : goal.returns-in_err-bytes-clause-content
unfolding written_over
returns-in_err-bytes-clause-content c =
    refusal_keeps _ _ _ _ c.in_err-bytes.ensures

pub put_table-requires : goal.put_table-requires
put_table-requires c =
    let accepting = accepted_legal _ _ (sym (ap (λ (r : Written). r.number) c.in_ok-bytes.ensures)) in
    record { count_le_max_tasks = (legal_count accepting.legal).1; count_in_bounds = accepting.fits }

pub returns-clause-content : goal.returns-clause-content
unfolding written_over
returns-clause-content c =
    accepted_leaves _ _ _ _ _ c.in_ok-bytes.ensures refl c.put_table.ensures

-- `weighted_writing::write_into` meets its contract: a refusal touches no byte, and past it the count is in range and the list has room.
use Rattle.std.proofs.Common.{sym, ap, refl}
use Rattle.table.specs.declared.Written.{Written}
use Rattle.table.proofs.ContentLaws.{refusal_keeps, accepted_leaves}
use Rattle.weighted_file.specs.Weights.{weighted_written_over}
use Rattle.weighted_file.proofs.WeightLaws.{written_fits}
use Rattle.weighted_writing.proofs.write_into.Goals as goal

pub returns-in_err-bytes-clause-content : goal.returns-in_err-bytes-clause-content
unfolding weighted_written_over
returns-in_err-bytes-clause-content c =
    refusal_keeps _ _ _ _ c.in_err-bytes.ensures

pub put_weighted-requires : goal.put_weighted-requires
put_weighted-requires c =
    let fits = written_fits _ _ (sym (ap (λ (r : Written). r.number) c.in_ok-bytes.ensures)) in
    record { count_le_max_tasks = fits.0; count_in_bounds = fits.1 }

pub returns-clause-content : goal.returns-clause-content
unfolding weighted_written_over
returns-clause-content c =
    accepted_leaves _ _ _ _ _ c.in_ok-bytes.ensures refl c.put_weighted.ensures

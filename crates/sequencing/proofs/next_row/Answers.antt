-- `sequencing::next_row` meets its contract.
use Prim.Native.Nat.{◌+◌, ◌≤◌}
use mathlib.Core.Path.{◌≡◌, ◌∙◌}
use native.Mathlib.Omega.{arith}
use lib.ListN.{length}
use Rattle.std.specs.List.{between}
use Rattle.std.proofs.lemmas.List.Edits.{length-between, get_or-between}
use Rattle.choice.proofs.ProgrammeLaws.{greatest_part}
use Rattle.choice.specs.Decisions.{huge_ticks}
use Rattle.sequence.specs.KeptRows.{next_row, numbers_from, RowPut}
use Rattle.sequence.proofs.BesideLaws.{free_most, next_with, next_without}
use Rattle.sequencing.proofs.next_row.Goals.{else-job-eq0, then-job-eq0}
use Rattle.sequencing.proofs.next_row.Goals as goal

pub row_without-requires : goal.row_without-requires
row_without-requires c =
    let free-small : c.free_limits-free.result.from ≤ huge_ticks =
    omega (arith, c.free_limits-free.ensures.0, c.requires.optional_le_max_ticks.1, free_most c.args.job c.args.kept.from) in
    record { most_lt_row_places = c.requires.most_lt_row_places; most_in_bounds = c.requires.most_in_bounds; rows_len_bound = c.requires.rows_len_bound; from_le_huge_ticks = free-small; by_index = c.requires.by_index }

pub row_with-requires : goal.row_with-requires
row_with-requires c =
    let free-small : c.free_limits-free.result.from ≤ huge_ticks =
    omega (arith, c.free_limits-free.ensures.0, c.requires.optional_le_max_ticks.1, free_most c.args.job c.args.kept.from) in
    record { most_lt_row_places = c.requires.most_lt_row_places; most_in_bounds = c.requires.most_in_bounds; rows_len_bound = c.requires.rows_len_bound; optional_le_max_ticks = (c.requires.optional_le_max_ticks.0, c.requires.optional_le_max_ticks.1, free-small); by_index = c.requires.by_index }

pub returns : goal.returns
returns c =
    let put : RowPut (next_row c.args.job c.args.kept.from c.args.kept.room) c.args.most c.args.at c.args.rows.now c.if-job-eq0.rows =
    elim c.if-job-eq0.branch [ then-job-eq0 w ↦ rw (w.rows-is, next_without c.args.job c.args.kept.from c.args.kept.room (omega (arith, w.if-job-eq0.true)), ← c.free_limits-free.ensures.0, ← c.free_limits-free.ensures.1) w.row_without.ensures | else-job-eq0 w ↦ rw (w.rows-is, next_with c.args.job c.args.kept.from c.args.kept.room (omega (arith, w.if-job-eq0.false)), ← c.free_limits-free.ensures.0, ← c.free_limits-free.ensures.1) w.row_with.ensures ] in
    let size : length (between c.args.at (c.args.at + c.args.most + 1) c.if-job-eq0.rows) ≡ c.args.most + 1 =
    length-between c.if-job-eq0.rows c.args.at _ (omega (arith, put.same_length, c.requires.most_in_bounds)) ∙ omega arith in
    record {
      row_put = put;
      value = c.most_within.ensures
          ∙ greatest_part _ (numbers_from c.if-job-eq0.rows c.args.at) _ c.args.most size (λ v l. get_or-between _ c.args.at _ v 0 (omega arith));
    }

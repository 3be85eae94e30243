-- `conversion::put_table` meets its contract: the lines of the tasks stand behind the first line.
use native.Mathlib.Omega.{arith}
use lib.ListN.{length-append}
use Rattle.base.specs.Places.{places}
use Rattle.lines.proofs.PutLaws.{put_join}
use Rattle.table_text.specs.TableText.{row_lines, head_line, rows_text}
use Rattle.conversion.specs.Showing.{shown_row, shown_text}
use Rattle.conversion.proofs.put_table.Goals as goal

pub put_head-next-requires : goal.put_head-next-requires
unfolding shown_text rows_text
put_head-next-requires c =
    omega (
      arith,
      length-append (head_line c.args.weighted.table.count c.args.weighted.table.p c.args.weighted.table.q) (row_lines (places (shown_row c.args.width c.args.weighted) c.args.weighted.table.count)),
      c.requires.weighted_in_bounds,
    )

pub put_tasks-requires : goal.put_tasks-requires
unfolding shown_text rows_text
put_tasks-requires c =
    record {
      width_nonzero = c.requires.width_nonzero;
      count_le_max_tasks = c.requires.count_le_max_tasks;
      count_in_bounds = omega (
        arith,
        length-append (head_line c.args.weighted.table.count c.args.weighted.table.p c.args.weighted.table.q) (row_lines (places (shown_row c.args.width c.args.weighted) c.args.weighted.table.count)),
        c.requires.weighted_in_bounds,
        c.put_head-next.ensures.next_is,
      );
    }

pub returns : goal.returns
unfolding shown_text rows_text
returns c =
    put_join _ _ _ _ _ _ _ _ (omega (arith, c.requires.weighted_in_bounds)) c.put_head-next.ensures c.put_tasks.ensures

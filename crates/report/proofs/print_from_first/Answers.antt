-- `report::print_from_first` meets its contract: what is printed of an input follows from its first bytes.
use mathlib.Core.Path.{sym}
use native.Mathlib.Omega.{arith}
use lib.Seq.{length-take-le}
use Rattle.bits.specs.Bits.{bytes_for}
use Rattle.table.specs.Layout.{file_length}
use Rattle.printed_plan.specs.ProgramInput.{plan_front, input_bytes, plan_output}
use Rattle.printed_plan.proofs.PrintLaws.{prints_most}
use Rattle.printed_plan.proofs.InputLaws.{from_first, plan_output_length, plan_output_prefix}
use Rattle.report.proofs.print_from_first.Goals as goal

pub slice_bounds-print_input-end : goal.slice_bounds-print_input-end
slice_bounds-print_input-end c =
    sym (length-take-le _ _ (omega arith))

pub returns : goal.returns
unfolding file_length bytes_for
returns c =
    record {
      printed = from_first plan_output (input_bytes plan_front) plan_output_prefix c.args.first c.args.filled _ _ _ (omega arith) _ c.bytes_read-end.ensures (omega arith)
          c.print_input.ensures.text;
      size = omega arith;
      within = omega (arith, prints_most _ _ _ _ (plan_output_length _) c.print_input.ensures.text);
    }

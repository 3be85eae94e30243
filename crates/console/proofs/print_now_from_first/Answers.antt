-- `console::print_now_from_first` meets its contract: what is printed of an input follows from its first bytes.
use mathlib.Core.Path.{sym}
use native.Mathlib.Omega.{arith}
use lib.Seq.{length-take-le}
use Rattle.bits.specs.Bits.{bytes_for}
use Rattle.table.specs.Layout.{file_length}
use Rattle.printed_plan.specs.ProgramInput.{now_front, input_bytes, now_output}
use Rattle.printed_plan.proofs.PrintLaws.{prints_most}
use Rattle.printed_plan.proofs.InputLaws.{from_first, now_output_length, now_output_prefix}
use Rattle.console.proofs.print_now_from_first.Goals as goal

pub slice_bounds-print_now_input-end : goal.slice_bounds-print_now_input-end
slice_bounds-print_now_input-end c =
    sym (length-take-le _ _ (omega arith))

pub returns : goal.returns
unfolding file_length bytes_for
returns c =
    record {
      printed = from_first now_output (input_bytes now_front) now_output_prefix c.args.first c.args.filled _ _ _ (omega arith) _ c.bytes_read-end.ensures (omega arith)
          c.print_now_input.ensures.text;
      size = omega arith;
      within = omega (arith, prints_most _ _ _ _ (now_output_length _) c.print_now_input.ensures.text);
    }

-- `report::print_input` meets its contract: the input's length says which text is printed.
use mathlib.Core.Path.{ap₂, ◌∙◌}
use native.Mathlib.Omega.{arith}
use Rattle.printed_plan.specs.Printing.{refusal_text}
use Rattle.printed_plan.specs.ProgramInput.{plan_front, plan_of_input}
use Rattle.printed_plan.proofs.PrintLaws.{prints_same}
use Rattle.printed_plan.proofs.InputLaws.{output_short, output_whole, plan_of_input_lem}
use Rattle.report.proofs.print_input.Goals as goal

pub returns-then-input-lt-NUMBER_BYTES : goal.returns-then-input-lt-NUMBER_BYTES
returns-then-input-lt-NUMBER_BYTES c =
    record {
      text = prints_same _ _ _ _ _ (ap₂ refusal_text c.number.ensures c.place.ensures ∙ output_short plan_front plan_of_input _ (omega arith))
          c.print_refusal.ensures;
    }

pub returns : goal.returns
returns c =
    record {
      text = prints_same _ _ _ _ _ (plan_of_input_lem _ _ c.number_in-launch.ensures ∙ output_whole plan_front plan_of_input _ c.if-input-lt-NUMBER_BYTES.false)
          c.print.ensures.text;
    }

-- `console::print_now_input` meets its contract: the input's length says which text is printed.
use mathlib.Core.Path.{ap₂, ◌∙◌}
use native.Mathlib.Omega.{arith}
use Rattle.printed_plan.specs.Printing.{refusal_text}
use Rattle.printed_plan.specs.ProgramInput.{now_front, now_of_input}
use Rattle.printed_plan.proofs.PrintLaws.{prints_same}
use Rattle.printed_plan.proofs.InputLaws.{output_short, output_whole, now_of_input_lem}
use Rattle.console.proofs.print_now_input.Goals as goal

pub returns-then-input-lt-NOW_FRONT : goal.returns-then-input-lt-NOW_FRONT
returns-then-input-lt-NOW_FRONT c =
    record {
      text = prints_same _ _ _ _ _ (ap₂ refusal_text c.number.ensures c.place.ensures ∙ output_short now_front now_of_input _ (omega arith))
          c.print_refusal.ensures;
    }

pub returns : goal.returns
returns c =
    record {
      text = prints_same _ _ _ _ _
          (now_of_input_lem _ _ _ _ c.number_in-launch.ensures c.number_in-tick.ensures c.number_in-span.ensures
          ∙ output_whole now_front now_of_input _ c.if-input-lt-NOW_FRONT.false)
          c.print_now.ensures.text;
    }

-- `report::print_refusal` meets its contract.
use Rattle.printed_plan.specs.Printing.{refusal_text}
use Rattle.printed_plan.proofs.PrintLaws.{prints_put}
use Rattle.report.proofs.print_refusal.Goals as goal

pub returns : goal.returns
unfolding refusal_text
returns c =
    prints_put _ _ _ _ c.if-out-lt-MAX_TEXT.false (rw c.from.ensures at c.put_line.ensures)

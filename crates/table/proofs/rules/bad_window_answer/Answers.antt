-- `table::bad_window_answer` meets its contract.
use Rattle.table.specs.declared.Refusal.TheVariants.{Window}
use Rattle.table.specs.Kinds.{bad_window_answer}
use Rattle.table.proofs.AnswerLaws.{found_refuses, not_found}
use Rattle.table.proofs.rules.bad_window_answer.Goals as goal

pub returns-in-Some : goal.returns-in-Some
unfolding bad_window_answer
returns-in-Some c =
    found_refuses Window _ _ _ c.in-Some.ensures

pub returns-in-None : goal.returns-in-None
unfolding bad_window_answer
returns-in-None c =
    not_found Window _ _ c.in-None.ensures

-- `table::nesting_answer` meets its contract.
use Rattle.table.specs.declared.Refusal.TheVariants.{Kind}
use Rattle.table.specs.Kinds.{nesting_answer}
use Rattle.table.proofs.AnswerLaws.{found_refuses, not_found}
use Rattle.table.proofs.rules.nesting_answer.Goals as goal

pub returns-in-Some : goal.returns-in-Some
unfolding nesting_answer
returns-in-Some c =
    found_refuses Kind _ _ _ c.in-Some.ensures

pub returns-in-None : goal.returns-in-None
unfolding nesting_answer
returns-in-None c =
    not_found Kind _ _ c.in-None.ensures

-- `reading::head_answer` meets its contract.
use Rattle.table.specs.Reading.{head_answer}
use Rattle.reading.proofs.head_answer.Goals as goal

pub returns-clause-answer : goal.returns-clause-answer
unfolding head_answer
returns-clause-answer c =
    c.front_answer.ensures.answer

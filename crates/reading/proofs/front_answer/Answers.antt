-- `reading::front_answer` meets its contract: under 4 bytes, else what the header answers.
use Rattle.reading.proofs.FrontLaws.{under_four}
use Rattle.reading.proofs.front_answer.Goals as goal

pub returns-then-length-lt4-clause-answer : goal.returns-then-length-lt4-clause-answer
returns-then-length-lt4-clause-answer c =
    under_four _ _ c.if-length-lt4.true

-- `reading::answer` meets its contract: the header's refusal, and past it what the windows answer.
use Rattle.std.proofs.Common.{sym}
use Rattle.table.specs.Reading.{read_answer}
use Rattle.table.proofs.AnswerLaws.{question_answers, first_refuses, first_accepts}
use Rattle.reading.proofs.ReadLaws.{head_few}
use Rattle.reading.proofs.answer.Goals as goal

pub returns-in_err-header-clause-answer : goal.returns-in_err-header-clause-answer
unfolding read_answer
returns-in_err-header-clause-answer c =
    question_answers _ _ _ c.from_residual.ensures.1 (first_refuses _ _ _ c.in_err-header.ensures.answer)

pub windows_in-requires : goal.windows_in-requires
windows_in-requires c =
    let few = head_few _ (sym c.in_ok-header.ensures.answer) in
    record { header_of = c.in_ok-header.ensures.header; file_bound = few.0; file_bound_2 = few.1 }

pub returns-in_err-windows_in-clause-answer : goal.returns-in_err-windows_in-clause-answer
unfolding read_answer
returns-in_err-windows_in-clause-answer c =
    question_answers _ _ _ c.from_residual-in_err-windows_in.ensures.1 (first_accepts _ _ _ (sym c.in_ok-header.ensures.answer) c.in_err-windows_in.ensures)

pub returns-clause-answer : goal.returns-clause-answer
unfolding read_answer
returns-clause-answer c =
    first_accepts _ _ _ (sym c.in_ok-header.ensures.answer) c.in_ok-windows_in.ensures

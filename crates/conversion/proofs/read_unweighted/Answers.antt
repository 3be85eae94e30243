-- `conversion::read_unweighted` meets its contract: reading's refusal, or the table with weights of 0.
use Rattle.std.proofs.Common.{ap, sym}
use Rattle.table.specs.Reading.{read_result}
use Rattle.table.proofs.AnswerLaws.{question_returns, answered_ok, answered_err, answered_ok-known, answered_err-known}
use Rattle.conversion.specs.Showing.{unweighted}
use Rattle.conversion.proofs.read_unweighted.Goals as goal

pub returns-in_err-table : goal.returns-in_err-table
unfolding read_result
returns-in_err-table c =
    question_returns _ _ _ c.from_residual.ensures.1 (answered_err _ _ _ (sym (answered_err-known _ _ _ c.in_err-table.ensures.reply)))

pub returns : goal.returns
unfolding read_result
returns c =
    let read = answered_ok-known _ _ _ c.in_ok-table.ensures.reply in
    answered_ok _ _ _ read.0 (ap unweighted read.1)

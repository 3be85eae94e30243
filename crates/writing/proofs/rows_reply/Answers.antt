-- `writing::rows_reply` meets its contract: each return knows the tests that led there, in their order.
use Rattle.std.proofs.Common.{◌∙◌, sym}
use Rattle.table.proofs.AnswerLaws.{question_replies}
use Rattle.writing.proofs.WriteLaws.{period-refused, width-refused, rules_refused, room-refused, nothing_refused}
use Rattle.writing.proofs.rows_reply.Goals as goal

pub returns-then-bad_period : goal.returns-then-bad_period
returns-then-bad_period c =
    period-refused _ _ _ _ _ _ _ c.requires (sym c.bad_period.ensures ∙ c.if-bad_period.true)

pub returns-then-wide-count : goal.returns-then-wide-count
returns-then-wide-count c =
    width-refused _ _ _ _ _ _ _ c.requires (sym c.bad_period.ensures ∙ c.if-bad_period.false) c.if-wide-count.true

pub returns-in_err-rules : goal.returns-in_err-rules
returns-in_err-rules c =
    question_replies _ _ _ c.from_residual.ensures.1
    (rules_refused _ _ _ _ _ _ _ c.requires (sym c.bad_period.ensures ∙ c.if-bad_period.false) c.if-wide-count.false _ c.in_err-rules.was)

pub returns-then-room-needed : goal.returns-then-room-needed
returns-then-room-needed c =
    room-refused _ _ _ _ _ _ _ c.requires (sym c.bad_period.ensures ∙ c.if-bad_period.false) c.if-wide-count.false c.in_ok-rules.was c.if-room-needed.true

pub returns : goal.returns
returns c =
    nothing_refused _ _ _ _ _ _ _ c.requires (sym c.bad_period.ensures ∙ c.if-bad_period.false) c.if-wide-count.false c.in_ok-rules.was c.if-room-needed.false

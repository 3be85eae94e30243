-- `table::kind_answer` meets its contract: where no window crosses an earlier one all are nested, and so of one kind; likewise where none is not similar
-- to an earlier one.
use Rattle.std.proofs.Common.{sym, ◌∙◌}
use mathlib.Core.Logic.{inl, inr}
use Rattle.table.proofs.KindLaws.{pairs_unfound, kind_test, neither_refused}
use Rattle.table.proofs.WindowLaws.{mirrored_crossing}
use Rattle.table.proofs.rules.kind_answer.Goals as goal

pub returns-in_default : goal.returns-in_default
returns-in_default c =
    sym (kind_test _ _ (inl (pairs_unfound _ _ _ c.in_default.ensures)))

pub returns-in-Some-first_crossing : goal.returns-in-Some-first_crossing
returns-in-Some-first_crossing c =
    let dissimilar = c.in-Some-first_crossing.ensures ∙ mirrored_crossing _ _ _ _ c.mirrored-column.ensures.within c.mirrored-column.ensures.mirrored in
    rw c.max.ensures (neither_refused _ _ _ _ c.in-Some.ensures dissimilar)

pub returns-in-None : goal.returns-in-None
returns-in-None c =
    let dissimilar = c.in-None.ensures ∙ mirrored_crossing _ _ _ _ c.mirrored-column.ensures.within c.mirrored-column.ensures.mirrored in
    sym (kind_test _ _ (inr (pairs_unfound _ _ _ dissimilar)))

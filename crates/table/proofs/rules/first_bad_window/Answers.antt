use Rattle.std.proofs.Common.{sym, ◌∙◌, arith}
use Rattle.base.proofs.FoundLaws.{found_first, found_none}
use Rattle.table.proofs.rules.first_bad_window.Goals as goal

pub returns-then-is_bad_window : goal.returns-then-is_bad_window
returns-then-is_bad_window c =
    let test = sym (rw c.window_at.ensures at c.is_bad_window.ensures) ∙ c.if-is_bad_window.true in
    found_first _ _ _ (omega arith) c.loop-k.invariant test

pub returns : goal.returns
returns c =
    found_none _ _ (λ j l. c.loop-k.invariant j (omega arith))

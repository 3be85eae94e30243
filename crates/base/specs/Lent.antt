-- Lists that are lent to a call, and what they hold after it.
use Rattle.std.specs.Borrow.{Bor, MutBor}
use denote.Triple.Both.{Both}
use Rattle.std.specs.Prelude.{ℕ, List, ◌++◌, eqb, length, drop}
use Rattle.base.specs.Tests.{pick}

-- a list of numbers that is lent to a call, as contracts speak of it: `entry` as the call begins, `exit` as it returns
abbrev pub ListParameter : Type 0
ListParameter = Both (Bor (List ℕ)) (Bor (List ℕ))

-- the same of a list that the call may write
abbrev pub WrittenParameter : Type 0
WrittenParameter = Both (MutBor (List ℕ)) (MutBor (List ℕ))

-- the list with what was written at its front; beyond that it keeps its content
abbrev pub written_front : List ℕ → List ℕ → List ℕ
written_front written lent = written ++ drop (length written) lent

-- after a call that replied with a number: what was written and then what stood there beyond it; on a refusal what it held
unfoldable pub content_after : ℕ → List ℕ → List ℕ → List ℕ
content_after number written lent = pick (eqb number 0) (written_front written lent) lent

-- For the proofs of the code alone: the kind that a table is planned as, and what is found of it.
use Rattle.std.specs.Prelude.{ℕ, List, Bool, true, false, ◌≡◌, Result, MatchResult}
use Rattle.base.specs.Tests.{or}
use Rattle.table.specs.declared.Table.{Table}
use Rattle.table.specs.Kinds.{is_nested, is_similar}
use Rattle.orders.specs.Keys.{KeysHeld, KindFound}
use Rattle.ordering.specs.declared.Kind.{Kind}
use Rattle.ordering.specs.declared.Kind.TheVariants.{Nested, Similar}
use Rattle.ordering.specs.declared.KindKeys.{KindKeys}

-- the jobs of a nested table stand in nest order, those of a similar one in similar order
abbrev pub by_nesting : Kind → Bool
by_nesting Nested = true
by_nesting Similar = false

-- a kind is found exactly where the table is of one: its kind, which is nested where the table is, and the keys of that kind's order. Of a table of neither
-- kind the keys alone are found, which are those for similar order, since it is not nested
abbrev pub FindsKind : Table → Result KindKeys (List ℕ) → Type 0
FindsKind t found =
    MatchResult found
    (λ k. KindFound t (by_nesting k.kind) k.keys)
    (λ keys. (or (is_nested t) (is_similar t) ≡ false) × KeysHeld (is_nested t) t t.count keys)

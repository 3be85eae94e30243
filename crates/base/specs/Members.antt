-- Members of lists.
use Rattle.std.specs.Prelude.{◌⊎◌, Bool, true, List, [], ◌∷◌}
use Rattle.base.specs.Tests.{and}

-- every member of a list is P, and some member is
abbrev pub All : {A : Type 0} → (A → Type 0) → List A → Type 0
All P [] = Unit {0}
All P (x ∷ xs) = P x × All P xs

abbrev pub Any : {A : Type 0} → (A → Type 0) → List A → Type 0
Any P [] = ⊥
Any P (x ∷ xs) = P x ⊎ Any P xs

-- every member of a list passes a test
unfoldable pub every_member : {A : Type 0} → (A → Bool) → List A → Bool
every_member test [] = true
every_member test (x ∷ xs) = and (test x) (every_member test xs)

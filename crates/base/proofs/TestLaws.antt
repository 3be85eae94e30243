-- Laws of tests and of what a test picks, beside those of the library (`mathlib.Core.Bool`).
use mathlib.Core.Path.{◌≡◌, refl, sym, ◌∙◌}
use mathlib.Core.Bool.{Bool, true, false, true≢false, and-eq-true_iff}
use Rattle.base.specs.Tests.{pick, and, or}

-- a test is true or false
pub cases : {C : Type 0} (b : Bool) → (b ≡ true → C) → (b ≡ false → C) → C
cases true f g = f refl
cases false f g = g refl

-- no test is both
pub both_absurd : {C : Type 0} (b : Bool) → b ≡ true → b ≡ false → C
both_absurd b p q = absurd (true≢false (sym p ∙ q))

-- what is picked by a test that holds, and by one that does not
pub pick_true : {A : Type 0} (b : Bool) (x y : A) → b ≡ true → pick b x y ≡ x
pick_true b x y e = rw e

pub pick_false : {A : Type 0} (b : Bool) (x y : A) → b ≡ false → pick b x y ≡ y
pick_false b x y e = rw e

-- what is picked of one and the same
pub pick_same : {A : Type 0} (b : Bool) (x : A) → pick b x x ≡ x
pick_same true x = refl
pick_same false x = refl

-- both tests hold exactly where each does
pub and_true : (a b : Bool) → a ≡ true → b ≡ true → and a b ≡ true
and_true a b p q = (and-eq-true_iff a b).1 (p, q)

pub and_left : (a b : Bool) → and a b ≡ true → a ≡ true
and_left a b e = ((and-eq-true_iff a b).0 e).0

pub and_right : (a b : Bool) → and a b ≡ true → b ≡ true
and_right a b e = ((and-eq-true_iff a b).0 e).1

-- where not both tests hold and the first does, the second does not
pub and_not_second : (a b : Bool) → and a b ≡ false → a ≡ true → b ≡ false
and_not_second a b e p = rw p at e

-- a test that never holds adds nothing
pub or_none : (a : Bool) → a ≡ or a false
or_none true = refl
or_none false = refl

-- neither test holds exactly where each does not
pub or_false : (a b : Bool) → a ≡ false → b ≡ false → or a b ≡ false
or_false a b p q = rw (p, q)

pub or_left : (a b : Bool) → or a b ≡ false → a ≡ false
or_left true b e = e
or_left false b e = refl

pub or_right : (a b : Bool) → or a b ≡ false → b ≡ false
or_right true b e = both_absurd true refl e
or_right false b e = e

-- where the first test holds, one does; where it does not, the second decides
pub or_first : (a b : Bool) → a ≡ true → or a b ≡ true
or_first a b p = rw p

pub or_second : (a b : Bool) → a ≡ false → or a b ≡ b
or_second a b p = rw p

-- two tests are equal where each holds if the other does
pub same_test : (a b : Bool) → (a ≡ true → b ≡ true) → (b ≡ true → a ≡ true) → a ≡ b
same_test true b f g = sym (f refl)
same_test false true f g = g refl
same_test false false f g = refl

-- a statement of what a test picks, from the same statement in each case
pub pick_cases : {A : Type 0} (P : A → Type 0) (b : Bool) {x y : A} → (b ≡ true → P x) → (b ≡ false → P y) → P (pick b x y)
pick_cases P true f g = f refl
pick_cases P false f g = g refl

-- what follows from a statement of what a test picks, by the two cases
pub picked : {A C : Type 0} (P : A → Type 0) (b : Bool) {x y : A} → P (pick b x y) → (b ≡ true → P x → C) → (b ≡ false → P y → C) → C
picked P true h f g = f refl h
picked P false h f g = g refl h

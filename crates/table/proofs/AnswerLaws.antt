-- The laws of the answers: what a refusal tells, what several come to in order, and what a reply tells that refuses nothing.
use Prim.Native.Nat.{ℕ, ◌<◌}
use mathlib.Core.Path.{◌≡◌, refl, ap, ◌∙◌}
use mathlib.Core.Logic.{◌≢◌}
use mathlib.Core.Bool.{Bool, true, false}
use native.Mathlib.Omega.{arith}
use lib.Dec.{ltb, eqb}
use Rattle.std.specs.Prelude.{Some, None, Result, Ok, Err, IsErrAnd}
use Rattle.std.proofs.lemmas.Result.{err_from_is_err_and}
use borrow.Author.Tests.{ltb-false, lt-ltb, le-ltb, eqb-false, ne_eqb}
use Rattle.base.specs.Tests.{pick}
use Rattle.base.specs.Lowest.{lowest, found}
use Rattle.base.proofs.TestLaws.{cases, both_absurd}
use Rattle.base.proofs.LowestLaws.{before, none_passes, same}
use Rattle.base.proofs.FoundLaws.{found_lowest, nothing_found}
use Rattle.table.specs.declared.Refusal.{Refusal}
use Rattle.table.specs.declared.Refusal.TheVariants.{Short, Count, Long, Padding, Period, Window, Kind, Weight}
use Rattle.table.specs.declared.Written.{Written}
use Rattle.table.specs.declared.WriteRefusal.{WriteRefusal}
use Rattle.table.specs.declared.WriteRefusal.TheVariants.{Rule, Wide, Outside, Room}
use Rattle.table.specs.Answers.{Answer, Accepted, refusal_number, number_of, place_of, is_accepted, answered, answer_of, first_refusal, lowest_refusal, declined, write_number, written_of}

-- a refusal has a number that is not 0
refusal_positive : (r : Refusal) → 0 < refusal_number r
refusal_positive (Short length) = omega arith
refusal_positive Count = omega arith
refusal_positive (Long needed) = omega arith
refusal_positive Padding = omega arith
refusal_positive Period = omega arith
refusal_positive (Window position) = omega arith
refusal_positive (Kind position) = omega arith
refusal_positive (Weight position) = omega arith

pub refused_number : (a : Answer) → is_accepted a ≡ false → eqb (number_of a) 0 ≡ false
refused_number (Ok x) e = both_absurd true refl e
refused_number (Err r) e = ne_eqb (refusal_number r) 0 (λ z. absurd (omega (arith, refusal_positive r)))

-- no refusal of reading has the number 8
refusal_never_eight : (r : Refusal) → refusal_number r ≢ 8
refusal_never_eight (Short length) e = absurd (omega arith)
refusal_never_eight Count e = absurd (omega arith)
refusal_never_eight (Long needed) e = absurd (omega arith)
refusal_never_eight Padding e = absurd (omega arith)
refusal_never_eight Period e = absurd (omega arith)
refusal_never_eight (Window position) e = absurd (omega arith)
refusal_never_eight (Kind position) e = absurd (omega arith)
refusal_never_eight (Weight position) e = absurd (omega arith)

pub never_eight : (a : Answer) → number_of a ≢ 8
never_eight (Ok x) e = absurd (omega arith)
never_eight (Err r) e = refusal_never_eight r e

-- an answer that refuses nothing is `Accepted`
pub accepted_is : (a : Answer) → is_accepted a ≡ true → a ≡ Accepted
accepted_is (Ok x) e = refl
accepted_is (Err r) e = both_absurd false e refl

-- what a call returns by its answer, and its answer by what it returns
pub answered_ok : {A : Type 0} (a : Answer) (x y : A) → a ≡ Accepted → x ≡ y → Ok x ≡ answered a y
answered_ok a x y e f = rw (e, f)

pub answered_err : {A : Type 0} (a : Answer) (x : A) (r : Refusal) → Err r ≡ a → Err r ≡ answered a x
answered_err a x r e = rw (← e)

pub answered_ok-known : {A : Type 0} (a : Answer) (x y : A) → Ok y ≡ answered a x → (a ≡ Accepted) × (y ≡ x)
answered_ok-known (Ok u) x y e = (refl, cc)
answered_ok-known (Err r) x y e = cc

pub answered_err-known : {A : Type 0} (a : Answer) (x : A) (r : Refusal) → Err r ≡ answered a x → a ≡ Err r
answered_err-known (Ok u) x r e = cc
answered_err-known (Err q) x r e = cc

-- what a `?` returns at a refusal, and so answers, or replies
pub question_returns : {A E : Type 0} (r x : Result A E) (e : E) → IsErrAnd r (λ d. d ≡ e) → Err e ≡ x → r ≡ x
question_returns r x e h f = let p = err_from_is_err_and r h in p.1 ∙ (ap Err p.2 ∙ f)

pub question_answers : {A : Type 0} (r : Result A Refusal) (a : Answer) (e : Refusal) → IsErrAnd r (λ d. d ≡ e) → Err e ≡ a → answer_of r ≡ a
question_answers r a e h f = ap answer_of (question_returns r (Err e) e h refl) ∙ f

pub question_replies : (r : Result ℕ WriteRefusal) (w : Written) (e : WriteRefusal) → IsErrAnd r (λ d. d ≡ e) → written_of (Err e) ≡ w → written_of r ≡ w
question_replies r w e h f = ap written_of (question_returns r (Err e) e h refl) ∙ f

-- the reply of a refusal has a number that is not 0
pub refused_write : (r : WriteRefusal) → eqb (write_number r) 0 ≡ false
refused_write (Rule refusal) = refused_number (Err refusal) refl
refused_write (Wide position) = refl
refused_write (Outside position) = refl
refused_write Room = refl

-- where two answers in order refuse nothing, neither does
pub first_refusal-known : (a b : Answer) → first_refusal a b ≡ Accepted → (a ≡ Accepted) × (b ≡ Accepted)
first_refusal-known a b e =
    cases (is_accepted a)
    (λ t. (accepted_is a t, rw t at e))
    (λ f. both_absurd (is_accepted a) (ap is_accepted (rw f at e)) f)

-- where neither refuses, nothing is refused
pub first_refusal-test : (a b : Answer) → a ≡ Accepted → b ≡ Accepted → first_refusal a b ≡ Accepted
first_refusal-test a b e f = rw (e, f)

-- what a call answers that asks for one answer after the other
pub first_refuses : (a b : Answer) (r : Refusal) → Err r ≡ a → Err r ≡ first_refusal a b
first_refuses a b r e = rw (← e)

pub first_accepts : (a b r : Answer) → a ≡ Accepted → r ≡ b → r ≡ first_refusal a b
first_accepts a b r e f = rw e f

-- a reply that has the number 0 after an answer: the answer refuses nothing, and so does what follows it
pub reply_known : (a : Answer) (r : Written) → (pick (is_accepted a) r (declined (number_of a) (place_of a))).number ≡ 0 → (a ≡ Accepted) × (r.number ≡ 0)
reply_known a r e =
    cases (is_accepted a)
    (λ t. (accepted_is a t, rw t at e))
    (λ f. absurd (eqb-false (number_of a) 0 (refused_number a f) (rw f at e)))

-- where no position passes the test, nothing is refused
pub none_refused : (refusal : ℕ → Refusal) (test : ℕ → Bool) (n : ℕ) → ((k : ℕ) → k < n → test k ≡ false) → lowest_refusal refusal test n ≡ Accepted
none_refused refusal test n h = rw (le-ltb (lowest test n) n (omega (arith, none_passes test n h)))

-- where nothing is refused, no position passes the test
pub refused_none : (refusal : ℕ → Refusal) (test : ℕ → Bool) (n : ℕ) → lowest_refusal refusal test n ≡ Accepted → (k : ℕ) → k < n → test k ≡ false
refused_none refusal test n e k l =
    cases (ltb (lowest test n) n)
    (λ t. both_absurd false (ap is_accepted (rw t at e)) refl)
    (λ f. before test n k (omega (arith, ltb-false (lowest test n) n f)))

-- tests that agree refuse the same
pub refused_same : (refusal : ℕ → Refusal) (f g : ℕ → Bool) (n : ℕ) → ((k : ℕ) → k < n → f k ≡ g k) → lowest_refusal refusal f n ≡ lowest_refusal refusal g n
refused_same refusal f g n h = rw (same f g n h)

-- what a search for such a position answers
pub found_refuses : (refusal : ℕ → Refusal) (test : ℕ → Bool) (n k : ℕ) → Some k ≡ found test n → Err (refusal k) ≡ lowest_refusal refusal test n
found_refuses refusal test n k e = let f = found_lowest test n k e in rw (← f.0, lt-ltb k n f.1)

pub not_found : (refusal : ℕ → Refusal) (test : ℕ → Bool) (n : ℕ) → None ≡ found test n → Accepted ≡ lowest_refusal refusal test n
not_found refusal test n e = rw (le-ltb (lowest test n) n (nothing_found test n e))

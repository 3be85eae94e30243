-- Laws of cutting a text into pieces, and a line into its words.
use Prim.Native.Nat.{ℕ, zero, suc, ◌≤◌, ◌<◌}
use mathlib.Core.Path.{◌≡◌, refl, sym, ◌∙◌}
use mathlib.Core.Bool.{Bool, true, false}
use mathlib.Core.List.{List, [], ◌∷◌, ◌++◌, foldl}
use native.Mathlib.Omega.{arith}
use lib.Dec.{leb, eqb}
use lib.ListN.{length, get_or}
use borrow.Author.Tests.{leb-true, le-leb, ne_eqb}
use Rattle.base.specs.Members.{All}
use Rattle.base.proofs.TestLaws.{cases, and_true, and_left, and_right}
use Rattle.lines.specs.Text.{newline}
use Rattle.lines.specs.Splitting.{is_blank, is_digit, with_first, cut_at}

-- a newline, at which a text is cut into lines
abbrev pub is_newline : ℕ → Bool
is_newline byte = eqb byte newline

-- a digit is one of the ten bytes from 48 on
pub digit_known : (byte : ℕ) → is_digit byte ≡ true → (48 ≤ byte) × (byte ≤ 57)
unfolding is_digit
digit_known byte e =
    (leb-true 48 byte (and_left (leb 48 byte) (leb byte 57) e), leb-true byte 57 (and_right (leb 48 byte) (leb byte 57) e))

-- and such a byte is a digit,
pub known_digit : (byte : ℕ) → 48 ≤ byte → byte ≤ 57 → is_digit byte ≡ true
unfolding is_digit
known_digit byte h l = and_true (leb 48 byte) (leb byte 57) (le-leb 48 byte h) (le-leb byte 57 l)

-- no blank
pub digit_no_blank : (byte : ℕ) → 48 ≤ byte → is_blank byte ≡ false
unfolding is_blank
digit_no_blank byte h = rw (ne_eqb byte 32 (omega arith), ne_eqb byte 9 (omega arith), ne_eqb byte 13 (omega arith))

-- and no newline
pub digit_no_newline : (byte : ℕ) → 48 ≤ byte → is_newline byte ≡ false
digit_no_newline byte h = ne_eqb byte newline (omega arith)

-- a piece of a cut text: no byte of it passes the test
abbrev pub Plain : (ℕ → Bool) → List ℕ → Type 0
Plain test piece = All (λ byte. test byte ≡ false) piece

-- with one byte more at its front a text has a first piece
first_some : (byte : ℕ) (pieces : List (List ℕ)) → 0 < length (with_first byte pieces)
unfolding with_first
first_some byte [] = omega arith
first_some byte (piece ∷ pieces) = omega arith

-- so every cut text has one
cut_some : (test : ℕ → Bool) (text : List ℕ) → 0 < length (cut_at test text)
unfolding cut_at
cut_some test [] = omega arith
cut_some test (byte ∷ text) = cases (test byte) (λ e. rw e (omega arith)) (λ e. rw e (first_some byte (cut_at test text)))

-- a byte more that does not pass the test
first_plain : (test : ℕ → Bool) (byte : ℕ) (pieces : List (List ℕ)) → test byte ≡ false → All (Plain test) pieces → All (Plain test) (with_first byte pieces)
unfolding with_first
first_plain test byte [] e h = ((e, tt), tt)
first_plain test byte (piece ∷ pieces) e h = ((e, h.0), h.1)

-- no piece has a byte at which the text is cut
pub cut_plain : (test : ℕ → Bool) (text : List ℕ) → All (Plain test) (cut_at test text)
unfolding cut_at
cut_plain test [] = (tt, tt)
cut_plain test (byte ∷ text) =
    cases (test byte) (λ e. rw e (tt, cut_plain test text)) (λ e. rw e (first_plain test byte (cut_at test text) e (cut_plain test text)))

-- a piece, and what is cut off behind it
pub cut_piece : (test : ℕ → Bool) (piece : List ℕ) (byte : ℕ) (rest : List ℕ) → Plain test piece → test byte ≡ true
    → cut_at test (piece ++ byte ∷ rest) ≡ piece ∷ cut_at test rest
unfolding cut_at with_first
cut_piece test [] byte rest h e = rw e
cut_piece test (first ∷ piece) byte rest h e = rw (h.0, cut_piece test piece byte rest h.1 e)

-- a piece alone
pub cut_alone : (test : ℕ → Bool) (piece : List ℕ) → Plain test piece → cut_at test piece ≡ piece ∷ []
unfolding cut_at with_first
cut_alone test [] h = refl
cut_alone test (first ∷ piece) h = rw (h.0, cut_alone test piece h.1)

-- an element more at the end of a list, the one that stands for those that it lacks
pub last_at : {A : Type 0} (blank : A) (xs : List A) (k : ℕ) → get_or (xs ++ blank ∷ []) k blank ≡ get_or xs k blank
last_at blank [] zero = refl
last_at blank [] (suc k) = refl
last_at blank (x ∷ xs) zero = refl
last_at blank (x ∷ xs) (suc k) = last_at blank xs k

-- A state that goes over a text byte by byte, where each byte that passes the test ends a piece: it goes over the pieces.
module _ {S : Type 0} (step : S → ℕ → S) (end : S → S) (test : ℕ → Bool) (ends : (s : S) (byte : ℕ) → test byte ≡ true → step s byte ≡ end s) where
  -- over a piece, and its end
  abbrev pub over_piece : S → List ℕ → S
  over_piece s piece = end (foldl step s piece)

  -- a byte more at the front of the first piece
  over_first : (s : S) (byte : ℕ) (pieces : List (List ℕ)) → 0 < length pieces → foldl over_piece s (with_first byte pieces) ≡ foldl over_piece (step s byte) pieces
  unfolding with_first
  over_first s byte [] h = absurd (omega arith)
  over_first s byte (piece ∷ pieces) h = refl

  -- the text and its end, or each of its pieces with its end
  pub cut_over : (s : S) (text : List ℕ) → end (foldl step s text) ≡ foldl over_piece s (cut_at test text)
  unfolding cut_at
  cut_over s [] = refl
  cut_over s (byte ∷ text) =
      cases (test byte)
      (λ e. rw (e, ends s byte e) (cut_over (end s) text))
      (λ e. rw e (cut_over (step s byte) text ∙ sym (over_first s byte (cut_at test text) (cut_some test text))))

-- A printed line that is taken apart gives its numbers again.
use Prim.Native.Nat.{ℕ, ◌≤◌, ◌<◌}
use mathlib.Core.Path.{◌≡◌, refl, ap, ◌∙◌}
use mathlib.Core.Bool.{Bool, true, false}
use mathlib.Core.List.{List, [], ◌∷◌, ◌++◌, map, append-nil, append_assoc}
use native.Mathlib.Omega.{arith}
use lib.ListN.{length}
use borrow.Author.Tests.{le-leb}
use Rattle.base.specs.Members.{All, every_member}
use Rattle.base.proofs.TestLaws.{and_true}
use Rattle.base.proofs.MemberLaws.{all_map, all_append}
use Rattle.lines.specs.Text.{space, newline, decimal, fields, line}
use Rattle.lines.specs.Splitting.{is_blank, is_digit, cut_at, nonempty, lines_of, words_of, value_of, all_digits, max_number, is_number, all_numbers, numbers_of}
use Rattle.lines.proofs.DecimalLaws.{Digits, decimal_digits}
use Rattle.lines.proofs.SplitLaws.{is_newline, known_digit, digit_no_blank, digit_no_newline, Plain, cut_piece, cut_alone}

-- the numbers that a line may have
abbrev pub Small : List ℕ → Type 0
Small numbers = All (λ n. n ≤ max_number) numbers

-- a line without its newline: numbers, with a space before each but the first
abbrev pub content : ℕ → List ℕ → List ℕ
content first numbers = decimal first ++ fields numbers

-- the digits of such a number
decimal_known : (n : ℕ) → n ≤ max_number → Digits n (decimal n)
decimal_known n h = decimal_digits n (omega arith)

-- a test that no digit passes
decimal_plain : (test : ℕ → Bool) → ((byte : ℕ) → 48 ≤ byte → test byte ≡ false) → (n : ℕ) → n ≤ max_number → Plain test (decimal n)
decimal_plain test fails n h =
    all_map (λ byte. (48 ≤ byte) × (byte ≤ 57)) (λ byte. test byte ≡ false) (decimal n) (λ byte d. fails byte d.0) (decimal_known n h).each

-- they are digits alone,
digits_all : (bytes : List ℕ) → All (λ byte. (48 ≤ byte) × (byte ≤ 57)) bytes → all_digits bytes ≡ true
unfolding every_member
digits_all [] h = refl
digits_all (byte ∷ bytes) h = and_true (is_digit byte) (all_digits bytes) (known_digit byte h.0.0 h.0.1) (digits_all bytes h.1)

-- they mean the number,
decimal_value : (n : ℕ) → n ≤ max_number → value_of (decimal n) ≡ n
unfolding value_of
decimal_value n h = (decimal_known n h).value

-- they are a number,
decimal_number : (n : ℕ) → n ≤ max_number → is_number (decimal n) ≡ true
unfolding is_number
decimal_number n h =
    and_true (all_digits (decimal n)) _ (digits_all (decimal n) (decimal_known n h).each) (rw (decimal_value n h) (le-leb n max_number h))

-- and a word, as they are not empty.
word_kept : (word : List ℕ) (words : List (List ℕ)) → 0 < length word → nonempty (word ∷ words) ≡ word ∷ nonempty words
unfolding nonempty
word_kept [] words h = absurd (omega arith)
word_kept (byte ∷ word) words h = refl

-- So of some numbers: their digits are words,
words_kept : (numbers : List ℕ) → Small numbers → nonempty (map decimal numbers) ≡ map decimal numbers
unfolding nonempty
words_kept [] h = refl
words_kept (n ∷ numbers) h =
    word_kept (decimal n) (map decimal numbers) (decimal_known n h.0).some ∙ ap (λ (words : List (List ℕ)). decimal n ∷ words) (words_kept numbers h.1)

-- which are numbers,
words_numbers : (numbers : List ℕ) → Small numbers → all_numbers (map decimal numbers) ≡ true
unfolding every_member
words_numbers [] h = refl
words_numbers (n ∷ numbers) h = and_true (is_number (decimal n)) (all_numbers (map decimal numbers)) (decimal_number n h.0) (words_numbers numbers h.1)

-- and mean the numbers.
words_values : (numbers : List ℕ) → Small numbers → map value_of (map decimal numbers) ≡ numbers
words_values [] h = refl
words_values (n ∷ numbers) h = rw (decimal_value n h.0, words_values numbers h.1)

-- a line cut at its blanks
content_cut : (first : ℕ) (numbers : List ℕ) → Small (first ∷ numbers) → cut_at is_blank (content first numbers) ≡ map decimal (first ∷ numbers)
unfolding fields is_blank
content_cut first [] h = rw (append-nil (decimal first)) (cut_alone is_blank (decimal first) (decimal_plain is_blank digit_no_blank first h.0))
content_cut first (next ∷ numbers) h =
    cut_piece is_blank (decimal first) space (content next numbers) (decimal_plain is_blank digit_no_blank first h.0) refl
    ∙ ap (λ (words : List (List ℕ)). decimal first ∷ words) (content_cut next numbers h.1)

module _ (first : ℕ) (numbers : List ℕ) (small : Small (first ∷ numbers)) where
  -- Its words are the digits of its numbers,
  content-words : words_of (content first numbers) ≡ map decimal (first ∷ numbers)
  unfolding words_of
  content-words = ap nonempty (content_cut first numbers small) ∙ words_kept (first ∷ numbers) small

  -- each is a number,
  pub content_right : all_numbers (words_of (content first numbers)) ≡ true
  content_right = rw content-words (words_numbers (first ∷ numbers) small)

  -- and they mean the numbers that were printed.
  pub content_numbers : numbers_of (content first numbers) ≡ first ∷ numbers
  unfolding numbers_of
  content_numbers = ap (map value_of) content-words ∙ words_values (first ∷ numbers) small

-- no newline stands before its end
fields_plain : (numbers : List ℕ) → Small numbers → Plain is_newline (fields numbers)
unfolding fields
fields_plain [] h = tt
fields_plain (n ∷ numbers) h =
    (refl, all_append (λ byte. is_newline byte ≡ false) (decimal n) (fields numbers) (decimal_plain is_newline digit_no_newline n h.0) (fields_plain numbers h.1))

-- A printed line is the first of the lines that it is cut into with what stands behind it.
pub line_cut : (first : ℕ) (numbers rest : List ℕ) → Small (first ∷ numbers) → lines_of (line (decimal first) numbers ++ rest) ≡ content first numbers ∷ lines_of rest
unfolding line lines_of
line_cut first numbers rest h =
    rw (append_assoc (content first numbers) (newline ∷ []) rest)
    (cut_piece is_newline (content first numbers) newline rest
    (all_append (λ byte. is_newline byte ≡ false) (decimal first) (fields numbers) (decimal_plain is_newline digit_no_newline first h.0) (fields_plain numbers h.1))
    refl)

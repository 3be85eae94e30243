-- A line that is read byte by byte holds the numbers of its words.
use Prim.Native.Nat.{ℕ, zero, suc, ◌+◌, ◌-◌, ◌*◌, ◌≤◌, ◌<◌}
use mathlib.Core.Path.{◌≡◌, refl, ap}
use mathlib.Core.Bool.{true, false, not, or-true}
use mathlib.Core.List.{List, [], ◌∷◌, ◌++◌, map, foldl, append-nil, append_assoc}
use native.Mathlib.Omega.{arith}
use native.Mathlib.Decide.{dec_le}
use lib.Dec.{leb, ltb, eqb}
use lib.ListN.{length, get_or, replicate, length-append, length-map, set}
use lib.Seq.{set-append_seam}
use borrow.Author.Tests.{leb-true, ltb-false, le-leb, lt-ltb, le-ltb, ne_eqb, not-false}
use Rattle.std.specs.Prelude.{Option, Some, None}
use Rattle.base.specs.Tests.{and}
use Rattle.base.specs.Members.{All, every_member}
use Rattle.base.proofs.TestLaws.{cases, and_left, and_right, pick_cases, both_absurd, or_left}
use Rattle.lines.specs.Splitting.{is_blank, is_digit, cut_at, nonempty, words_of, value_after, value_of, all_digits, max_number, is_number, all_numbers, numbers_of}
use Rattle.lines.proofs.DecimalLaws.{value_grows}
use Rattle.lines.proofs.SplitLaws.{Plain, cut_plain, cut_over, digit_known, digit_no_blank}
use Rattle.table_text.specs.TableText.{due, wrong_as}
use Rattle.text_reading.specs.declared.Line.{Line}
use Rattle.text_reading.specs.Scanning.{line_numbers, no_line, with_fault, so_far, with_digit, number_ended, with_number, with_byte, ends_wrong}

-- A fault of a line stays: once a number is complete,
bad_ended : (l : Line) (number : Option ℕ) → l.bad ≡ true → (number_ended l number).bad ≡ true
unfolding number_ended with_fault
bad_ended l None h = h
bad_ended l (Some value) h = pick_cases (λ (r : Line). r.bad ≡ true) (ltb l.seen line_numbers) (λ b. h) (λ b. refl)

bad_number : (l : Line) → l.bad ≡ true → (with_number l).bad ≡ true
unfolding with_number
bad_number l h = bad_ended l l.number h

-- with a byte more,
bad_byte : (l : Line) (byte : ℕ) → l.bad ≡ true → (with_byte l byte).bad ≡ true
unfolding with_byte with_digit with_fault
bad_byte l byte h =
    pick_cases (λ (r : Line). r.bad ≡ true) (is_digit byte)
    (λ a. pick_cases (λ (r : Line). r.bad ≡ true) (ltb 99_999_999 (so_far l.number)) (λ b. refl) (λ b. h))
    (λ a. pick_cases (λ (r : Line). r.bad ≡ true) (is_blank byte) (λ b. bad_number l h) (λ b. refl))

-- and so over some bytes.
bad_bytes : (l : Line) (bytes : List ℕ) → l.bad ≡ true → (foldl with_byte l bytes).bad ≡ true
bad_bytes l [] h = h
bad_bytes l (byte ∷ bytes) h = bad_bytes (with_byte l byte) bytes (bad_byte l byte h)

-- a line over a piece between blanks, and the number that ends there
abbrev over_word : Line → List ℕ → Line
over_word l word = with_number (foldl with_byte l word)

-- a fault of a line stays over such pieces too
bad_words : (l : Line) (words : List (List ℕ)) → l.bad ≡ true → (foldl over_word l words).bad ≡ true
bad_words l [] h = h
bad_words l (word ∷ words) h = bad_words (over_word l word) words (bad_number (foldl with_byte l word) (bad_bytes l word h))

-- numbers, and zeros at the places of a line that are left
abbrev padded : List ℕ → List ℕ
padded numbers = numbers ++ replicate (line_numbers - length numbers) 0

-- a line without a fault, with some numbers; and the next one so far, if it is being read
abbrev line_with : List ℕ → Option ℕ → Line
line_with numbers number = record { bad = false; seen = length numbers; numbers = padded numbers; number = number }

-- a digit more of a number that may have one more
digit_read : (numbers : List ℕ) (number : Option ℕ) (byte : ℕ) → is_digit byte ≡ true → so_far number ≤ 99_999_999
    → with_byte (line_with numbers number) byte ≡ line_with numbers (Some (10 * so_far number + (byte - 48)))
unfolding with_byte with_digit
digit_read numbers number byte e h = rw (e, le-ltb 99_999_999 (so_far number) h)

-- Over a word that is a number, its value is read.
digits_read : (numbers : List ℕ) (number : Option ℕ) (byte : ℕ) (bytes : List ℕ) → all_digits (byte ∷ bytes) ≡ true
    → value_after (so_far number) (byte ∷ bytes) ≤ max_number
    → foldl with_byte (line_with numbers number) (byte ∷ bytes) ≡ line_with numbers (Some (value_after (so_far number) (byte ∷ bytes)))
unfolding every_member value_after
digits_read numbers number byte [] e h =
    digit_read numbers number byte (and_left (is_digit byte) true e) (omega arith)
digits_read numbers number byte (next ∷ bytes) e h =
    let next-value : ℕ = 10 * so_far number + (byte - 48) in
    let grows : next-value ≤ value_after next-value (next ∷ bytes) = value_grows next-value (next ∷ bytes) in
    rw (digit_read numbers number byte (and_left (is_digit byte) (all_digits (next ∷ bytes)) e) (omega arith))
    (digits_read numbers (Some next-value) next bytes (and_right (is_digit byte) (all_digits (next ∷ bytes)) e) h)

-- Over a word that is none, the line gets a fault.
word_faulty : (numbers : List ℕ) (number : Option ℕ) (word : List ℕ) → Plain is_blank word → so_far number ≤ max_number
    → and (all_digits word) (leb (value_after (so_far number) word) max_number) ≡ false → (foldl with_byte (line_with numbers number) word).bad ≡ true
unfolding every_member value_after with_byte with_digit with_fault
word_faulty numbers number [] plain h e = both_absurd (leb (so_far number) max_number) (le-leb (so_far number) max_number h) e
word_faulty numbers number (byte ∷ word) plain h e =
    cases (is_digit byte)
    (λ d.
    cases (ltb 99_999_999 (so_far number))
    (λ l. bad_bytes (with_byte (line_with numbers number) byte) word (rw (d, l)))
    (λ l.
    let known : (48 ≤ byte) × (byte ≤ 57) = digit_known byte d in
    let low : so_far number ≤ 99_999_999 = ltb-false 99_999_999 (so_far number) l in
    rw (digit_read numbers number byte d low) (word_faulty numbers (Some (10 * so_far number + (byte - 48))) word plain.1 (omega arith) (rw d at e))))
    (λ d. bad_bytes (with_byte (line_with numbers number) byte) word (rw (d, plain.0)))

-- the places of a line with one number more
padded_set : (numbers : List ℕ) (value : ℕ) → length numbers < line_numbers → set (padded numbers) (length numbers) value ≡ padded (numbers ++ value ∷ [])
padded_set numbers value h =
    let one : length (numbers ++ value ∷ []) ≡ length numbers + 1 = length-append numbers (value ∷ []) in
    let left : line_numbers - length numbers ≡ suc (line_numbers - length (numbers ++ value ∷ [])) = omega arith in
    rw (left, set-append_seam numbers 0 (replicate (line_numbers - length (numbers ++ value ∷ [])) 0) value, append_assoc numbers (value ∷ []) (replicate (line_numbers - length (numbers ++ value ∷ [])) 0))

-- A number that is complete is the line's next,
number_read : (numbers : List ℕ) (value : ℕ) → length numbers < line_numbers → with_number (line_with numbers (Some value)) ≡ line_with (numbers ++ value ∷ []) None
unfolding with_number number_ended
number_read numbers value h = rw (lt-ltb (length numbers) line_numbers h, padded_set numbers value h, length-append numbers (value ∷ []))

-- and one more than a line has room for is a fault.
number_faulty : (numbers : List ℕ) (value : ℕ) → line_numbers ≤ length numbers → (with_number (line_with numbers (Some value))).bad ≡ true
unfolding with_number number_ended with_fault
number_faulty numbers value h = rw (le-ltb (length numbers) line_numbers h)

-- What a line with some numbers is after the words that followed: it holds their numbers too, or has a fault, by a word that is no number or by a
-- number too many.
record Read (numbers : List ℕ) (words : List (List ℕ)) (l : Line) : Type 0 where
  right : all_numbers words ≡ true → length numbers + length words ≤ line_numbers → l ≡ line_with (numbers ++ map value_of words) None
  wrong : all_numbers words ≡ false → l.bad ≡ true
  many : line_numbers < length numbers + length words → l.bad ≡ true

-- a word that is a number, and there is room for it
word_right : (numbers word : List ℕ) (words : List (List ℕ)) (l : Line) → is_number word ≡ true → Read (numbers ++ value_of word ∷ []) words l → Read numbers (word ∷ words) l
unfolding every_member
word_right numbers word words l e h =
    let one : length (numbers ++ value_of word ∷ []) ≡ length numbers + 1 = length-append numbers (value_of word ∷ []) in
    record {
      right = λ a m. rw (← append_assoc numbers (value_of word ∷ []) (map value_of words)) (h.right (rw e at a) (omega arith));
      wrong = λ a. h.wrong (rw e at a);
      many = λ m. h.many (omega arith);
    }

-- a word that is none, or for which there is no room
word_wrong : (numbers word : List ℕ) (words : List (List ℕ)) (l : Line) → (is_number word ≡ true → line_numbers ≤ length numbers) → l.bad ≡ true
    → Read numbers (word ∷ words) l
unfolding every_member
word_wrong numbers word words l h e =
    record {
      right = λ a m. absurd (omega (arith, h (and_left (is_number word) (all_numbers words) a)));
      wrong = λ a. e;
      many = λ m. e;
    }

-- over a word that is a number
number_over : (numbers : List ℕ) (byte : ℕ) (bytes : List ℕ) → is_number (byte ∷ bytes) ≡ true
    → over_word (line_with numbers None) (byte ∷ bytes) ≡ with_number (line_with numbers (Some (value_of (byte ∷ bytes))))
unfolding is_number value_of
number_over numbers byte bytes e =
    let word = byte ∷ bytes in
    ap with_number
    (digits_read numbers None byte bytes (and_left (all_digits word) (leb (value_after 0 word) max_number) e)
    (leb-true (value_after 0 word) max_number (and_right (all_digits word) (leb (value_after 0 word) max_number) e)))

-- over a word that is none
wrong_over : (numbers word : List ℕ) → Plain is_blank word → is_number word ≡ false → (over_word (line_with numbers None) word).bad ≡ true
unfolding is_number value_of
wrong_over numbers word plain e = bad_number _ (word_faulty numbers None word plain (omega arith) e)

-- over the pieces between blanks
words_read : (numbers : List ℕ) (pieces : List (List ℕ)) → length numbers ≤ line_numbers → All (Plain is_blank) pieces
    → Read numbers (nonempty pieces) (foldl over_word (line_with numbers None) pieces)
unfolding nonempty every_member with_number number_ended
words_read numbers [] h plain =
    record { right = λ a m. rw (append-nil numbers); wrong = λ a. both_absurd true refl a; many = λ m. absurd (omega arith) }
words_read numbers ([] ∷ pieces) h plain = words_read numbers pieces h plain.1
words_read numbers ((byte ∷ bytes) ∷ pieces) h plain =
    cases (is_number (byte ∷ bytes))
    (λ e.
    let value : ℕ = value_of (byte ∷ bytes) in
    elim (dec_le line_numbers (length numbers)) [
      | yes full ↦
          word_wrong numbers (byte ∷ bytes) (nonempty pieces) _ (λ a. full)
          (bad_words (over_word (line_with numbers None) (byte ∷ bytes)) pieces (rw (number_over numbers byte bytes e) (number_faulty numbers value full)))
      | no room ↦
          rw (number_over numbers byte bytes e, number_read numbers value (omega arith))
          (word_right numbers (byte ∷ bytes) (nonempty pieces) _ e (words_read (numbers ++ value ∷ []) pieces (omega (arith, length-append numbers (value ∷ []))) plain.1))
    ])
    (λ e.
    word_wrong numbers (byte ∷ bytes) (nonempty pieces) _ (λ a. both_absurd (is_number (byte ∷ bytes)) a e)
    (bad_words (over_word (line_with numbers None) (byte ∷ bytes)) pieces (wrong_over numbers (byte ∷ bytes) plain.0 e)))

-- a blank ends a number
blank_ends : (l : Line) (byte : ℕ) → is_blank byte ≡ true → with_byte l byte ≡ with_number l
unfolding with_byte
blank_ends l byte e = cases (is_digit byte) (λ d. both_absurd (is_blank byte) e (digit_no_blank byte (digit_known byte d).0)) (λ d. rw (d, e))

-- a line that was read, and ended
abbrev pub ended : List ℕ → Line
ended line = with_number (foldl with_byte no_line line)

-- so it is after its words
line_read : (line : List ℕ) → Read [] (words_of line) (ended line)
unfolding words_of no_line
line_read line = rw (cut_over with_byte with_number is_blank blank_ends no_line line) (words_read [] (cut_at is_blank line) (omega arith) (cut_plain is_blank line))

-- zeros at the end change no number
padded_at : (numbers : List ℕ) (n i : ℕ) → get_or (numbers ++ replicate n 0) i 0 ≡ get_or numbers i 0
padded_at [] zero i = refl
padded_at [] (suc n) zero = refl
padded_at [] (suc n) (suc i) = padded_at [] n i
padded_at (number ∷ numbers) n zero = refl
padded_at (number ∷ numbers) n (suc i) = padded_at numbers n i

-- Where the line of a task has `width` numbers, as many as a line has room for.
module _ (width : ℕ) (fits : width ≤ line_numbers) where
  -- no line has more numbers due
  due-few : (k count : ℕ) → due width k count ≤ line_numbers
  unfolding due
  due-few k count =
      pick_cases (λ n. n ≤ line_numbers) (leb k 1) (λ a. omega arith)
      (λ a. pick_cases (λ n. n ≤ line_numbers) (leb k (count + 1)) (λ b. omega arith) (λ b. omega arith))

  module _ (k count : ℕ) (line : List ℕ) where
    -- a line that has a fault, and is wrong
    faulty-wrong : (ended line).bad ≡ true → wrong_as width k count line ≡ true → ends_wrong width k count (ended line) ≡ wrong_as width k count line
    unfolding ends_wrong
    faulty-wrong e h = rw (e, h)

    -- a line with more words is wrong
    many-wrong : line_numbers < length (words_of line) → wrong_as width k count line ≡ true
    unfolding numbers_of
    many-wrong m =
        let few : due width k count ≤ line_numbers = due-few k count in
        rw (ne_eqb (length (numbers_of line)) (due width k count) (λ e. omega (arith, length-map (words_of line) value_of)))
        (or-true (not (all_numbers (words_of line))))

  -- A line that was read ends wrong exactly where it is wrong,
  pub line_wrong_lem : (k count : ℕ) (line : List ℕ) → ends_wrong width k count (ended line) ≡ wrong_as width k count line
  unfolding ends_wrong numbers_of
  line_wrong_lem k count line =
      cases (all_numbers (words_of line))
      (λ a.
      elim (dec_le (length (words_of line)) line_numbers) [
        | yes few ↦ rw ((line_read line).right a (omega arith), a)
        | no more ↦ faulty-wrong k count line ((line_read line).many (omega arith)) (many-wrong k count line (omega arith))
      ])
      (λ a. faulty-wrong k count line ((line_read line).wrong a) (rw a))

  -- and else holds its numbers.
  pub line_numbers_lem : (k count : ℕ) (line : List ℕ) → wrong_as width k count line ≡ false → (i : ℕ)
      → get_or (ended line).numbers i 0 ≡ get_or (numbers_of line) i 0
  unfolding numbers_of
  line_numbers_lem k count line e i =
      elim (dec_le (length (words_of line)) line_numbers) [
        | yes few ↦
            rw ((line_read line).right (not-false (all_numbers (words_of line)) (or_left (not (all_numbers (words_of line))) (not (eqb (length (numbers_of line)) (due width k count))) e)) (omega arith))
            (padded_at (numbers_of line) (line_numbers - length (numbers_of line)) i)
        | no more ↦ both_absurd (wrong_as width k count line) (many-wrong k count line (omega arith)) e
      ]

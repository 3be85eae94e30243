-- Laws of the programs' inputs: what is printed of one is no longer than what is printed of a file, and follows from its first bytes.
use Prim.Native.Nat.{ℕ, zero, suc, ◌+◌, ◌-◌, ◌*◌, ◌≤◌, ◌<◌, min}
use mathlib.Core.Path.{◌≡◌, sym, ap, ap₂, ◌∙◌}
use mathlib.Core.List.{List, [], ◌∷◌}
use native.Mathlib.Nat.{zero-add, suc-add}
use native.Mathlib.Decide.{dec_lt}
use native.Mathlib.Omega.{arith}
use lib.Dec.{ltb}
use lib.ListN.{length, get_or, take, drop, length-take, length-drop}
use lib.Seq.{take_all, get_or-take, get_or-drop}
use borrow.Author.Tests.{lt-ltb, le-ltb}
use Rattle.base.proofs.TestLaws.{pick_cases}
use Rattle.table.specs.Layout.{file_bytes_read}
use Rattle.table.proofs.PrefixLaws.{first_taken}
use Rattle.printed_plan.specs.Printing.{refusal_text, printed, max_text, PrintsWithin}
use Rattle.printed_plan.specs.NowText.{now_text}
use Rattle.printed_plan.specs.ProgramInput.{number_bytes, number_in, launch_in, tick_in, span_in, input_bytes, output_of, PrintsFromFirst}
use Rattle.printed_plan.specs.ProgramInput.{plan_front, plan_of_input, plan_output, now_front, now_of_input, now_output}
use Rattle.printed_plan.proofs.TextLaws.{refusal_length, printed_length, printed_prefix}
use Rattle.printed_plan.proofs.NowLaws.{now_length, now_prefix}
use Rattle.printed_plan.proofs.PrintLaws.{prints_whole, prints_same}

-- Of any program: `front` bytes stand before the file, and `text` is made of an input that is long enough.
module _ (front : ℕ) (text : List ℕ → List ℕ) where
  -- what is printed of an input that is too short, and of another
  pub output_short : (input : List ℕ) → length input < front → refusal_text 1 (length input) ≡ output_of front text input
  unfolding output_of
  output_short input h = rw (lt-ltb (length input) front h)

  pub output_whole : (input : List ℕ) → front ≤ length input → text input ≡ output_of front text input
  unfolding output_of
  output_whole input h = rw (le-ltb (length input) front h)

  -- It is no longer than max_text where what is made of the input is not.
  pub output_length : (input : List ℕ) → length (text input) ≤ max_text → length (output_of front text input) ≤ max_text
  unfolding output_of
  output_length input few =
      pick_cases (λ (l : List ℕ). length l ≤ max_text) (ltb (length input) front) (λ q. refusal_length 1 (length input)) (λ q. few)

  -- It follows from the first bytes of the input where what is made of it does.
  pub output_prefix : (input : List ℕ) → text (take (input_bytes front) input) ≡ text input
      → output_of front text (take (input_bytes front) input) ≡ output_of front text input
  output_prefix input same =
      elim (dec_lt (length input) front) [
        | yes h ↦ ap (output_of front text) (take_all (input_bytes front) input (omega arith))
        | no h ↦
            let first = take (input_bytes front) input in
            let enough : front ≤ length first = omega (arith, length-take (input_bytes front) input) in
            sym (output_whole first enough) ∙ (same ∙ output_whole input (omega arith))
      ]

-- Where the text of an input follows from its first bytes, it is printed from an array whose first places hold them: no more is taken of the array than
-- it has.
pub from_first : (output : List ℕ → List ℕ) (size : ℕ) → ((input : List ℕ) → output (take size input) ≡ output input) → (first : List ℕ) (filled : ℕ)
    → (old : List ℕ) (bytes : ℕ) (new : List ℕ) → max_text ≤ length old → (n : ℕ) → n ≡ min filled size → length first ≡ size
    → PrintsWithin (output (take n first)) old bytes new → PrintsFromFirst output size first filled old bytes new
from_first output size prefix first filled old bytes new room n taken long p input h =
    let all : take n first ≡ take filled first = ap (λ (k : ℕ). take k first) taken ∙ first_taken size first filled long in
    let same : output (take n first) ≡ output input = ap output (all ∙ h) ∙ prefix input in
    prints_whole (output input) old bytes new room (prints_same (output (take n first)) (output input) old bytes new same p)

-- The numbers of an input and its file.

-- a number that stands in the first bytes, behind `skip` of them
number_first : (skip most : ℕ) (input : List ℕ) → skip + number_bytes ≤ most → number_in (drop skip (take most input)) ≡ number_in (drop skip input)
unfolding number_in
number_first skip most input h =
    let same : (i : ℕ) → i < number_bytes → get_or (drop skip (take most input)) i 0 ≡ get_or (drop skip input) i 0 =
    λ i l. get_or-drop skip (take most input) i 0 ∙ (get_or-take most input (skip + i) 0 (omega arith) ∙ sym (get_or-drop skip input i 0)) in
    rw (same 0 (omega arith), same 1 (omega arith), same 2 (omega arith), same 3 (omega arith))

-- what is left of the first bytes behind some of them is the first bytes of what is left
drop_first : (m n : ℕ) (l : List ℕ) → drop m (take (m + n) l) ≡ take n (drop m l)
drop_first zero n l = rw (zero-add n)
drop_first (suc m) n [] = rw (suc-add m n) (sym (take_all n [] (omega arith)))
drop_first (suc m) n (x ∷ xs) = rw (suc-add m n) (drop_first m n xs)

-- the bytes behind the first n, up to the input's end, are what stands behind them
rest_from : (n : ℕ) (input : List ℕ) → take (length input - n) (drop n input) ≡ drop n input
rest_from n input = take_all (length input - n) (drop n input) (omega (arith, length-drop n input))

-- The program `plan`: no text is longer than max_text, and it follows from the first bytes of an input: 505.
pub plan_output_length : (input : List ℕ) → length (plan_output input) ≤ max_text
plan_output_length input = output_length plan_front plan_of_input input (printed_length (launch_in input) (drop plan_front input))

pub plan_output_prefix : (input : List ℕ) → plan_output (take (input_bytes plan_front) input) ≡ plan_output input
plan_output_prefix input =
    output_prefix plan_front plan_of_input input
    (ap₂ printed (number_first 0 (input_bytes plan_front) input (omega arith)) (drop_first plan_front file_bytes_read input)
    ∙ printed_prefix (launch_in input) (drop plan_front input))

-- what is made of an input, from its parts as the code gives them
pub plan_of_input_lem : (input : List ℕ) (launch : ℕ) → launch ≡ launch_in input
    → printed launch (take (length input - plan_front) (drop plan_front input)) ≡ plan_of_input input
plan_of_input_lem input launch l = ap₂ printed l (rest_from plan_front input)

-- The program `now`: the same, and the first bytes are 513.
pub now_output_length : (input : List ℕ) → length (now_output input) ≤ max_text
now_output_length input = output_length now_front now_of_input input (now_length (launch_in input) (tick_in input) (span_in input) (drop now_front input))

pub now_output_prefix : (input : List ℕ) → now_output (take (input_bytes now_front) input) ≡ now_output input
now_output_prefix input =
    output_prefix now_front now_of_input input
    (rw (
      number_first 0 (input_bytes now_front) input (omega arith),
      number_first number_bytes (input_bytes now_front) input (omega arith),
      number_first (2 * number_bytes) (input_bytes now_front) input (omega arith),
      drop_first now_front file_bytes_read input,
    ) (now_prefix (launch_in input) (tick_in input) (span_in input) (drop now_front input)))

pub now_of_input_lem : (input : List ℕ) (launch tick span : ℕ) → launch ≡ launch_in input
    → tick ≡ number_in (take (length input - number_bytes) (drop number_bytes input))
    → span ≡ number_in (take (length input - 2 * number_bytes) (drop (2 * number_bytes) input))
    → now_text launch tick span (take (length input - now_front) (drop now_front input)) ≡ now_of_input input
now_of_input_lem input launch tick span l t s =
    rw (
      l,
      t ∙ ap number_in (rest_from number_bytes input),
      s ∙ ap number_in (rest_from (2 * number_bytes) input),
      rest_from now_front input,
    )

-- Laws of texts that are put into a list.
use Prim.Native.Nat.{ℕ, suc, ◌+◌, ◌-◌, ◌≤◌, ◌<◌}
use mathlib.Core.Path.{◌≡◌, refl, sym, ap, ◌∙◌}
use mathlib.Core.List.{List, [], ◌∷◌, ◌++◌, append_assoc, append-nil}
use native.Mathlib.Nat.{add-zero, zero-add}
use native.Mathlib.Numerals.{add-one}
use native.Mathlib.Omega.{arith}
use lib.ListN.{length, take, drop, set, length-append, length-drop, take-append-drop}
use borrow.Rule.Slice.PartMut.{put_mid, Post-is}
use lib.Seq.{length-take-le, take_at, drop-append-add, drop-drop, set_split, append_snoc}
use Rattle.base.specs.Lent.{written_front}
use Rattle.lines.specs.Putting.{spliced, Put}

-- the part before and with the text
front_length : (at : ℕ) (text old : List ℕ) → at ≤ length old → length (take at old ++ text) ≡ at + length text
front_length at text old h = omega (arith, length-append (take at old) text, length-take-le at old h)

-- a list keeps its length
pub put_length : (text : List ℕ) (at : ℕ) (old : List ℕ) (next : ℕ) (new : List ℕ) → at + length text ≤ length old → Put text at old next new → length new ≡ length old
unfolding spliced
put_length text at old next new room p =
    rw p.content
    (omega (
      arith,
      length-append (take at old ++ text) (drop (at + length text) old),
      front_length at text old (omega arith),
      length-drop (at + length text) old,
    ))

-- a text and then another behind it are the two put at once
spliced_join : (at : ℕ) (a b old : List ℕ) → at + length a ≤ length old → spliced (at + length a) b (spliced at a old) ≡ spliced at (a ++ b) old
unfolding spliced
spliced_join at a b old room =
    let front = take at old ++ a in
    let behind = drop (at + length a) old in
    let known : length front ≡ at + length a = front_length at a old (omega arith) in
    let beyond : drop (at + length a + length b) (front ++ behind) ≡ drop (at + length a + length b) old =
    ap (λ (n : ℕ). drop (n + length b) (front ++ behind)) (sym known) ∙ (drop-append-add front behind (length b) ∙ drop-drop (length b) (at + length a) old) in
    let sum : at + length (a ++ b) ≡ at + length a + length b = omega (arith, length-append a b) in
    rw (take_at front behind (at + length a) known, beyond, sum, append_assoc (take at old) a b)

pub put_join : (a b : List ℕ) (at : ℕ) (old : List ℕ) (mid : ℕ) (between : List ℕ) (next : ℕ) (new : List ℕ) → at + length (a ++ b) ≤ length old
    → Put a at old mid between → Put b mid between next new → Put (a ++ b) at old next new
put_join a b at old mid between next new room p q =
    let here : at + length a ≤ length old = omega (arith, length-append a b) in
    record {
      next_is = omega (arith, length-append a b, p.next_is, q.next_is);
      content = q.content ∙ rw (p.next_is, p.content) (spliced_join at a b old here);
    }

pub put_three : (a b c : List ℕ) (at : ℕ) (old : List ℕ) (second : ℕ) (with-a : List ℕ) (third : ℕ) (with-b : List ℕ) (next : ℕ) (new : List ℕ)
    → at + length (a ++ b ++ c) ≤ length old → Put a at old second with-a → Put b second with-a third with-b → Put c third with-b next new
    → Put (a ++ b ++ c) at old next new
put_three a b c at old second with-a third with-b next new room p q r =
    let here : at + length (a ++ b) ≤ length old = omega (arith, length-append (a ++ b) c) in
    put_join (a ++ b) c at old third with-b next new room (put_join a b at old second with-a third with-b here p q) r

-- where nothing was put yet the list is as it was
pub put_none : (at : ℕ) (old : List ℕ) → Put [] at old at old
unfolding spliced
put_none at old =
    record {
      next_is = omega arith;
      content = sym (rw (add-zero at, append-nil (take at old)) (take-append-drop at old));
    }

-- a byte
pub put_one : (byte at : ℕ) (old : List ℕ) → at < length old → Put (byte ∷ []) at old (at + 1) (set old at byte)
unfolding spliced
put_one byte at old h =
    record {
      next_is = omega arith;
      content = set_split old at byte h ∙ rw (add-one at, append_snoc (take at old) byte (drop (suc at) old));
    }

-- a text at the front
pub put_front : (text old : List ℕ) (next : ℕ) (new : List ℕ) → Put text 0 old next new → (next ≡ length text) × (new ≡ written_front text old)
unfolding spliced
put_front text old next new p = (omega (arith, p.next_is), p.content ∙ rw (zero-add (length text)))

-- a word that is copied into its part of the list
pub put_part : (word : List ℕ) (at : ℕ) (old part : List ℕ) → part ≡ word
    → Put word at old (at + length word) (put_mid at (at + length word - at) old part)
unfolding spliced
put_part word at old part e =
    let room : at ≤ at + length word = omega arith in
    record {
      next_is = refl;
      content = rw (e, Post-is at (at + length word) old room) (sym (append_assoc (take at old) word (drop (at + length word) old)));
    }

-- A text that is put part by part: what is put so far, and what is left of it.
pub record Putting (whole : List ℕ) (at : ℕ) (old left : List ℕ) (next : ℕ) (new : List ℕ) : Type 0 where
  pub done : List ℕ
  pub joined : done ++ left ≡ whole
  pub put : Put done at old next new

module _ (whole : List ℕ) (at : ℕ) (old : List ℕ) (room : at + length whole ≤ length old) where
  -- at first all of it is left
  pub putting_start : Putting whole at old whole at old
  putting_start = record { done = []; joined = refl; put = put_none at old }

  -- the list keeps its length, and has room for what is left
  pub putting_room : (left : List ℕ) (next : ℕ) (new : List ℕ) → Putting whole at old left next new
      → (length new ≡ length old) × (next + length left ≡ at + length whole)
  putting_room left next new p =
      let sum : length p.done + length left ≡ length whole = sym (length-append p.done left) ∙ ap length p.joined in
      (put_length p.done at old next new (omega arith) p.put, omega (arith, p.put.next_is))

  -- so it has room for the next part
  pub putting_fits : (part left : List ℕ) (next : ℕ) (new : List ℕ) → Putting whole at old (part ++ left) next new → next + length part ≤ length new
  putting_fits part left next new p =
      let known = putting_room (part ++ left) next new p in
      omega (arith, known.0, known.1, length-append part left)

  -- the next part is put
  pub putting_step : (part left : List ℕ) (mid : ℕ) (between : List ℕ) (next : ℕ) (new : List ℕ) → Putting whole at old (part ++ left) mid between
      → Put part mid between next new → Putting whole at old left next new
  putting_step part left mid between next new p q =
      let sum : length (p.done ++ part) + length left ≡ length whole =
      sym (length-append (p.done ++ part) left) ∙ (ap length (append_assoc p.done part left) ∙ ap length p.joined) in
      record {
        done = p.done ++ part;
        joined = append_assoc p.done part left ∙ p.joined;
        put = put_join p.done part at old mid between next new (omega arith) p.put q;
      }

  -- nothing is left
  pub putting_end : (next : ℕ) (new : List ℕ) → Putting whole at old [] next new → Put whole at old next new
  putting_end next new p = rw (← p.joined, append-nil p.done) p.put

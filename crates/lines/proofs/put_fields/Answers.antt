-- `lines::put_fields` meets its contract: each number takes the next field of what is left.
use Prim.Native.Nat.{ℕ, ◌+◌, ◌≤◌, ◌<◌}
use mathlib.Core.List.{List, ◌∷◌, ◌++◌}
use native.Mathlib.Omega.{arith}
use lib.ListN.{length, get_or}
use Rattle.lines.specs.Text.{space, decimal, fields}
use Rattle.lines.proofs.PutLaws.{put_join, Putting, putting_start, putting_fits, putting_step, putting_end}
use Rattle.lines.proofs.LineLaws.{fields_left, fields_start, fields_step, fields_end}
use Rattle.lines.proofs.put_fields.Goals as goal

-- the field of the number at a place
abbrev field_at : List ℕ → ℕ → List ℕ
field_at numbers i = space ∷ decimal (get_or numbers i 0)

module _ (numbers : List ℕ) (at : ℕ) (old : List ℕ) (room : at + length (fields numbers) ≤ length old) (i next : ℕ) (new : List ℕ) (h : i < length numbers)
    (p : Putting (fields numbers) at old (fields_left numbers i) next new) where
  -- what is left begins with the field of the next number
  left_splits : Putting (fields numbers) at old (field_at numbers i ++ fields_left numbers (i + 1)) next new
  left_splits = rw (fields_step numbers i h) at p

  -- the list has room for it
  field_fits : next + length (field_at numbers i) ≤ length new
  field_fits = putting_fits _ _ _ room (field_at numbers i) _ _ _ left_splits

pub loop-number-init : goal.loop-number-init
loop-number-init c =
    let a = c.args in
    rw (← fields_start a.numbers.now) (putting_start (fields a.numbers.now) a.at a.out.now c.requires)

pub put_byte-digits-requires : goal.put_byte-digits-requires
put_byte-digits-requires c =
    let fits = field_fits _ _ _ c.requires c.loop-number.number-index _ _ c.loop-number-test.true c.loop-number.invariant in
    omega (arith, fits)

pub put_decimal-next-requires : goal.put_decimal-next-requires
put_decimal-next-requires c =
    let fits = field_fits _ _ _ c.requires c.loop-number.number-index _ _ c.loop-number-test.true c.loop-number.invariant in
    omega (arith, fits, c.put_byte-digits.ensures.next_is)

pub loop-number-preserved : goal.loop-number-preserved
loop-number-preserved c =
    let i = c.loop-number.number-index in
    let h = c.loop-number-test.true in
    let p = c.loop-number.invariant in
    putting_step _ _ _ c.requires _ _ _ _ _ _ (left_splits _ _ _ c.requires i _ _ h p)
    (put_join _ _ _ _ _ _ _ _ (field_fits _ _ _ c.requires i _ _ h p) c.put_byte-digits.ensures c.put_decimal-next.ensures)

pub returns : goal.returns
returns c =
    putting_end _ _ _ c.requires _ _ (rw (fields_end c.args.numbers.now c.loop-number.number-index c.loop-number-test.false) at c.loop-number.invariant)

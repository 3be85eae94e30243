-- What a lent list holds after a call that writes a file, from what the call comes to: for writing, for moving, and for every later writer.
use Prim.Native.Nat.{ℕ}
use mathlib.Core.Path.{◌≡◌, ◌∙◌}
use mathlib.Core.Bool.{false}
use mathlib.Core.List.{List}
use lib.Dec.{eqb}
use Rattle.std.specs.Prelude.{Err}
use Rattle.base.specs.Lent.{written_front, content_after}
use Rattle.table.specs.declared.Written.{Written}
use Rattle.table.specs.declared.WriteRefusal.{WriteRefusal}
use Rattle.table.specs.Answers.{written_of}
use Rattle.table.proofs.AnswerLaws.{refused_write}

-- a refusal leaves the list as it was
pub refused_keeps : (due reply : Written) (written out : List ℕ) → reply ≡ due → eqb reply.number 0 ≡ false → out ≡ content_after due.number written out
unfolding content_after
refused_keeps due reply written out e n = rw (← e, n)

-- so does one of such a call
pub refusal_keeps : (due : Written) (refusal : WriteRefusal) (written out : List ℕ) → written_of (Err refusal) ≡ due → out ≡ content_after due.number written out
refusal_keeps due refusal written out e = refused_keeps due (written_of (Err refusal)) written out e (refused_write refusal)

-- an acceptance leaves the file, and beyond it what stood there
pub accepted_leaves : (due reply : Written) (written out after : List ℕ) → reply ≡ due → reply.number ≡ 0
    → after ≡ written_front written out → after ≡ content_after due.number written out
unfolding content_after
accepted_leaves due reply written out after e n a = a ∙ rw (← e, n)

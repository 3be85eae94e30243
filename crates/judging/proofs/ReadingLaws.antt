-- What a call that reads returns of a file is judged as the file is.
use Prim.Native.Nat.{ℕ}
use mathlib.Core.Path.{◌≡◌, refl, sym, ◌∙◌, ap, subst}
use mathlib.Core.List.{List}
use Rattle.std.specs.Prelude.{Result, Ok, Err}
use Rattle.table.specs.Answers.{Answer, Accepted, refusal_number, refusal_place, answered}
use Rattle.table.specs.Reading.{ReadTable, plain_read, read_result}
use Rattle.table.specs.declared.Refusal.{Refusal}
use Rattle.table.specs.declared.Table.{Table}
use Rattle.table.specs.Writing.{Legal}
use Rattle.table.specs.LegalReads.{LegalRead, taken_from, Reads}
use Rattle.schedule.specs.declared.Run.{Run}
use Rattle.schedule.specs.Judging.{judge_declined, judge_table, judge_reply}
use Rattle.schedule.proofs.VerdictLaws.{read_refused, read_accepted}

-- a table is judged as a file that holds it, and a refusal as a file that is refused so
pub judged_table : (launch : ℕ) (table : Table) (marks : List ℕ) (runs : List Run) → judge_table launch table marks runs ≡ judge_reply launch (taken_from (Ok table)) marks runs
judged_table launch table marks runs = read_accepted launch (taken_from (Ok table)) marks runs refl

pub judged_refusal : (launch : ℕ) (refusal : Refusal) (marks : List ℕ) (runs : List Run)
    → judge_declined (refusal_number refusal) (refusal_place refusal) ≡ judge_reply launch (taken_from (Err refusal)) marks runs
judged_refusal launch refusal marks runs = read_refused launch (taken_from (Err refusal)) marks runs refl

-- the table is legal where that of the file is
legal_taken : (answer : Answer) (table : Table) → (answer ≡ Accepted → Legal table) → LegalRead (taken_from (answered answer table))
legal_taken (Ok accepted) table legal e = legal refl
legal_taken (Err refusal) table legal e = cc

-- and it is judged alike
taken_judged : (answer : Answer) (table : Table) (weight : ℕ → ℕ) (launch : ℕ) (marks : List ℕ) (runs : List Run)
    → judge_reply launch (taken_from (answered answer table)) marks runs ≡ judge_reply launch (record { answer = answer; table = table; weight = weight }) marks runs
taken_judged (Ok accepted) table weight launch marks runs =
    sym (judged_table launch table marks runs) ∙ read_accepted launch (record { answer = Ok accepted; table = table; weight = weight }) marks runs refl
taken_judged (Err refusal) table weight launch marks runs =
    sym (judged_refusal launch refusal marks runs) ∙ read_refused launch (record { answer = Err refusal; table = table; weight = weight }) marks runs refl

module _ (read : ReadTable) (result : Result Table Refusal) (reads : Reads read result) where
  pub reads_legal : LegalRead read → LegalRead (taken_from result)
  reads_legal legal = subst (λ r. LegalRead (taken_from r)) (sym reads) (legal_taken read.answer read.table legal)

  pub reads_judged : (launch : ℕ) (marks : List ℕ) (runs : List Run) → judge_reply launch (taken_from result) marks runs ≡ judge_reply launch read marks runs
  reads_judged launch marks runs =
      ap (λ r. judge_reply launch (taken_from r) marks runs) reads ∙ taken_judged read.answer read.table read.weight launch marks runs

-- what `reading::read` returns is that of the file
pub plain_reads : (s : List ℕ) (result : Result Table Refusal) → result ≡ read_result s → Reads (plain_read s) result
unfolding read_result
plain_reads s result e = e

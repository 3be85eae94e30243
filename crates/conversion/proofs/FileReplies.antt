-- The replies of making a file from a text, and what the lent list holds: of plain tables, and of weighted ones.
use Prim.Native.Nat.{ℕ, ◌≤◌}
use mathlib.Core.Path.{◌≡◌}
use mathlib.Core.List.{List}
use native.Mathlib.Omega.{arith}
use lib.Dec.{ltb}
use lib.ListN.{length}
use borrow.Author.Tests.{ltb-false}
use Rattle.base.specs.Lent.{content_after, written_front}
use Rattle.base.proofs.TestLaws.{pick_cases}
use Rattle.base.specs.Limits.{bad_period}
use Rattle.bits.specs.Bits.{Bytes}
use Rattle.std.specs.Prelude.{Ok}
use Rattle.table.specs.Answers.{Answer, is_accepted, wrote, Accepted}
use Rattle.table.specs.declared.Table.{Table}
use Rattle.weighted_file.specs.declared.Weighted.{Weighted}
use Rattle.table.specs.declared.Written.{Written}
use Rattle.table.specs.Layout.{file_length, bad_count}
use Rattle.table.specs.Kinds.{table_windows_answer}
use Rattle.table.specs.Writing.{first_too_wide, rows_reply, write_reply}
use Rattle.table.specs.Reading.{table_in, read_answer}
use Rattle.table.proofs.RoundTrip.{read_writes, read_over}
use Rattle.weighted_file.specs.Weights.{weighted_length, weighted_in, weighted_rules, weighted_answer, weighted_write_reply, weighted_written_over}
use Rattle.weighted_file.proofs.WeightLaws as weights
use Rattle.table_text.specs.TableText.{parse_reply, text_of_table}
use Rattle.table_text.specs.WeightedText.{weighted_parse_reply, weighted_text}
use Rattle.table_text.proofs.TextRoundTrip.{file_text_lem, weighted_text_lem}
use Rattle.table_text.specs.Conversions.{made_reply, made_over, file_reply, file_over, weighted_file_reply, weighted_file_over}

-- a reply of writing reports at most as many bytes as there was room for
rows_fit : (count p q wide : ℕ) (rules : Answer) (needed room : ℕ) → (rows_reply count p q wide rules needed room).bytes ≤ room
unfolding rows_reply
rows_fit count p q wide rules needed room =
    pick_cases (λ (r : Written). r.bytes ≤ room) (bad_count count) (λ a. omega arith)
    (λ a.
    pick_cases (λ (r : Written). r.bytes ≤ room) (bad_period p q) (λ b. omega arith)
    (λ b.
    pick_cases (λ (r : Written). r.bytes ≤ room) (ltb wide count) (λ d. omega arith)
    (λ d.
    pick_cases (λ (r : Written). r.bytes ≤ room) (is_accepted rules)
    (λ e. pick_cases (λ (r : Written). r.bytes ≤ room) (ltb room needed) (λ f. omega arith) (λ f. omega (arith, ltb-false room needed f)))
    (λ e. omega arith))))

-- and so do writing's replies of a table and of a weighted one
pub file_fits : (t : Table) (room : ℕ) → (write_reply t room).bytes ≤ room
unfolding write_reply
file_fits t room = rows_fit t.count t.p t.q (first_too_wide t) (table_windows_answer t) (file_length t.count) room

pub weighted_fits : (w : Weighted) (room : ℕ) → (weighted_write_reply w room).bytes ≤ room
unfolding weighted_write_reply
weighted_fits w room =
    rows_fit w.table.count w.table.p w.table.q (first_too_wide w.table) (weighted_rules w) (weighted_length w.table.count) room

-- A file, shown as text and made again from it, is the file that it was.
pub file_again : (s out : List ℕ) → Bytes s → read_answer s ≡ Accepted → length s ≤ length out
    → (file_reply (text_of_table (table_in s)) (length out) ≡ Ok (wrote (length s)))
    × (file_over (text_of_table (table_in s)) out ≡ written_front s out)
unfolding file_reply file_over made_reply made_over
file_again s out bytes e room =
    let table : parse_reply (text_of_table (table_in s)) ≡ Ok (table_in s) = file_text_lem s e in
    (rw (table, read_writes s (length out) e room), rw (table, read_over s out bytes e room))

-- The same of a weighted file.
pub weighted_again : (s out : List ℕ) → Bytes s → weighted_answer s ≡ Accepted → length s ≤ length out
    → (weighted_file_reply (weighted_text (weighted_in s)) (length out) ≡ Ok (wrote (length s)))
    × (weighted_file_over (weighted_text (weighted_in s)) out ≡ written_front s out)
unfolding weighted_file_reply weighted_file_over made_reply made_over weighted_written_over content_after
weighted_again s out bytes e room =
    let table : weighted_parse_reply (weighted_text (weighted_in s)) ≡ Ok (weighted_in s) = weighted_text_lem s e in
    (rw (table, weights.read_writes s (length out) e room), rw (table, weights.read_writes s (length out) e room, weights.read_again s bytes e))

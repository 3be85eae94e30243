-- The sample replies: the definitions are computed on each.
use mathlib.Core.Path.{◌≡◌, refl}
use mathlib.Core.List.{map}
use Rattle.base.specs.Lowest.{lowest_from, lowest, some_below}
use Rattle.base.specs.Places.{places_from, places}
use Rattle.bits.specs.Bits.{bit_at, number, field, bytes_for}
use Rattle.table.specs.Tables.{no_table, task_at, table_of}
use Rattle.table.specs.Layout.{task_start, bad_count}
use Rattle.table.specs.Windows.{bad_window, contains, nested, no_later, similar}
use Rattle.table.specs.Kinds.{fails_earlier, pairwise, of_neither_kind, bad_window_answer, kind_answer, windows_answer, table_windows_answer}
use Rattle.table.specs.Reading.{count_in, p_in, q_in, task_from, task_in, table_in, padding_set, front_answer, head_answer, read_answer, read_reply}
use Rattle.exports.specs.FileRead.{read_in_c}
use Rattle.exports.specs.QueryReplies.{checked_reply, found_reply}
use Rattle.exports.specs.ReplySamples.{ReadSample, read_samples, CheckSample, check_samples, FoundSample, found_samples}

-- Every sample has the reply that it should: of reading, of the check, of the queries for one run.
pub reply_samples : (map (λ (s : ReadSample). read_in_c s.file) read_samples ≡ map (λ (s : ReadSample). s.reply) read_samples)
    × (map (λ (s : CheckSample). checked_reply s.answer) check_samples ≡ map (λ (s : CheckSample). s.reply) check_samples)
    × (map (λ (s : FoundSample). found_reply s.answer) found_samples ≡ map (λ (s : FoundSample). s.reply) found_samples)
unfolding read_samples check_samples found_samples read_in_c checked_reply found_reply read_reply read_answer head_answer front_answer padding_set table_in task_in task_from q_in p_in count_in task_start table_windows_answer windows_answer kind_answer bad_window_answer of_neither_kind pairwise fails_earlier similar no_later nested contains bad_window bad_count table_of task_at no_table bytes_for field number bit_at some_below places places_from lowest lowest_from
reply_samples = (refl, refl, refl)

-- The sample texts of weighted tables give what they should, and so do the replies: the definitions are computed on each.
use mathlib.Core.Path.{◌≡◌, refl}
use mathlib.Core.List.{map}
use lib.ListN.{length}
use Rattle.base.specs.Lowest.{lowest_from, lowest, some_below}
use Rattle.base.specs.Places.{places_from, places}
use Rattle.base.specs.Lent.{content_after}
use Rattle.base.specs.Members.{every_member}
use Rattle.bits.specs.Bits.{bit_at, number, field, bits_of, bit_in, bytes_from, bytes_for, pack}
use Rattle.bits.specs.Rows.{row_bits, rows_bits}
use Rattle.table.specs.Tables.{no_table, task_at, table_of}
use Rattle.table.specs.Layout.{bad_count}
use Rattle.table.specs.Windows.{bad_window, contains, nested}
use Rattle.table.specs.Kinds.{fails_earlier, bad_window_answer, nesting_answer, nested_answer}
use Rattle.table.specs.Reading.{count_in, p_in, q_in, padding_set, front_answer}
use Rattle.table.specs.Writing.{head_bits, rows_file, too_wide, first_too_wide, rows_reply}
use Rattle.weighted_file.specs.Weights.{weighted_length, weight_at, weighted_of, no_weighted, file_of_weighted, weighted_in, bad_weight, weight_answer, weighted_rules, weighted_answer, weighted_write_reply, weighted_written_over}
use Rattle.lines.specs.Ascii.{ascii, text_of}
use Rattle.lines.specs.Text.{decimal_within, decimal, fields, line}
use Rattle.lines.specs.Splitting.{is_blank, is_digit, with_first, cut_at, nonempty, lines_of, words_of, value_after, value_of, is_number, numbers_of}
use Rattle.table_text.specs.TableText.{line_at, numbers_at, count_in_text, p_in_text, q_in_text, due, line_wrong, lines_checked, right_lines, row_line, row_lines, head_line, rows_text}
use Rattle.table_text.specs.WeightedText.{weighted_in_text, weighted_parse_reply, weighted_text, max_weighted_text}
use Rattle.table_text.specs.Conversions.{shown_reply, shown_over, weighted_text_reply, weighted_text_over, made_reply, made_over, weighted_file_reply, weighted_file_over}
use Rattle.table_text.specs.TextSamples.{FileSample, ShownSample}
use Rattle.table_text.specs.WeightedTextSamples.{WeightedSample, weighted_samples, weighted_file_samples, weighted_shown_samples}

-- The sample texts give what they should.
pub samples_parsed : map (λ (s : WeightedSample). weighted_parse_reply s.text) weighted_samples ≡ map (λ (s : WeightedSample). s.gives) weighted_samples
unfolding weighted_samples text_of ascii weighted_parse_reply weighted_in_text right_lines lines_checked line_wrong due q_in_text p_in_text count_in_text numbers_at line_at numbers_of every_member is_number value_of value_after words_of lines_of nonempty cut_at with_first is_digit is_blank weighted_of no_weighted table_of no_table places places_from lowest lowest_from
samples_parsed = refl

-- The replies of making a file from a text, and what the list holds then.
pub samples_filed : (map (λ (s : FileSample). weighted_file_reply s.text (length s.out)) weighted_file_samples ≡ map (λ (s : FileSample). s.reply) weighted_file_samples)
    × (map (λ (s : FileSample). weighted_file_over s.text s.out) weighted_file_samples ≡ map (λ (s : FileSample). s.after) weighted_file_samples)
unfolding weighted_file_samples text_of ascii weighted_file_reply weighted_file_over made_reply made_over weighted_written_over weighted_write_reply rows_reply first_too_wide too_wide weighted_rules weight_answer weight_at bad_weight file_of_weighted rows_file head_bits nested_answer nesting_answer bad_window_answer fails_earlier nested contains bad_window bad_count weighted_length content_after weighted_parse_reply weighted_in_text right_lines lines_checked line_wrong due q_in_text p_in_text count_in_text numbers_at line_at numbers_of every_member is_number value_of value_after words_of lines_of nonempty cut_at with_first is_digit is_blank weighted_of no_weighted table_of task_at no_table rows_bits row_bits pack bytes_from bytes_for bit_in bits_of number some_below places places_from lowest lowest_from
samples_filed = (refl, refl)

-- The replies of making a text from a file, and what the list holds then.
pub samples_shown : (map (λ (s : ShownSample). weighted_text_reply s.file (length s.out)) weighted_shown_samples ≡ map (λ (s : ShownSample). s.reply) weighted_shown_samples)
    × (map (λ (s : ShownSample). weighted_text_over s.file s.out) weighted_shown_samples ≡ map (λ (s : ShownSample). s.after) weighted_shown_samples)
unfolding weighted_shown_samples text_of ascii weighted_text_reply weighted_text_over shown_reply shown_over content_after weighted_text rows_text head_line row_line row_lines line fields decimal decimal_within weighted_answer front_answer padding_set weighted_in weighted_of weighted_rules weight_answer weight_at bad_weight q_in p_in count_in nested_answer nesting_answer bad_window_answer fails_earlier nested contains bad_window bad_count table_of task_at no_table bytes_for field number bit_at some_below places places_from lowest lowest_from
samples_shown = (refl, refl)

-- The bound on the bytes of a weighted table's text.
pub text_bound : max_weighted_text ≡ 6_825
text_bound = refl

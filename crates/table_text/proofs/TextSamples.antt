-- The sample texts give what they should, and so do the sample table and the replies: the definitions are computed on each.
use mathlib.Core.Path.{◌≡◌, refl}
use mathlib.Core.List.{map}
use lib.ListN.{length}
use Rattle.base.specs.Lowest.{lowest_from, lowest, some_below}
use Rattle.base.specs.Places.{places_from, places}
use Rattle.base.specs.Lent.{content_after}
use Rattle.base.specs.Members.{every_member}
use Rattle.bits.specs.Bits.{bit_at, number, field, bits_of, bit_in, bytes_from, bytes_for, pack}
use Rattle.bits.specs.Rows.{row_bits, rows_bits}
use Rattle.table.specs.Tables.{no_table, task_at, table_of}
use Rattle.table.specs.Layout.{task_start, file_length, bad_count}
use Rattle.table.specs.Windows.{bad_window, contains, nested, no_later, similar}
use Rattle.table.specs.Kinds.{fails_earlier, pairwise, of_neither_kind, bad_window_answer, kind_answer, windows_answer, table_windows_answer}
use Rattle.table.specs.Reading.{count_in, p_in, q_in, task_from, task_in, table_in, padding_set, front_answer, head_answer, read_answer}
use Rattle.table.specs.Writing.{head_bits, rows_file, file_of, too_wide, first_too_wide, rows_reply, write_reply, written_over}
use Rattle.lines.specs.Ascii.{ascii, text_of}
use Rattle.lines.specs.Text.{decimal_within, decimal, fields, line}
use Rattle.lines.specs.Splitting.{is_blank, is_digit, with_first, cut_at, nonempty, lines_of, words_of, value_after, value_of, is_number, numbers_of}
use Rattle.table_text.specs.TableText.{line_at, numbers_at, count_in_text, p_in_text, q_in_text, due, line_wrong, lines_checked, right_lines, table_in_text, parse_reply, row_line, row_lines, head_line, rows_text, text_of_table, max_table_text, about_task, refused_line}
use Rattle.table_text.specs.Conversions.{shown_reply, shown_over, text_reply, text_over, made_reply, made_over, file_reply, file_over}
use Rattle.table.specs.TableSamples.{p8_table}
use Rattle.table_text.specs.TextSamples.{TextSample, text_samples, FileSample, file_samples, ShownSample, shown_samples, RefusedLineSample, refused_line_samples, p8_text}

-- The sample texts give what they should.
pub samples_parsed : map (λ (s : TextSample). parse_reply s.text) text_samples ≡ map (λ (s : TextSample). s.gives) text_samples
unfolding text_samples text_of ascii parse_reply table_in_text right_lines lines_checked line_wrong due q_in_text p_in_text count_in_text numbers_at line_at numbers_of every_member is_number value_of value_after words_of lines_of nonempty cut_at with_first is_digit is_blank table_of no_table places places_from lowest lowest_from
samples_parsed = refl

-- A sample table has the text that it should.
pub sample_printed : text_of_table p8_table ≡ p8_text
unfolding text_of ascii text_of_table rows_text head_line row_line row_lines line fields decimal decimal_within table_of task_at places places_from
sample_printed = refl

-- The replies of making a file from a text, and what the list holds then.
pub samples_filed : (map (λ (s : FileSample). file_reply s.text (length s.out)) file_samples ≡ map (λ (s : FileSample). s.reply) file_samples)
    × (map (λ (s : FileSample). file_over s.text s.out) file_samples ≡ map (λ (s : FileSample). s.after) file_samples)
unfolding file_samples text_of ascii file_reply file_over made_reply made_over written_over write_reply rows_reply first_too_wide too_wide file_of rows_file head_bits table_windows_answer windows_answer kind_answer bad_window_answer of_neither_kind pairwise fails_earlier similar no_later nested contains bad_window bad_count file_length content_after parse_reply table_in_text right_lines lines_checked line_wrong due q_in_text p_in_text count_in_text numbers_at line_at numbers_of every_member is_number value_of value_after words_of lines_of nonempty cut_at with_first is_digit is_blank table_of task_at no_table rows_bits row_bits pack bytes_from bytes_for bit_in bits_of number some_below places places_from lowest lowest_from
samples_filed = (refl, refl)

-- The replies of making a text from a file, and what the list holds then.
pub samples_shown : (map (λ (s : ShownSample). text_reply s.file (length s.out)) shown_samples ≡ map (λ (s : ShownSample). s.reply) shown_samples)
    × (map (λ (s : ShownSample). text_over s.file s.out) shown_samples ≡ map (λ (s : ShownSample). s.after) shown_samples)
unfolding shown_samples text_of ascii text_reply text_over shown_reply shown_over content_after text_of_table rows_text head_line row_line row_lines line fields decimal decimal_within read_answer head_answer front_answer padding_set table_in task_in task_from q_in p_in count_in task_start table_windows_answer windows_answer kind_answer bad_window_answer of_neither_kind pairwise fails_earlier similar no_later nested contains bad_window bad_count file_length table_of task_at no_table bytes_for field number bit_at some_below places places_from lowest lowest_from
samples_shown = (refl, refl)

-- The bound on the bytes of a table's text, and the lines that refusals of writing are about.
pub text_bound : max_table_text ≡ 5_460
text_bound = refl

pub samples_refused_line : map (λ (s : RefusedLineSample). refused_line s.number s.place) refused_line_samples
    ≡ map (λ (s : RefusedLineSample). s.line) refused_line_samples
unfolding refused_line_samples refused_line about_task
samples_refused_line = refl

-- The tests of the sample flights and of the refusals, computed.
use mathlib.Core.Path.{◌≡◌, refl}
use mathlib.Core.Bool.{true}
use Rattle.base.specs.Lowest.{lowest_from, lowest, some_below, every_below}
use Rattle.base.specs.Places.{places_from, places}
use Rattle.base.specs.Lent.{content_after}
use Rattle.base.specs.Members.{every_member}
use Rattle.bits.specs.Bits.{bit_at, number, field, bits_of, bit_in, bytes_from, bytes_for, pack}
use Rattle.bits.specs.Rows.{row_bits, rows_bits}
use Rattle.clock.specs.Clock.{release_offset, deadline_offset, release_tick, deadline_tick}
use Rattle.table.specs.Tables.{task_at, table_of, no_table}
use Rattle.table.specs.Layout.{task_start, file_length, bad_count}
use Rattle.table.specs.Windows.{bad_window, contains, nested, no_later, similar}
use Rattle.table.specs.Kinds.{
  fails_earlier,
  pairwise,
  is_nested,
  of_neither_kind,
  bad_window_answer,
  kind_answer,
  windows_answer,
  table_windows_answer,
  nesting_answer,
}
use Rattle.table.specs.Reading.{count_in, p_in, q_in, task_from, task_in, table_in, padding_set, front_answer, head_answer, read_answer, read_reply}
use Rattle.table.specs.Writing.{head_bits, rows_file, file_of, too_wide, first_too_wide, rows_reply, write_reply, written_over}
use Rattle.table.specs.Moving.{moved_task, moved_outside, first_outside, moved_table, move_reply, moved_over}
use Rattle.table.specs.TableSamples.{p8_file}
use Rattle.schedule.specs.Jobs.{job_of, job_at}
use Rattle.schedule.specs.Ticks.{sum_below}
use Rattle.schedule.specs.Runs.{too_many, run_at_index, runs_of}
use Rattle.schedule.specs.Judging.{follow_from, each_follows, verdict_by_jobs, verdict, marked_weight, first_bad_mark, judge_by_verdict, judge_table, judge_reply}
use Rattle.schedule.specs.BusyCount.{shared, busy_reply}
use Rattle.schedule.specs.RunCheck.{out_of_order, first_out_of_order, check_answer}
use Rattle.schedule.specs.Queries.{first_run, runs_that, touching, stretch_of, found_first}
use Rattle.choice.specs.Choice.{works_fit, works_of, keep_lists, lex_less, discarded_worth, kept_worth, choice_key, better, best, best_list, chosen_over}
use Rattle.placement.specs.Placing.{works_placed, latest_first}
use Rattle.placement.specs.ByPosition.{number_at}
use Rattle.sequence.specs.InOrder.{ends_at, in_time, finish, fits_in_order, placed_in_order, first_late}
use Rattle.sequence.specs.OrderChoice.{choice_key_in_order, chosen_in_order_over}
use Rattle.orders.specs.Sorting.{insert_later, last_first}
use Rattle.orders.specs.NestOrder.{nest_before}
use Rattle.orders.specs.SimilarOrder.{similar_before}
use Rattle.orders.specs.KindOrder.{before_by, kind_before, order_last_first, jobs_last_first}
use Rattle.plans.specs.Planning.{
  exceeding_after,
  unmet_by,
  chosen_by,
  runs_by,
  too_short,
  plan_marks,
  plan_runs,
  marks_by,
  plan_runs_by,
  made_by,
  reply_by,
  plan_table,
  plan_reply,
  written_by,
  after_by,
  lists_after,
}
use Rattle.lines.specs.Ascii.{ascii, text_of}
use Rattle.lines.specs.Text.{decimal_within, decimal, fields, line}
use Rattle.printed_plan.specs.Printing.{
  drops_from,
  drop_lines,
  run_line,
  run_lines,
  plan_lines,
  refusal_text,
  reply_text,
  plan_text_by,
  plan_text,
  long_reply,
  printed,
  printed_within,
}
use Rattle.printed_plan.specs.NowText.{found_line, now_lines, now_text}
use Rattle.printed_plan.specs.ProgramInput.{number_in, output_of}
use Rattle.samples.specs.Samples.{computed_samples}
use Rattle.samples.specs.Refusals.{computed_rows}
use Rattle.samples.specs.SampleTests.{numbers_equal, runs_equal, tasks_equal, tables_equal, lists_equal, file_met, kind_met, plan_met, sample_met, call_met}

-- every sample flight and every call whose test is computed passes, and P8 is planned into lists that are long enough for every table
pub all_pass : (every_member sample_met computed_samples ≡ true) × (every_member call_met computed_rows ≡ true) × ((long_reply 0 p8_file).number ≡ 0)
unfolding every_member sample_met plan_met kind_met file_met call_met lists_equal tables_equal tasks_equal runs_equal numbers_equal text_of ascii output_of number_in now_text now_lines found_line printed_within printed long_reply plan_text plan_text_by reply_text refusal_text plan_lines run_lines run_line drop_lines drops_from line fields decimal decimal_within lists_after after_by written_by plan_reply plan_table reply_by made_by plan_runs_by plan_runs marks_by plan_marks number_at too_short runs_by chosen_by unmet_by exceeding_after jobs_last_first order_last_first before_by kind_before similar_before nest_before last_first insert_later chosen_in_order_over choice_key_in_order first_late placed_in_order fits_in_order finish in_time ends_at works_placed latest_first chosen_over best_list best better choice_key kept_worth discarded_worth lex_less keep_lists works_fit works_of sum_below stretch_of touching runs_that first_run check_answer first_out_of_order out_of_order busy_reply shared judge_reply judge_table first_bad_mark verdict each_follows follow_from runs_of run_at_index too_many job_at job_of moved_over move_reply first_outside moved_outside moved_table moved_task written_over write_reply rows_reply first_too_wide too_wide file_of rows_file head_bits read_answer head_answer front_answer padding_set table_in task_in task_from q_in p_in count_in nesting_answer table_windows_answer windows_answer kind_answer of_neither_kind is_nested pairwise fails_earlier similar no_later nested contains bad_window bad_count file_length task_start no_table table_of task_at release_tick deadline_tick release_offset deadline_offset rows_bits row_bits pack bytes_from bytes_for bit_in bits_of field number bit_at places_from places some_below lowest lowest_from content_after found_first judge_by_verdict marked_weight verdict_by_jobs every_below bad_window_answer read_reply
all_pass = (refl, refl, refl)

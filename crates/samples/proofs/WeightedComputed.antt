-- The tests of the rows of weighted tables, computed.
use mathlib.Core.Path.{◌≡◌, refl}
use mathlib.Core.Bool.{true}
use Rattle.base.specs.Lowest.{lowest_from, lowest, some_below, every_below}
use Rattle.base.specs.Places.{places_from, places}
use Rattle.base.specs.Lent.{content_after}
use Rattle.base.specs.Members.{every_member}
use Rattle.bits.specs.Bits.{bit_at, number, field, bits_of, bit_in, bytes_from, bytes_for, pack}
use Rattle.bits.specs.Rows.{row_bits, rows_bits}
use Rattle.clock.specs.Clock.{release_offset, deadline_offset, release_tick, deadline_tick}
use Rattle.table.specs.Tables.{task_at, table_of, no_table}
use Rattle.table.specs.Layout.{bad_count}
use Rattle.table.specs.Windows.{bad_window, contains, nested, no_later, similar}
use Rattle.table.specs.Kinds.{fails_earlier, pairwise, is_nested, of_neither_kind, bad_window_answer, nesting_answer, nested_answer}
use Rattle.table.specs.Reading.{count_in, p_in, q_in, padding_set, front_answer}
use Rattle.table.specs.Writing.{head_bits, rows_file, too_wide, first_too_wide, rows_reply}
use Rattle.schedule.specs.Jobs.{job_of, job_at}
use Rattle.schedule.specs.Ticks.{sum_below}
use Rattle.schedule.specs.Runs.{too_many}
use Rattle.schedule.specs.Judging.{follow_from, each_follows, verdict_by_jobs, verdict, marked_weight, first_bad_mark, judge_by_verdict, judge_table, judge_reply}
use Rattle.choice.specs.Choice.{works_fit, works_of, keep_lists, lex_less, discarded_worth, kept_worth, choice_key, better, best, best_list, chosen_over}
use Rattle.placement.specs.Placing.{works_placed, latest_first}
use Rattle.placement.specs.ByPosition.{number_at}
use Rattle.sequence.specs.InOrder.{ends_at, in_time, finish, fits_in_order, placed_in_order, first_late}
use Rattle.sequence.specs.OrderChoice.{choice_key_in_order, chosen_in_order_over}
use Rattle.orders.specs.Sorting.{insert_later, last_first}
use Rattle.orders.specs.NestOrder.{nest_before}
use Rattle.orders.specs.SimilarOrder.{similar_before}
use Rattle.orders.specs.KindOrder.{before_by, kind_before, order_last_first, jobs_last_first}
use Rattle.plans.specs.Planning.{exceeding_after, unmet_by, chosen_by, runs_by, too_short, plan_marks, plan_runs, marks_by, plan_runs_by, made_by, reply_by, plan_table, plan_reply, written_by, after_by, lists_after}
use Rattle.samples.specs.SampleTests.{numbers_equal, runs_equal, tasks_equal, tables_equal, lists_equal}
use Rattle.weighted_file.specs.Weights.{weighted_length, weight_at, weighted_of, no_weighted, file_of_weighted, weighted_in, bad_weight, weight_answer, weighted_rules, weighted_answer, weighted_read_reply, weighted_write_reply, weighted_written_over}
use Rattle.samples.specs.WeightedSamples.{weighted_rows}
use Rattle.samples.specs.WeightedTests.{weighted_met}

pub weighted_pass : every_member weighted_met weighted_rows ≡ true
unfolding every_member lists_equal tables_equal tasks_equal runs_equal numbers_equal lists_after after_by written_by plan_reply plan_table reply_by made_by plan_runs_by plan_runs marks_by plan_marks number_at too_short runs_by chosen_by unmet_by exceeding_after jobs_last_first order_last_first before_by kind_before similar_before nest_before last_first insert_later chosen_in_order_over choice_key_in_order first_late placed_in_order fits_in_order finish in_time ends_at works_placed latest_first chosen_over best_list best better choice_key kept_worth discarded_worth lex_less keep_lists works_fit works_of sum_below judge_reply judge_table first_bad_mark verdict each_follows follow_from too_many job_at job_of rows_reply first_too_wide too_wide rows_file head_bits front_answer padding_set q_in p_in count_in nesting_answer of_neither_kind is_nested pairwise fails_earlier similar no_later nested contains bad_window bad_count no_table table_of task_at deadline_tick release_offset deadline_offset rows_bits row_bits pack bytes_from bytes_for bit_in bits_of field number bit_at places_from places some_below lowest lowest_from content_after judge_by_verdict marked_weight verdict_by_jobs every_below bad_window_answer weighted_met nested_answer weighted_written_over weighted_write_reply weighted_read_reply weighted_answer weighted_rules weight_answer bad_weight weighted_in file_of_weighted no_weighted weighted_of weight_at weighted_length release_tick
weighted_pass = refl

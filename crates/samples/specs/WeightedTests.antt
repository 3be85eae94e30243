-- For the proofs of the samples alone: the tests of the rows of weighted tables, to be computed.
use Rattle.std.specs.Prelude.{Bool, eqb}
use Rattle.base.specs.Tests.{and}
use Rattle.table.specs.Answers.{number_of, place_of}
use Rattle.weighted_file.specs.Weights.{file_of_weighted, weighted_read_reply, weighted_write_reply, weighted_written_over, weighted_read}
use Rattle.schedule.specs.Judging.{judge_reply}
use Rattle.plans.specs.Planning.{plan_reply, lists_left}
use Rattle.samples.specs.WeightedSamples.{WeightedCall, files, reads, writes, writes_over, plans, judges, limits}
use Rattle.samples.specs.SampleTests.{numbers_equal, tables_equal, lists_equal, plan_parts, written_parts, judged_parts}

-- the calls
unfoldable pub weighted_met : WeightedCall → Bool
weighted_met (files w file) = numbers_equal (file_of_weighted w) file
weighted_met (reads file number place w) =
    and (eqb (number_of (weighted_read_reply file).answer) number)
    (and (eqb (place_of (weighted_read_reply file).answer) place)
    (and (tables_equal (weighted_read_reply file).weighted.table w.table) (numbers_equal (weighted_read_reply file).weighted.weights w.weights)))
weighted_met (writes w room reply) = numbers_equal (written_parts (weighted_write_reply w room)) (written_parts reply)
weighted_met (writes_over w out after) = numbers_equal (weighted_written_over w out) after
weighted_met (plans file launch lists reply after) =
    and (numbers_equal (plan_parts (plan_reply launch (weighted_read file) lists)) (plan_parts reply))
    (lists_equal (lists_left launch (weighted_read file) reply lists) after)
weighted_met (judges file launch marks runs reply) = numbers_equal (judged_parts (judge_reply launch (weighted_read file) marks runs)) (judged_parts reply)
weighted_met (limits limit number) = eqb limit number

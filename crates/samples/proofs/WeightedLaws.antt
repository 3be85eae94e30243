-- Each call of the table of weighted samples gets the whole reply of its row.
use mathlib.Core.Path.{◌≡◌}
use mathlib.Core.Bool.{true}
use lib.Dec.{eqb}
use borrow.Author.Tests.{eqb-true}
use Rattle.base.specs.Tests.{and}
use Rattle.base.specs.Members.{All}
use Rattle.table.specs.Answers.{number_of, place_of}
use Rattle.weighted_file.specs.Weights.{weighted_read_reply, weighted_read}
use Rattle.plans.specs.Planning.{plan_reply, lists_left}
use Rattle.samples.specs.SampleTests.{numbers_equal, tables_equal, lists_equal, plan_parts}
use Rattle.samples.specs.WeightedSamples.{WeightedCall, files, reads, writes, writes_over, plans, judges, limits, WeightedSays, weighted_rows}
use Rattle.samples.specs.WeightedTests.{weighted_met}
use Rattle.samples.proofs.SameLaws.{pass_all, both, three, numbers_same, table_same, lists_same, planned_same, written_same, judged_same}
use Rattle.samples.proofs.WeightedComputed.{weighted_pass}

-- what the test of a call says
weighted_says : (call : WeightedCall) → weighted_met call ≡ true → WeightedSays call
unfolding weighted_met
weighted_says (files w file) e = numbers_same _ _ e
weighted_says (reads file number place w) e =
    let reply = weighted_read_reply file in
    let value = and (tables_equal reply.weighted.table w.table) (numbers_equal reply.weighted.weights w.weights) in
    let parts = three (eqb (number_of reply.answer) number) (eqb (place_of reply.answer) place) value (eqb-true _ _) (eqb-true _ _) (λ v. v) e in
    let tables = both (tables_equal reply.weighted.table w.table) (numbers_equal reply.weighted.weights w.weights) (table_same _ _) (numbers_same _ _) parts.2 in
    (parts.0, parts.1, tables.0, tables.1)
weighted_says (writes w room reply) e = written_same _ _ e
weighted_says (writes_over w out after) e = numbers_same _ _ e
weighted_says (plans file launch lists reply after) e =
    both (numbers_equal (plan_parts (plan_reply launch (weighted_read file) lists)) (plan_parts reply))
    (lists_equal (lists_left launch (weighted_read file) reply lists) after) (planned_same _ _) (lists_same _ _) e
weighted_says (judges file launch marks runs reply) e = judged_same _ _ e
weighted_says (limits limit number) e = eqb-true _ _ e

-- Every row.
pub weighted_samples_lem : All WeightedSays weighted_rows
weighted_samples_lem = pass_all WeightedSays weighted_met weighted_rows weighted_says weighted_pass

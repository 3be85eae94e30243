-- `sequencing::choose_in` meets its contract.
use Prim.Native.Nat.{◌≤◌}
use mathlib.Core.Path.{◌∙◌}
use native.Mathlib.Omega.{arith}
use Rattle.sequence.proofs.KeptRowLaws.{Gives, most_gives}
use Rattle.sequencing.proofs.choose_in.Goals as goal

pub read_back-keeps-requires : goal.read_back-keeps-requires
read_back-keeps-requires c =
    let found : Gives (c.args.jobs.now) c.rows_of-counts.result.most =
    most_gives _ c.requires.all_bounded _ c.rows_of-counts.ensures.most_is c.requires.count_value in
    record { count_le_max_tasks = c.requires.count_le_max_tasks; most_le_count = c.rows_of-counts.ensures.most_within; all_bounded = c.requires.all_bounded; room_for = c.rows_of-counts.ensures.room; rows_kept = c.rows_of-counts.ensures.rows_kept; mandatory_value = c.rows_of-counts.ensures.mandatory_is; most_bound = (found).below }

pub overflow_sub-result : goal.overflow_sub-result
overflow_sub-result c =
    let found : Gives (c.args.jobs.now) c.rows_of-counts.result.most =
    most_gives _ c.requires.all_bounded _ c.rows_of-counts.ensures.most_is c.requires.count_value in
    let most-parts : c.rows_of-counts.result.most ≤ c.args.parts = omega (arith, (found).others, c.requires.parts_of.0) in
    most-parts

pub returns : goal.returns
returns c =
    let found : Gives (c.args.jobs.now) c.rows_of-counts.result.most =
    most_gives _ c.requires.all_bounded _ c.rows_of-counts.ensures.most_is c.requires.count_value in
    let gives = found in
    (c.read_back-keeps.ensures ∙ gives.marks, gives.keeps, omega (arith, gives.others, c.requires.parts_of.0))

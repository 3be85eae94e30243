use Prim.Native.Nat.{ℕ, ◌<◌}
use mathlib.Core.Path.{◌∙◌}
use mathlib.Core.Bool.{false}
use native.Mathlib.Omega.{arith}
use lib.ListN.{length, get_or}
use Rattle.base.proofs.PlaceLaws.{places_length}
use Rattle.base.specs.Arrays.{first_places}
use Rattle.schedule.specs.declared.Job.{Job}
use Rattle.choice.specs.Choice.{weighed}
use Rattle.choice.specs.KeepLists.{ChosenFor}
use Rattle.choice.specs.Decisions.{back_over}
use Rattle.schedule.specs.JobArrays.{no_job}
use Rattle.choice.proofs.BackLaws.{back_length, walked_start, walked_decision, walked_kept, walked_discarded, walked_mark, walked_end}
use Rattle.choice.proofs.JobLists.{places_whole}
use Rattle.weighted_choosing.proofs.CountLaws.{counted_start, counted-kept, counted-discarded, counted_end}
use Rattle.weighted_choosing.proofs.read_back.Goals.{else-keep, then-keep}
use Rattle.weighted_choosing.proofs.read_back.Goals as goal

-- where the function was entered
-- the loop from which a bit is read
pub loop-i-init : goal.loop-i-init
loop-i-init c =
    (walked_start _ _ _ _ _ (omega (arith, c.requires.weights_decided.within)) (rw (places_whole no_job c.args.jobs.now) c.requires.weights_decided.last.below), counted_start _ _ _)

pub overflow_sub-left : goal.overflow_sub-left
overflow_sub-left c =
    let decision = c.bit_set-keep.ensures ∙ walked_decision _ _ _ _ _ _ _ _ _ c.loop-i.invariant.0 (omega arith) c.requires.weights_decided.decided in
    omega (arith, (walked_kept _ _ _ _ _ _ _ _ _ c.requires.count_le_max_tasks c.loop-i.invariant.0 (omega arith) decision c.if-keep.true).0, c.weight_of-weight.ensures)

pub loop-i-preserved : goal.loop-i-preserved
loop-i-preserved c =
    let inside : c.loop-i.i < (length c.args.jobs.now) = omega arith in
    let walked = c.loop-i.invariant.0 in
    let decision = c.bit_set-keep.ensures ∙ walked_decision _ _ _ _ _ _ _ _ _ walked inside c.requires.weights_decided.decided in
    let i = c.loop-i.i in
    let keeps = c.loop-i.keeps in
    let size = back_length _ _ _ _ ∙ places_length _ _ in
    elim c.if-keep.branch [
      | then-keep w ↦ let next = (walked_kept _ _ _ _ _ _ _ _ _ c.requires.count_le_max_tasks walked inside decision w.if-keep.true).1 in
          let mark = walked_mark _ _ _ _ _ i _ keeps c.bit_set-keep.result c.requires.count_le_max_tasks next inside ∙ w.if-keep.true in
          rw (w.left-is, c.weight_of-weight.ensures, w.kept-is, w.discarded-is) (next, counted-kept _ _ _ size _ _ _ _ inside c.worth-part.ensures c.loop-i.invariant.1 mark)
      | else-keep w ↦ let next = walked_discarded _ _ _ _ _ _ _ _ _ c.requires.count_le_max_tasks walked inside decision w.if-keep.false in
          let mark = walked_mark _ _ _ _ _ i _ keeps c.bit_set-keep.result c.requires.count_le_max_tasks next inside ∙ w.if-keep.false in
          rw (w.left-is, w.kept-is, w.discarded-is) (next, counted-discarded _ _ _ size _ _ _ _ inside c.worth-part.ensures c.loop-i.invariant.1 mark)
    ]

pub returns : goal.returns
returns c =
    let worth : Job → ℕ = weighed (λ k. get_or c.args.weights.now k 0) in
    let counts = counted_end _ _ _ _ _ _ (omega arith) c.loop-i.invariant.1 in
    let read : ChosenFor (λ all. back_over worth all c.args.most) (first_places no_job c.args.jobs.now (length c.args.jobs.now))
    (first_places false c.loop-i.keeps (length c.args.jobs.now)) c.loop-i.kept c.loop-i.discarded =
    (walked_end _ _ _ _ _ _ _ _ c.requires.count_le_max_tasks c.loop-i.invariant.0 (omega arith), counts.0, counts.1) in
    rw (places_whole no_job c.args.jobs.now) at read

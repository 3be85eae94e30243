use mathlib.Core.Path.{ap, ◌∙◌}
use mathlib.Core.List.{List}
use native.Mathlib.Omega.{arith}
use Rattle.choice.proofs.BackLaws.{walked_start, walked_decision, walked_kept, walked_discarded, walked_end}
use Rattle.schedule.specs.declared.Job.{Job}
use Rattle.schedule.specs.JobArrays.{no_job}
use Rattle.choice.specs.Decisions.{back_of}
use Rattle.choice.proofs.JobLists.{places_whole}
use Rattle.choosing.proofs.read_back.Goals.{else-keep, then-keep}
use Rattle.choosing.proofs.read_back.Goals as goal

pub loop-i-init : goal.loop-i-init
loop-i-init c =
    walked_start _ _ _ _ _ c.requires.most_le_count (rw (places_whole no_job c.args.jobs.now) c.requires.most_bound)

pub overflow_sub-left : goal.overflow_sub-left
overflow_sub-left c =
    let decision = walked_decision _ _ _ _ _ _ _ _ _ c.loop-i.invariant (omega arith) c.requires.decided in
    omega (
      arith,
      (walked_kept _ _ _ _ _ _ _ _ _ c.requires.count_le_max_tasks c.loop-i.invariant (omega arith) (c.keeps_above-keep.ensures ∙ decision) c.if-keep.true).0,
      c.worth-left.ensures,
    )

pub loop-i-preserved : goal.loop-i-preserved
loop-i-preserved c =
    let walked = c.loop-i.invariant in
    let decision = c.keeps_above-keep.ensures ∙ walked_decision _ _ _ _ _ _ _ _ _ walked (omega arith) c.requires.decided in
    elim c.if-keep.branch [ then-keep w ↦ rw (w.left-is, w.worth-left.ensures) (walked_kept _ _ _ _ _ _ _ _ _ c.requires.count_le_max_tasks walked (omega arith) decision w.if-keep.true).1 | else-keep w ↦ rw w.left-is (walked_discarded _ _ _ _ _ _ _ _ _ c.requires.count_le_max_tasks walked (omega arith) decision w.if-keep.false) ]

pub returns : goal.returns
returns c =
    walked_end _ _ _ _ _ _ _ _ c.requires.count_le_max_tasks c.loop-i.invariant (omega arith)
    ∙ ap (λ (jobs : List Job). back_of jobs c.args.most) (places_whole no_job c.args.jobs.now)

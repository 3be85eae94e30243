use Prim.Native.Nat.{◌-◌}
use mathlib.Core.Path.{◌≡◌, sym, ◌∙◌}
use native.Mathlib.Omega.{arith}
use mathlib.Core.List.{List, reverse}
use lib.ListN.{length, get_or}
use Rattle.base.specs.Arrays.{first_places}
use Rattle.schedule.specs.declared.Job.{Job}
use Rattle.choice.proofs.JobLists.{places_whole}
use Rattle.plans.specs.Planning.{exceeding_after}
use Rattle.schedule.specs.JobArrays.{no_job, Bounded}
use Rattle.plans.proofs.ExceedLaws.{exceeding_found, exceeding_passed, exceeding_none}
use Rattle.planner.proofs.first_exceeding.Goals as goal

-- the walk goes over all of the jobs
all : (jobs : List Job) → exceeding_after (length jobs) 0 (reverse (first_places no_job jobs (length jobs))) ≡ exceeding_after (length jobs) 0 (reverse jobs)
all jobs = rw (places_whole no_job jobs)

pub returns-then-window_ticks-sum : goal.returns-then-window_ticks-sum
returns-then-window_ticks-sum c =
    sym (exceeding_found (λ k. get_or c.args.jobs.now k no_job) (length c.args.jobs.now) c.loop-i.sum c.loop-i.i (omega arith)
    (omega (arith, c.window_ticks.ensures)))
    ∙ (c.loop-i.invariant.2 ∙ all c.args.jobs.now)

pub loop-i-preserved : goal.loop-i-preserved
loop-i-preserved c =
    let bounded : Bounded (get_or c.args.jobs.now (c.loop-i.i - 1) no_job) = c.requires.all_bounded (c.loop-i.i - 1) (omega arith) in (
      omega arith,
      omega (arith, (bounded).mandatory),
      exceeding_passed (λ k. get_or c.args.jobs.now k no_job) (length c.args.jobs.now) c.loop-i.sum c.loop-i.i (omega arith)
          (omega (arith, c.window_ticks.ensures))
          ∙ c.loop-i.invariant.2,
    )

pub returns : goal.returns
returns c =
    sym (exceeding_none (λ k. get_or c.args.jobs.now k no_job) (length c.args.jobs.now) c.loop-i.sum c.loop-i.i (omega arith)) ∙ (c.loop-i.invariant.2 ∙ all c.args.jobs.now)

-- For the proofs of judging's code alone: the four conditions of a yes that the pass over the runs looks at, together; the fifth, the totals, is
-- looked at afterwards.
use Rattle.std.specs.Prelude.{ℕ, ◌<◌, ◌≡◌, List, Bool, true, false, leb, ltb, get_or, Option, MatchOption}
use Rattle.base.specs.Limits.{max_tasks}
use Rattle.base.specs.Tests.{and}
use Rattle.schedule.specs.declared.Job.{Job}
use Rattle.schedule.specs.declared.Run.{Run}
use Rattle.schedule.specs.Judging.{none_empty, follow_from, known_tasks, in_windows, total_of, exact_totals}

-- the four together, of runs of which the first starts at tick `from` or later
unfoldable pub passes : (ℕ → Job) → ℕ → ℕ → List Run → Bool
passes job n from runs = and (none_empty runs) (and (follow_from from runs) (and (known_tasks n runs) (in_windows job runs)))

-- those of one run, by its start and end, whose task is known
unfoldable pub run_fits : Job → ℕ → ℕ → ℕ → Bool
run_fits job from start end = and (ltb start end) (and (leb from start) (and (leb job.release start) (leb end job.deadline)))

-- what the pass comes to: nothing where the runs do not pass, and where they do the ticks that the runs of each task total
abbrev pub Passed : (ℕ → Job) → ℕ → List Run → Option (List ℕ) → Type 0
Passed job n runs totals =
    MatchOption totals (passes job n 0 runs ≡ false)
    (λ totals. (passes job n 0 runs ≡ true) × ((k : ℕ) → k < max_tasks → get_or totals k 0 ≡ total_of runs k))

-- all five conditions of a yes, in the order in which the code looks at them
unfoldable pub verdict_by_pass : (ℕ → Job) → ℕ → List ℕ → List Run → Bool
verdict_by_pass job n marks runs = and (passes job n 0 runs) (exact_totals job marks n runs)

-- For the proofs of the code alone: what planning refuses, for each case the number and the place, and the reply; and what it refuses of jobs before they are
-- planned.
use Rattle.std.specs.Prelude.{ℕ, List, Bool, length, ◌≡◌, ◌≢◌, Result, Ok, Err, MatchResult}
use Rattle.table.specs.Answers.{refusal_number, refusal_place}
use Rattle.schedule.specs.declared.Job.{Job}
use Rattle.plans.specs.declared.Planned.{Planned}
use Rattle.plans.specs.Planning.{plan_declined}
use Rattle.plans.specs.PlanParts.{refused_by}
use Rattle.planner.specs.declared.PlanRefusal.{PlanRefusal}
use Rattle.planner.specs.declared.PlanRefusal.TheVariants.{File, Launch, Unmet, ShortLists}

-- the number of a refusal
abbrev pub plan_number : PlanRefusal → ℕ
plan_number (File refusal) = refusal_number refusal
plan_number Launch = 14
plan_number (Unmet position) = 8
plan_number ShortLists = 9

-- the place of a refusal: that of reading, a position, or 0
abbrev pub plan_place : PlanRefusal → ℕ
plan_place (File refusal) = refusal_place refusal
plan_place Launch = 0
plan_place (Unmet position) = position
plan_place ShortLists = 0

-- the reply of planning by what it comes to
abbrev pub planned_of : Result Planned PlanRefusal → Planned
planned_of (Ok planned) = planned
planned_of (Err refusal) = plan_declined (plan_number refusal) (plan_place refusal)

-- the refusal that is due to jobs, for lists of these lengths, and none where none is
abbrev pub RefusedBy : Bool → List Job → ℕ → ℕ → ℕ → ℕ → Result (Unit {0}) PlanRefusal → Type 0
RefusedBy nested jobs marks starts ends tasks refused =
    MatchResult refused
    (λ none. plan_declined 0 0 ≡ refused_by nested (length jobs) jobs marks starts ends tasks)
    (λ refusal. (plan_declined (plan_number refusal) (plan_place refusal) ≡ refused_by nested (length jobs) jobs marks starts ends tasks)
    × (plan_number refusal ≢ 0))

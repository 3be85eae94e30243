-- What a running of jobs is (document 01's term; the literature says schedule), whoever made it. It gives each tick to one task or to none, a task
-- gets ticks of its window only, and as many as it may: its mandatory ticks, or its mandatory and optional ticks together.
use Rattle.std.specs.Prelude.{ℕ, ◌+◌, ◌≤◌, ◌<◌, ◌≡◌, ◌⊎◌, List, [], ◌∷◌, eqb}
use Rattle.std.proofs.Math.Option.{some}
use Rattle.base.specs.Tests.{pick, and}
use Rattle.base.specs.Members.{All, Any}
use Rattle.table.specs.Reading.{one_each}
use Rattle.schedule.specs.declared.Job.{Job}
use Rattle.schedule.specs.Jobs.{counts}
use Rattle.schedule.specs.Ticks.{Owner, ticks_of}

-- the job has position i, and its window holds the tick
abbrev pub WindowHolds : ℕ → ℕ → Job → Type 0
WindowHolds tick i job = (job.position ≡ i) × (job.release ≤ tick) × (tick < job.deadline)

-- the ticks that a job gets
abbrev pub got : Owner → Job → ℕ
got owner job = ticks_of owner job.position job.release job.deadline

-- a job gets as many ticks as it may, where `May job n` says that it may get n
abbrev pub Gets : (Job → ℕ → Type 0) → Owner → Job → Type 0
Gets May owner job = May job (got owner job)

-- a running of jobs: whoever has a tick is a job whose window holds it, and each job gets as many as it may
pub record RunningOf (May : Job → ℕ → Type 0) (jobs : List Job) (owner : Owner) : Type 0 where
  pub inside : (tick i : ℕ) → owner tick ≡ some i → Any (WindowHolds tick i) jobs
  pub gets : All (Gets May owner) jobs

-- n ticks are the mandatory ticks of a job, or those and its optional ones: its optional part is run whole or not at all
abbrev pub Whole : Job → ℕ → Type 0
Whole job n = (n ≡ job.mandatory) ⊎ (n ≡ job.mandatory + job.optional)

-- a running of jobs whose optional parts are run whole or not at all
abbrev pub Running : List Job → Owner → Type 0
Running jobs owner = RunningOf Whole jobs owner

-- what the optional parts that a running discards weigh together, where `weight k` is what the one of position k weighs: it discards those above 0 ticks
-- whose job gets its mandatory ticks alone
unfoldable pub discarded_weight : (ℕ → ℕ) → List Job → Owner → ℕ
discarded_weight weight [] owner = 0
discarded_weight weight (job ∷ jobs) owner =
    pick (and (counts job) (eqb (got owner job) job.mandatory)) (weight job.position) 0 + discarded_weight weight jobs owner

-- how many it discards: each weighs 1
abbrev pub discards : List Job → Owner → ℕ
discards = discarded_weight one_each

-- no running of the jobs discards less weight
abbrev pub LeastWeight : (ℕ → ℕ) → List Job → Owner → Type 0
LeastWeight weight jobs owner = (other : Owner) → Running jobs other → discarded_weight weight jobs owner ≤ discarded_weight weight jobs other

-- nor fewer optional parts
abbrev pub Fewest : List Job → Owner → Type 0
Fewest = LeastWeight one_each

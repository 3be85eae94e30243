-- The order in which jobs are listed does not matter to a running: one of a list is one of every list with the same members.
use Prim.Native.Nat.{ℕ}
use mathlib.Core.Path.{◌≡◌}
use mathlib.Core.Logic.{◌↔◌}
use mathlib.Core.List.{List}
use Rattle.schedule.specs.declared.Job.{Job}
use Rattle.schedule.specs.Ticks.{Owner}
use Rattle.schedule.specs.Runnings.{WindowHolds, got, RunningOf}
use Rattle.base.specs.Members.{All, Any}
use Rattle.base.proofs.MemberLaws.{any_map, any_member, all_members}

-- every member of the first list is one of the second
abbrev pub Among : List Job → List Job → Type 0
Among jobs others = (job : Job) → Any (λ other. other ≡ job) jobs → Any (λ other. other ≡ job) others

-- some member is P there too
pub any_among : (P : Job → Type 0) (jobs others : List Job) → Among jobs others → Any P jobs → Any P others
any_among P jobs others f h =
    let m = any_member P jobs h in
    any_map (λ other. other ≡ m.0) P others (λ other e. rw e m.2) (f m.0 m.1)

-- and all members are P, where every member of the second list is one of the first
pub all_among : (P : Job → Type 0) (jobs others : List Job) → Among others jobs → All P jobs → All P others
all_among P jobs others f h = (all_members P others).1 (λ job m. (all_members P jobs).0 h job (f job m))

-- a running of one list is a running of the other, whatever each job may get
running_among : (May : Job → ℕ → Type 0) (jobs others : List Job) (owner : Owner) → Among jobs others → Among others jobs → RunningOf May jobs owner
    → RunningOf May others owner
running_among May jobs others owner f g r =
    record {
      inside = λ tick i e. any_among (WindowHolds tick i) jobs others f (r.inside tick i e);
      gets = all_among (λ job. May job (got owner job)) jobs others g r.gets;
    }

-- A running of jobs is a running of any list with the same members.
pub running_same : (May : Job → ℕ → Type 0) (jobs others : List Job) (owner : Owner) → Among jobs others → Among others jobs
    → RunningOf May jobs owner ↔ RunningOf May others owner
running_same May jobs others owner f g = (running_among May jobs others owner f g, running_among May others jobs owner g f)

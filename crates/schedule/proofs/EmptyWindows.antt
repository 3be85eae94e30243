-- Windows without a tick: the release tick is the deadline tick, or lies after it. A job with such a window gets nothing: in a running it has no mandatory
-- ticks, its optional part is discarded where it has ticks, and the other jobs have the same running without it.
use Prim.Native.Nat.{ℕ, ◌+◌}
use mathlib.Core.Path.{◌≡◌, refl, sym}
use mathlib.Core.Bool.{Bool, true, false}
use mathlib.Core.Logic.{◌⊎◌, inl, inr, ◌↔◌}
use mathlib.Core.List.{List, [], ◌∷◌, ◌++◌}
use native.Mathlib.Omega.{arith}
use Rattle.base.specs.Tests.{and}
use Rattle.base.specs.Members.{Any}
use Rattle.base.proofs.MemberLaws.{all_around, any_around}
use Rattle.schedule.specs.declared.Job.{Job}
use Rattle.schedule.specs.Jobs.{window_ticks, counts}
use Rattle.schedule.specs.Ticks.{Owner, is_task, one_if}
use Rattle.schedule.specs.Runnings.{WindowHolds, got, Whole, Gets, Running, discarded_weight, discards}
use Rattle.schedule.proofs.TickLaws.{count_grows}

-- a job with an empty window gets no tick
pub empty_got : (owner : Owner) (job : Job) → window_ticks job ≡ 0 → got owner job ≡ 0
empty_got owner job e = omega (arith, count_grows (λ tick. is_task job.position (owner tick)) job.deadline job.release (omega arith))

-- so it gets one of its two amounts exactly where it has no mandatory ticks
pub empty_gets : (owner : Owner) (job : Job) → window_ticks job ≡ 0 → Gets Whole owner job ↔ (job.mandatory ≡ 0)
empty_gets owner job e = rw (empty_got owner job e) (amount, λ z. inl (sym z))
  where
    amount : Whole job 0 → job.mandatory ≡ 0
    amount (inl h) = sym h
    amount (inr h) = omega arith

-- Jobs of which one has an empty window have a running exactly where that one has no mandatory ticks and the others have the running.
pub empty_running : (owner : Owner) (before after : List Job) (job : Job) → window_ticks job ≡ 0
    → Running (before ++ job ∷ after) owner ↔ ((job.mandatory ≡ 0) × Running (before ++ after) owner)
empty_running owner before after job e = (
  λ r.
      let each = (all_around (Gets Whole owner) before after job).0 r.gets in (
        (empty_gets owner job e).0 each.0,
        record { inside = λ tick i h. others tick i ((any_around (WindowHolds tick i) before after job).0 (r.inside tick i h)); gets = each.1 },
      ),
  λ r. record {
    inside = λ tick i h. (any_around (WindowHolds tick i) before after job).1 (inr (r.1.inside tick i h));
    gets = (all_around (Gets Whole owner) before after job).1 ((empty_gets owner job e).1 r.0, r.1.gets);
  },
)
  where
    others : (tick i : ℕ) → WindowHolds tick i job ⊎ Any (WindowHolds tick i) (before ++ after) → Any (WindowHolds tick i) (before ++ after)
    others tick i (inl h) = absurd (omega (arith, h.1, h.2))
    others tick i (inr h) = h

-- Such a running discards what it discards of the others, and the part of that one, where it has ticks.
pub empty_discards : (owner : Owner) (before after : List Job) (job : Job) → window_ticks job ≡ 0 → job.mandatory ≡ 0
    → discards (before ++ job ∷ after) owner ≡ one_if (counts job) + discards (before ++ after) owner
unfolding discarded_weight
empty_discards owner [] after job e z = rw (empty_got owner job e, z) (counted (counts job))
  where
    counted : (b : Bool) → one_if (and b true) + discards after owner ≡ one_if b + discards after owner
    counted true = refl
    counted false = refl
empty_discards owner (first ∷ before) after job e z = omega (arith, empty_discards owner before after job e z)

-- Each job of a placing has the latest ticks of its window that were still free.
use Prim.Native.Nat.{ℕ, suc, ◌≤◌, ◌<◌}
use mathlib.Core.Path.{◌≡◌, refl}
use mathlib.Core.Logic.{◌≢◌}
use mathlib.Core.List.{List, [], ◌∷◌}
use mathlib.Core.Bool.{true, false}
use mathlib.Core.Option.{none, some}
use native.Mathlib.Omega.{arith}
use native.Mathlib.Decide.{dec_lt}
use Rattle.base.specs.Members.{All}
use Rattle.base.proofs.TestLaws.{cases, both_absurd}
use Rattle.schedule.specs.declared.Job.{Job}
use Rattle.schedule.specs.Ticks.{Owner}
use Rattle.schedule.proofs.TickLaws.{count_grows}
use Rattle.schedule.proofs.RunLaws.{owner_cases}
use Rattle.choice.specs.Choice.{works_fit}
use Rattle.choice.proofs.WorkLaws.{works_tail}
use Rattle.placement.specs.Chains.{positions, Chain}
use Rattle.placement.specs.Placing.{is_free, reaches_back, place_job, works_placed}
use Rattle.placement.proofs.Necessity.{chain_tail}
use Rattle.placement.proofs.Sufficiency.{Inside, reach_true, reach_false, stranger, works_placed_lem}

-- jobs that stand outermost first: a tick u of its window that a job has not, and none of the jobs after it in the list has, lies before every
-- tick v that it has
abbrev pub Latest : List Job → Owner → Type 0
Latest [] owner = Unit {0}
Latest (job ∷ jobs) owner =
    ((u v : ℕ) → job.release ≤ u → u < job.deadline → owner u ≢ some job.position
    → ((j : ℕ) → owner u ≡ some j → All (λ k. j ≢ k) (positions jobs)) → owner v ≡ some job.position → u < v)
    × Latest jobs owner

-- One job more. `owner` is who has each tick before it is placed.
module _ (owner : Owner) (job : Job) (w : ℕ) where
  -- whoever has a tick keeps it
  given_stays : (tick k : ℕ) → owner tick ≡ some k → place_job owner job w tick ≡ some k
  given_stays tick k e = rw e

  -- and whoever else has one had it before
  given-before : (tick k : ℕ) → job.position ≢ k → place_job owner job w tick ≡ some k → owner tick ≡ some k
  given-before tick k n =
      owner_cases (owner tick)
      (λ e.
      cases (reaches_back owner job w tick)
      (λ q. rw (q, e) (λ h. let z : job.position ≡ k = cc in absurd (n z)))
      (λ q. rw (q, e) (λ h. h)))
      (λ i e. rw e (λ h. h))

  -- the job takes the free ticks that it reaches back to
  taken-reached : (tick : ℕ) → owner tick ≢ some job.position → place_job owner job w tick ≡ some job.position
      → reaches_back owner job w tick ≡ true
  taken-reached tick n =
      owner_cases (owner tick)
      (λ e. cases (reaches_back owner job w tick) (λ q. λ h. q) (λ q. rw (q, e) (λ h. let z : ◌≡◌ {A = ℕ} 0 1 = cc in absurd (omega arith))))
      (λ i e. rw e (λ h. absurd (n (rw e h))))

  -- and those that it leaves it does not
  left-unreached : (tick : ℕ) → owner tick ≡ none → place_job owner job w tick ≢ some job.position → reaches_back owner job w tick ≡ false
  left-unreached tick e n = cases (reaches_back owner job w tick) (λ q. absurd (n (rw (q, e)))) (λ q. q)

  -- of two ticks of the window it does not reach back to the earlier
  reached-later : (u v : ℕ) → job.release ≤ u → u < job.deadline → reaches_back owner job w u ≡ false → reaches_back owner job w v ≡ true → u < v
  reached-later u v a b p q =
      elim (dec_lt u v) [
        | yes l ↦ l
        | no l ↦
            let r = reach_true owner job w v q in
            omega (arith, reach_false owner job w u p a b, count_grows (λ tick. is_free (owner tick)) (suc v) (suc u) (omega arith))
      ]

  -- what the jobs before it have is still the latest
  latest-kept : (jobs : List Job) → All (λ k. job.position ≢ k) (positions jobs) → Latest jobs owner → Latest jobs (place_job owner job w)
  latest-kept [] d h = tt
  latest-kept (other ∷ jobs) d h = (
    λ u v a b left others has.
        h.0 u v a b
        (λ e. left (given_stays u other.position e))
        (λ j e. others j (given_stays u j e))
        (given-before v other.position d.0 has),
    latest-kept jobs d.1 h.1,
  )

  -- and so are the ticks that it takes
  latest-first : (jobs : List Job) → All (λ k. job.position ≢ k) (positions jobs) → Inside jobs owner
      → (u v : ℕ) → job.release ≤ u → u < job.deadline → place_job owner job w u ≢ some job.position
      → ((j : ℕ) → place_job owner job w u ≡ some j → All (λ k. j ≢ k) (positions jobs)) → place_job owner job w v ≡ some job.position → u < v
  latest-first jobs d inside u v a b left others has =
      let free : owner u ≡ none =
      owner_cases (owner u) (λ e. e) (λ j e. absurd (stranger j j jobs u (others j (given_stays u j e)) (inside u j e) refl)) in
      reached-later u v a b (left-unreached u free left)
      (taken-reached v (λ e. stranger job.position job.position jobs v d (inside v job.position e) refl) has)

-- Where works fit a chain of jobs, each job has the latest ticks that were still free.
pub works_latest : (jobs : List Job) (works : List ℕ) → Chain jobs → works_fit jobs works ≡ true → Latest jobs (works_placed jobs works)
unfolding works_placed works_fit
works_latest [] works c e = tt
works_latest (job ∷ jobs) [] c e = both_absurd false e refl
works_latest (job ∷ jobs) (work ∷ works) c e =
    let inner = chain_tail job jobs c in
    let fit = works_tail job jobs work works e in
    let owner : Owner = works_placed jobs works in (
      latest-first owner job work jobs c.distinct.0 (works_placed_lem jobs works inner fit).inside,
      latest-kept owner job work jobs c.distinct.0 (works_latest jobs works inner fit),
    )

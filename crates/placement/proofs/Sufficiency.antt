-- Works that fit can be placed: each job of a chain gets its work, in its window.
use Prim.Native.Nat.{ℕ, zero, suc, ◌+◌, ◌-◌, ◌≤◌, ◌<◌}
use mathlib.Core.Path.{◌≡◌, refl}
use mathlib.Core.Logic.{inl, inr, ◌≢◌}
use mathlib.Core.List.{List, [], ◌∷◌}
use mathlib.Core.Bool.{Bool, true, false}
use mathlib.Core.Option.{Option, none, some}
use native.Mathlib.Omega.{arith}
use native.Mathlib.Decide.{le_ind, dec_le}
use lib.Dec.{leb, ltb}
use borrow.Author.Tests.{ne_eqb, eq-eqb, ltb-true, ltb-false, leb-true, le-leb, lt-ltb}
use Rattle.base.specs.Tests.{and}
use Rattle.base.proofs.TestLaws.{cases, both_absurd, and_left, and_right}
use Rattle.schedule.specs.declared.Job.{Job}
use Rattle.schedule.specs.Ticks.{Owner, is_task, one_if, count_below, sum_below}
use Rattle.schedule.specs.Runnings.{WindowHolds, got}
use Rattle.base.specs.Members.{All, Any}
use Rattle.base.proofs.MemberLaws.{all_map}
use Rattle.base.specs.Sums.{total}
use Rattle.schedule.proofs.TickLaws.{count_grows, count_same, count_none}
use Rattle.schedule.proofs.RunLaws.{owner_cases}
use Rattle.choice.specs.Choice.{works_fit, works_of, fits}
use Rattle.choice.proofs.WorkLaws.{works_head, works_tail}
use Rattle.placement.specs.Chains.{Between, positions, Chain}
use Rattle.placement.specs.Placing.{is_free, free_in, give, reaches_back, place_job, works_placed, placed}
use Rattle.placement.specs.Outcomes.{GetsWorks}
use Rattle.placement.proofs.Necessity.{chain_tail}

-- whoever has a tick is a job whose window holds it
abbrev pub Inside : List Job → Owner → Type 0
Inside jobs owner = (tick i : ℕ) → owner tick ≡ some i → Any (WindowHolds tick i) jobs

-- One job more. `owner` is who has each tick before it is placed.
module _ (owner : Owner) (job : Job) (w : ℕ) where
  -- a job reaches back to a tick: it is in the window, and fewer than w free ticks lie after it
  pub reach_true : (tick : ℕ) → reaches_back owner job w tick ≡ true
      → (job.release ≤ tick) × (tick < job.deadline) × (free_in owner (suc tick) job.deadline < w)
  reach_true tick e =
      let few = ltb (free_in owner (suc tick) job.deadline) w in
      let a = and_left (leb job.release tick) (and (ltb tick job.deadline) few) e in
      let r = and_right (leb job.release tick) (and (ltb tick job.deadline) few) e in
      let b = and_left (ltb tick job.deadline) few r in
      let c = and_right (ltb tick job.deadline) few r in
      (leb-true job.release tick a, ltb-true tick job.deadline b, ltb-true (free_in owner (suc tick) job.deadline) w c)

  -- it does not reach back to a tick of the window: w free ticks lie after it
  pub reach_false : (tick : ℕ) → reaches_back owner job w tick ≡ false → job.release ≤ tick → tick < job.deadline
      → w ≤ free_in owner (suc tick) job.deadline
  reach_false tick e l h = ltb-false (free_in owner (suc tick) job.deadline) w (rw (le-leb job.release tick l, lt-ltb tick job.deadline h) at e)

  -- how many ticks below n are free before the job is placed
  abbrev freeBefore : ℕ → ℕ
  freeBefore n = count_below (λ tick. is_free (owner tick)) n

  -- and how many after
  abbrev freeAfter : ℕ → ℕ
  freeAfter n = count_below (λ tick. is_free (place_job owner job w tick)) n

  -- up to the deadline: the job takes the last w free ticks
  free-window : w ≤ free_in owner job.release job.deadline → (n : ℕ) → n ≤ job.deadline
      → freeBefore n ≡ freeAfter n + (freeBefore n - (freeBefore job.deadline - w))
  unfolding sum_below
  free-window f zero h = omega arith
  free-window f (suc n) h =
      let ih = free-window f n (omega arith) in
      let up = count_grows (λ tick. is_free (owner tick)) (suc n) job.deadline h in
      owner_cases (owner n)
      (λ e.
      cases (reaches_back owner job w n)
      (λ q.
      let x : one_if (is_free (owner n)) ≡ 1 = rw e in
      let y : one_if (is_free (place_job owner job w n)) ≡ 0 = rw (q, e) in
      let r = reach_true n q in
      omega (arith, count_grows (λ tick. is_free (owner tick)) job.release n r.0))
      (λ q.
      let x : one_if (is_free (owner n)) ≡ 1 = rw e in
      let y : one_if (is_free (place_job owner job w n)) ≡ 1 = rw (q, e) in
      elim (dec_le job.release n) [
        | yes l ↦ omega (arith, reach_false n q l h, count_grows (λ tick. is_free (owner tick)) job.release n l)
        | no l ↦ omega (arith, count_grows (λ tick. is_free (owner tick)) (suc n) job.release (omega arith))
      ]))
      (λ k e. rw e (omega arith))

  -- from the deadline on: w free ticks fewer
  free_after : w ≤ free_in owner job.release job.deadline → (n : ℕ) → job.deadline ≤ n → freeBefore n ≡ freeAfter n + w
  unfolding sum_below
  free_after f n h =
      le_ind (λ m. freeBefore m ≡ freeAfter m + w)
      (omega (arith, free-window f job.deadline (omega arith)))
      (λ m (k : job.deadline ≤ m) (e : freeBefore m ≡ freeAfter m + w).
      owner_cases (owner m)
      (λ q. cases (reaches_back owner job w m) (λ r. omega (arith, reach_true m r)) (λ r. rw (r, q) (omega arith)))
      (λ i q. rw q (omega arith)))
      n h

-- giving a tick to task i changes nothing for task k
give_other : (i k : ℕ) (test : Bool) (o : Option ℕ) → i ≢ k → is_task k (give i test o) ≡ is_task k o
give_other i k true none d = ne_eqb i k d
give_other i k false none d = refl
give_other i k test (some m) d = refl

-- a tick given to task i was free
give_sum : (i : ℕ) (test : Bool) (o : Option ℕ) → one_if (is_task i (give i test o)) + one_if (is_free (give i test o)) ≡ one_if (is_task i o) + one_if (is_free o)
give_sum i true none = rw (eq-eqb i i refl)
give_sum i false none = refl
give_sum i test (some m) = refl

-- the ticks that a job gains are no longer free
gains : (owner : Owner) (job : Job) (w n : ℕ)
    → count_below (λ tick. is_task job.position (place_job owner job w tick)) n + freeAfter owner job w n
    ≡ count_below (λ tick. is_task job.position (owner tick)) n + freeBefore owner job w n
unfolding sum_below
gains owner job w zero = refl
gains owner job w (suc n) = omega (arith, gains owner job w n, give_sum job.position (reaches_back owner job w n) (owner n))

-- where only jobs of a list have ticks, a job of no position in it has none
pub stranger : (i k : ℕ) (jobs : List Job) (tick : ℕ) → All (λ n. i ≢ n) (positions jobs) → Any (WindowHolds tick k) jobs → k ≢ i
stranger i k [] tick d x'' = absurd x''
stranger i k (job ∷ jobs) tick d (inl h) = let n = d.0 in omega arith
stranger i k (job ∷ jobs) tick d (inr h) = stranger i k jobs tick d.1 h

-- so no tick is its
pub absent : (owner : Owner) (i : ℕ) (jobs : List Job) → All (λ n. i ≢ n) (positions jobs) → Inside jobs owner → (tick : ℕ) → is_task i (owner tick) ≡ false
absent owner i jobs d h tick = owner_cases (owner tick) (λ e. rw e) (λ k e. rw e (ne_eqb k i (stranger i k jobs tick d (h tick k e))))

-- where two owners give the same ticks to each job, the jobs get the same works
pub same_works : (owner other : Owner) (jobs : List Job) (works : List ℕ)
    → All (λ i. (tick : ℕ) → is_task i (other tick) ≡ is_task i (owner tick)) (positions jobs) → GetsWorks jobs works owner → GetsWorks jobs works other
same_works owner other [] [] s g = tt
same_works owner other [] (work ∷ works) s g = g
same_works owner other (job ∷ jobs) [] s g = g
same_works owner other (job ∷ jobs) (work ∷ works) s g =
    let count : (n : ℕ) → count_below (λ tick. is_task job.position (other tick)) n ≡ count_below (λ tick. is_task job.position (owner tick)) n
    = λ n. count_same (λ tick. is_task job.position (other tick)) (λ tick. is_task job.position (owner tick)) n (λ tick l. s.0 tick) in
    (omega (arith, count job.release, count job.deadline, g.0), same_works owner other jobs works s.1 g.1)

-- the other jobs keep what they have
others_keep : (owner : Owner) (job : Job) (w : ℕ) (jobs : List Job) (works : List ℕ) → All (λ n. job.position ≢ n) (positions jobs)
    → GetsWorks jobs works owner → GetsWorks jobs works (place_job owner job w)
others_keep owner job w jobs works d g =
    same_works owner (place_job owner job w) jobs works
    (all_map _ _ (positions jobs) (λ i n tick. give_other job.position i (reaches_back owner job w tick) (owner tick) n) d) g

-- every tick passes a test that always holds
count_all : (n : ℕ) → count_below (λ tick. true) n ≡ n
unfolding sum_below
count_all zero = refl
count_all (suc n) = omega (arith, count_all n)

-- a placing of jobs: they have their ticks in their windows, each gets its work, and between any two ticks that their windows lie between
-- all other ticks are free
pub record Placed (jobs : List Job) (works : List ℕ) (owner : Owner) : Type 0 where
  pub inside : Inside jobs owner
  pub work : GetsWorks jobs works owner
  pub rest : (a b : ℕ) → a ≤ b → All (Between a b) jobs → free_in owner a b + total works ≡ b - a

-- One job more, where the list fits: `owner` is a placing of the jobs inside it.
module _ (owner : Owner) (job : Job) (w : ℕ) (jobs : List Job) (works : List ℕ) (c : Chain (job ∷ jobs))
    (fit : works_fit (job ∷ jobs) (w ∷ works) ≡ true) (p : Placed jobs works owner) where
  -- who has each tick when it is placed
  abbrev after : Owner
  after = place_job owner job w

  -- the window has enough free ticks
  enough : w ≤ free_in owner job.release job.deadline
  enough =
      elim (dec_le job.release job.deadline) [
        | yes h ↦ omega (arith, works_head job jobs w works fit, p.rest job.release job.deadline h c.nested.0)
        | no h ↦ omega (arith, works_head job jobs w works fit)
      ]

  -- before the release nothing changes
  free_before : (n : ℕ) → n ≤ job.release → freeBefore owner job w n ≡ freeAfter owner job w n
  free_before n h =
      let test : ℕ → Bool = λ tick. is_free (owner tick) in
      elim (dec_le n job.deadline) [
        | yes l ↦
            omega (arith, enough, free-window owner job w enough n l, count_grows test n job.release h, count_grows test n job.deadline l)
        | no l ↦ omega (arith, enough, free_after owner job w enough n (omega arith), count_grows test job.deadline job.release (omega arith))
      ]

  -- the job gets its work
  own-work : got after job ≡ w
  own-work =
      let z : (n : ℕ) → count_below (λ tick. is_task job.position (owner tick)) n ≡ 0
      = λ n.
      count_none (λ tick. is_task job.position (owner tick)) n (λ tick l. absent owner job.position jobs c.distinct.0 p.inside tick) in
      omega (
        arith,
        gains owner job w job.release,
        gains owner job w job.deadline,
        z job.release,
        z job.deadline,
        free_before job.release (omega arith),
        free_after owner job w enough job.deadline (omega arith),
      )

  -- all ticks that the jobs do not have are free
  own-rest : (a b : ℕ) → a ≤ b → All (Between a b) (job ∷ jobs) → free_in after a b + (w + total works) ≡ b - a
  own-rest a b h u =
      let test : ℕ → Bool = λ tick. is_free (owner tick) in
      omega (
        arith,
        p.rest a b h u.1,
        free_before a u.0.0,
        free_after owner job w enough b u.0.1,
        enough,
        count_grows test a job.release u.0.0,
        count_grows test job.deadline b u.0.1,
      )

  -- the job has ticks of its window, and the others have theirs
  own-inside : Inside (job ∷ jobs) after
  own-inside tick i e =
      owner_cases (owner tick)
      (λ q.
      cases (reaches_back owner job w tick)
      (λ r. inl (let v = reach_true owner job w tick r in (cc, v.0, v.1)))
      (λ r. absurd (let z : ◌≡◌ {A = ℕ} 0 1 = cc in omega arith)))
      (λ m q. inr (p.inside tick i (cc)))

  -- with the job placed it is a placing again
  place-step : Placed (job ∷ jobs) (w ∷ works) after
  place-step =
      record {
        inside = own-inside;
        work = (own-work, others_keep owner job w jobs works c.distinct.0 p.work);
        rest = own-rest;
      }

-- Sufficiency: where works of a chain fit, placing gives each job its work inside its window, and takes no other tick.
pub works_placed_lem : (jobs : List Job) (works : List ℕ) → Chain jobs → works_fit jobs works ≡ true → Placed jobs works (works_placed jobs works)
unfolding works_placed works_fit
works_placed_lem [] [] c e =
    record {
      inside = λ tick i e. let z : ◌≡◌ {A = ℕ} 0 1 = cc in omega arith;
      work = tt;
      rest = λ a b h u. omega (arith, count_all a, count_all b);
    }
works_placed_lem [] (work ∷ works) c e = both_absurd false e refl
works_placed_lem (job ∷ jobs) [] c e = both_absurd false e refl
works_placed_lem (job ∷ jobs) (work ∷ works) c e =
    place-step (works_placed jobs works) job work jobs works c e
    (works_placed_lem jobs works (chain_tail job jobs c) (works_tail job jobs work works e))

-- So does a keep list that fits.
pub fits_placed : (jobs : List Job) (keeps : List Bool) → Chain jobs → fits jobs keeps ≡ true → Placed jobs (works_of jobs keeps) (placed jobs keeps)
fits_placed jobs keeps c e = works_placed_lem jobs (works_of jobs keeps) c e

-- Laws of numbers by position: they say what the list says of the jobs, and how they are put into a lent list.
use Prim.Native.Nat.{ℕ, zero, suc, ◌+◌, ◌-◌, ◌≤◌, ◌<◌}
use mathlib.Core.Path.{◌≡◌, refl, sym, ap₂, ◌∙◌}
use mathlib.Core.Logic.{◌≢◌, ◌⊎◌, inl, inr}
use mathlib.Core.List.{List, [], ◌∷◌, ◌++◌}
use native.Mathlib.Omega.{arith}
use native.Mathlib.Decide.{dec_lt, ℕ_discrete}
use lib.ListN.{length, get_or, set, take, drop, length-set, length-take, length-drop, take-append-drop}
use lib.Seq.{get_or-set_same, get_or-set_other, get_or-take, get_or-drop, ext_get_or}
use borrow.Author.Tests.{eq-eqb, ne_eqb}
use Rattle.base.specs.Places.{places_from, places}
use Rattle.base.proofs.PlaceLaws.{places_at, places_is, left_start, left_step, left_end}
use Rattle.schedule.specs.declared.Job.{Job}
use Rattle.base.specs.Members.{All, Any}
use Rattle.base.specs.Arrays.{Distinct}
use Rattle.base.proofs.MemberLaws.{all_map}
use Rattle.placement.specs.Chains.{positions}
use Rattle.placement.specs.ByPosition.{number_at}
use Rattle.placement.proofs.PlanLaws.{SameNumbers}

-- the number of the first job's position, and of any other
number_first : (job : Job) (jobs : List Job) (number : ℕ) (numbers : List ℕ) → number_at (job ∷ jobs) (number ∷ numbers) job.position ≡ number
unfolding number_at
number_first job jobs number numbers = rw (eq-eqb job.position job.position refl)

number_other : (job : Job) (jobs : List Job) (number : ℕ) (numbers : List ℕ) (k : ℕ) → job.position ≢ k
    → number_at (job ∷ jobs) (number ∷ numbers) k ≡ number_at jobs numbers k
unfolding number_at
number_other job jobs number numbers k h = rw (ne_eqb job.position k h)

-- numbers by position that agree with a list agree with its tail, since no position stands twice
numbers_tail : (job : Job) (jobs : List Job) (number : ℕ) (numbers found : List ℕ) (js : List Job) → All (λ k. job.position ≢ k) (positions js)
    → All (λ j. get_or found j.position 0 ≡ number_at (job ∷ jobs) (number ∷ numbers) j.position) js
    → All (λ j. get_or found j.position 0 ≡ number_at jobs numbers j.position) js
numbers_tail job jobs number numbers found [] d h = tt
numbers_tail job jobs number numbers found (j ∷ js) d h = (
  h.0 ∙ number_other job jobs number numbers j.position d.0,
  numbers_tail job jobs number numbers found js d.1 h.1,
)

-- numbers that agree with a list at each position say the same as the list
numbers_agree : (jobs : List Job) (numbers found : List ℕ) → length numbers ≡ length jobs → Distinct (positions jobs)
    → All (λ job. get_or found job.position 0 ≡ number_at jobs numbers job.position) jobs → SameNumbers jobs numbers found
numbers_agree [] [] found l d h = tt
numbers_agree [] (number ∷ numbers) found l d h = absurd (omega arith)
numbers_agree (job ∷ jobs) [] found l d h = absurd (omega arith)
numbers_agree (job ∷ jobs) (number ∷ numbers) found l d h = (
  h.0 ∙ number_first job jobs number numbers,
  numbers_agree jobs numbers found (omega arith) d.1 (numbers_tail job jobs number numbers found jobs d.0 h.1),
)

-- The numbers by position say the same as the list.
pub numbers_same : (jobs : List Job) (numbers : List ℕ) (n : ℕ) → length numbers ≡ length jobs → Distinct (positions jobs) → All (λ job. job.position < n) jobs
    → SameNumbers jobs numbers (places (number_at jobs numbers) n)
numbers_same jobs numbers n l d h =
    numbers_agree jobs numbers (places (number_at jobs numbers) n) l d
    (all_map (λ job. job.position < n) (λ job. get_or (places (number_at jobs numbers) n) job.position 0 ≡ number_at jobs numbers job.position) jobs
    (λ job m. places_at (number_at jobs numbers) n job.position 0 m) h)

-- a fact of every position of a stretch of places
all_from : (P : ℕ → Type 0) (at : ℕ → Job) (first count i : ℕ) → All P (positions (places_from at first count)) → first ≤ i → i < first + count → P (at i).position
unfolding places_from
all_from P at first zero i h a b = absurd (omega arith)
all_from P at first (suc count) i h a b =
    elim (dec_lt first i) [
      | yes l ↦ all_from P at (suc first) count i h.1 l (omega arith)
      | no l ↦ let e : first ≡ i = omega arith in rw (← e) h.0
    ]

-- the number of the job at a place
number_from : (at : ℕ → Job) (number : ℕ → ℕ) (first count i : ℕ) → Distinct (positions (places_from at first count)) → first ≤ i → i < first + count
    → number_at (places_from at first count) (places_from number first count) (at i).position ≡ number i
unfolding places_from
number_from at number first zero i d a b = absurd (omega arith)
number_from at number first (suc count) i d a b =
    elim (dec_lt first i) [
      | yes l ↦
          number_other (at first) (places_from at (suc first) count) (number first) (places_from number (suc first) count) (at i).position
          (all_from (λ k. (at first).position ≢ k) at (suc first) count i d.0 l (omega arith))
          ∙ number_from at number (suc first) count i d.1 l (omega arith)
      | no l ↦
          let e : first ≡ i = omega arith in
          rw (← e) (number_first (at first) (places_from at (suc first) count) (number first) (places_from number (suc first) count))
    ]

-- Numbers that are put into a lent list one job after another: each position below n is still to come or holds its number, and nothing beyond
-- n has changed.
module _ (at : ℕ → Job) (number : ℕ → ℕ) (n : ℕ) (lent : List ℕ) where
  pub record Put (i : ℕ) (numbers : List ℕ) : Type 0 where
    pub length_is : length numbers ≡ length lent
    pub below : (k : ℕ) → k < n → Any (λ job. job.position ≡ k) (places_from at i (n - i)) ⊎ (get_or numbers k 0 ≡ number_at (places at n) (places number n) k)
    pub beyond : (k : ℕ) → n ≤ k → get_or numbers k 0 ≡ get_or lent k 0

  -- at the beginning every position is still to come
  pub put_start : ((k : ℕ) → k < n → Any (λ job. job.position ≡ k) (places at n)) → Put 0 lent
  put_start cover = record { length_is = refl; below = λ k l. inl (rw (left_start at n) (cover k l)); beyond = λ k l. refl }

  -- the number of the job at place i is put in
  pub put_next : Distinct (positions (places at n)) → n ≤ length lent → (i : ℕ) (numbers : List ℕ) (x : ℕ) → i < n → (at i).position < n → x ≡ number i
      → Put i numbers → Put (i + 1) (set numbers (at i).position x)
  unfolding places
  put_next d room i numbers x l m e f =
      record {
        length_is = rw (length-set numbers (at i).position x) f.length_is;
        below = λ k b.
            elim (ℕ_discrete k (at i).position) [
              | yes s ↦
                  inr
                  (rw (s, get_or-set_same numbers (at i).position x 0 (omega (arith, f.length_is)))
                  (e ∙ sym (number_from at number 0 n i d (omega arith) (omega arith))))
              | no s ↦ rw (get_or-set_other numbers (at i).position k x 0 s) (later (places_from at (i + 1) (n - (i + 1))) k s (rw (left_step at n i l) at (f.below k b)))
            ];
        beyond = λ k b. rw (get_or-set_other numbers (at i).position k x 0 (omega arith)) (f.beyond k b);
      }
    where
      later : {C : Type 0} (rest : List Job) (k : ℕ) → k ≢ (at i).position → Any (λ job. job.position ≡ k) (at i ∷ rest) ⊎ C → Any (λ job. job.position ≡ k) rest ⊎ C
      later rest k s (inl (inl q)) = absurd (s (sym q))
      later rest k s (inl (inr q)) = inl q
      later rest k s (inr q) = inr q

  -- at the end every position holds its number
  pub put_end : (i : ℕ) (numbers : List ℕ) → n ≤ i → n ≤ length lent → Put i numbers
      → numbers ≡ places (number_at (places at n) (places number n)) n ++ drop n lent
  put_end i numbers l room f =
      let front : take n numbers ≡ places (number_at (places at n) (places number n)) n =
      places_is (number_at (places at n) (places number n)) n 0 (take n numbers) (rw (length-take n numbers) (omega (arith, f.length_is)))
      (λ k b. get_or-take n numbers k 0 b ∙ come k (f.below k b)) in
      let back : drop n numbers ≡ drop n lent =
      ext_get_or 0 (drop n numbers) (drop n lent) (rw (length-drop n numbers, length-drop n lent, f.length_is))
      (λ k b. rw (get_or-drop n numbers k 0, get_or-drop n lent k 0) (f.beyond (n + k) (omega arith))) in
      sym (take-append-drop n numbers) ∙ ap₂ (λ (a b : List ℕ). a ++ b) front back
    where
      come : (k : ℕ) {C : Type 0} → Any (λ job. job.position ≡ k) (places_from at i (n - i)) ⊎ C → C
      come k (inl q) = absurd (rw (left_end at n i l) at q)
      come k (inr q) = q

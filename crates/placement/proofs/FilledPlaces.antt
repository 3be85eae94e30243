-- The runs of jobs that stand at the places of a list, filled in from the last job to the first.
use Prim.Native.Nat.{ℕ, zero, suc, ◌+◌, ◌-◌, ◌*◌, ◌≤◌, ◌<◌}
use mathlib.Core.Path.{◌≡◌, refl, sym, ap, ◌∙◌}
use mathlib.Core.List.{List, [], ◌∷◌, reverse}
use mathlib.Core.Bool.{Bool, true, false}
use native.Mathlib.Omega.{arith}
use lib.ListN.{length, get_or}
use Rattle.base.specs.Places.{places_from, places}
use Rattle.base.specs.Arrays.{first_places}
use Rattle.base.proofs.PlaceLaws.{from_length, left_start, left_step, left_end}
use Rattle.schedule.specs.declared.Job.{Job}
use Rattle.schedule.specs.declared.Run.{Run}
use Rattle.schedule.specs.Jobs.{work_with}
use Rattle.schedule.specs.JobArrays.{no_job}
use Rattle.base.specs.Members.{All}
use Rattle.choice.specs.Choice.{works_fit, works_of, fits}
use Rattle.choice.proofs.FitLaws.{fits_length}
use Rattle.choice.proofs.JobLists.{places_whole, places_all}
use Rattle.placement.specs.Chains.{Chain}
use Rattle.placement.specs.Placing.{works_placed, latest_first, outermost_deadline, works_runs, runs_placed}
use Rattle.placement.specs.GapFilling.{fill, works_filled}
use Rattle.placement.specs.HeldRuns.{runs_down}
use Rattle.placement.proofs.RunCount.{filled_few}
use Rattle.placement.proofs.RunTicks.{deadlines, filled_latest}
use Rattle.placement.proofs.HeldLaws.{runs_length, runs_reverse}

-- no deadline of a chain is after the outermost
pub chain_deadlines : (jobs : List Job) → Chain jobs → All (λ job. job.deadline ≤ outermost_deadline jobs) jobs
chain_deadlines [] c = tt
chain_deadlines (job ∷ jobs) c = (omega arith, deadlines job.release job.deadline jobs c.nested.0)

-- The work of the job at place k is `work k`.
module _ (jobs : List Job) (work : ℕ → ℕ) (count : ℕ) where
  -- the runs of the jobs from place i on
  unfoldable pub runs_from : ℕ → List Run
  runs_from i = works_filled (places_from (λ k. get_or jobs k no_job) i (count - i)) (places_from work i (count - i))

  -- at the end there is none
  pub from_none : (i : ℕ) → count ≤ i → runs_from i ≡ []
  unfolding runs_from works_filled
  from_none i h = rw (left_end (λ k. get_or jobs k no_job) count i h)

  -- for n jobs there are no more than 2 n − 1,
  pub from_few : (i : ℕ) → length (runs_from i) ≤ 2 * (count - i) - 1
  unfolding runs_from
  from_few i =
      let js = places_from (λ k. get_or jobs k no_job) i (count - i) in
      omega (arith, filled_few js (places_from work i (count - i)), from_length (λ k. get_or jobs k no_job) i (count - i))

  -- and so the places that hold the runs of all jobs count
  pub held_few : (at : ℕ → Run) (first end : ℕ) → runs_down at first end ≡ runs_from 0 → end - first ≤ 2 * count - 1
  held_few at first end e = omega (arith, from_few 0, sym (runs_length at first end) ∙ ap length e)

  -- the runs from place i on are those from the next, with job i filled in
  from_step : (i : ℕ) → i < count
      → runs_from i ≡ fill (get_or jobs i no_job).position (get_or jobs i no_job).release (runs_from (i + 1)) (get_or jobs i no_job).deadline (work i)
  unfolding runs_from works_filled
  from_step i h = rw (left_step (λ k. get_or jobs k no_job) count i h, left_step work count i h)

  -- the same a place earlier, as a turn of the loop has it: `runs` are those from place i on, and w is the work of the job before
  pub from_next : (i w : ℕ) (runs : List Run) → 0 < i → i ≤ count → runs ≡ runs_from i → w ≡ work (i - 1)
      → fill (get_or jobs (i - 1) no_job).position (get_or jobs (i - 1) no_job).release runs (get_or jobs (i - 1) no_job).deadline w ≡ runs_from (i - 1)
  from_next i w runs l h e f =
      let back : i - 1 + 1 ≡ i = omega arith in
      rw (from_step (i - 1) (omega arith), back, e, f)

  -- all jobs: the longest stretches of their placing, the latest first
  from_all : Chain (first_places no_job jobs count) → works_fit (first_places no_job jobs count) (places work count) ≡ true
      → runs_from 0 ≡ latest_first (works_placed (first_places no_job jobs count) (places work count)) (outermost_deadline (first_places no_job jobs count))
  unfolding runs_from
  from_all c e =
      let js = first_places no_job jobs count in
      rw (left_start (λ k. get_or jobs k no_job) count, left_start work count)
      (sym (filled_latest js (places work count) c e (outermost_deadline js) (chain_deadlines js c)))

  -- and so the places that hold them, in order, are the runs by start
  pub held_works : (at : ℕ → Run) (first end : ℕ) → Chain (first_places no_job jobs count)
      → works_fit (first_places no_job jobs count) (places work count) ≡ true
      → runs_down at first end ≡ runs_from 0
      → places_from at first (end - first) ≡ works_runs (first_places no_job jobs count) (places work count)
  held_works at first end c f e = sym (runs_reverse at first end) ∙ ap reverse (e ∙ from_all c f)

-- the works of jobs under their marks, place by place
works_from : (job : ℕ → Job) (keep : ℕ → Bool) (i n : ℕ) → works_of (places_from job i n) (places_from keep i n) ≡ places_from (λ k. work_with (job k) (keep k)) i n
unfolding places_from works_of
works_from job keep i zero = refl
works_from job keep i (suc n) = rw (works_from job keep (suc i) n)

-- The same under marks in an array.
module _ (jobs : List Job) (keeps : List Bool) (count : ℕ) where
  -- the work of the job at a place
  abbrev pub work_at : ℕ → ℕ
  work_at k = work_with (get_or jobs k no_job) (get_or keeps k false)

  -- the works of all jobs
  works-are : works_of (first_places no_job jobs count) (first_places false keeps count) ≡ places work_at count
  unfolding places
  works-are = works_from (λ k. get_or jobs k no_job) (λ k. get_or keeps k false) 0 count

  -- the places that hold the runs of all jobs, in order, are the runs by start
  pub held_placed : (at : ℕ → Run) (first end : ℕ) → Chain (first_places no_job jobs count)
      → fits (first_places no_job jobs count) (first_places false keeps count) ≡ true
      → runs_down at first end ≡ runs_from jobs work_at count 0
      → places_from at first (end - first) ≡ runs_placed (first_places no_job jobs count) (first_places false keeps count)
  held_placed at first end c f e = rw works-are (held_works jobs work_at count at first end c (rw works-are at f) e)

-- The same of lists of jobs and of marks.
pub held_lists : (jobs : List Job) (keeps : List Bool) (at : ℕ → Run) (first end : ℕ) → Chain jobs → fits jobs keeps ≡ true
    → runs_down at first end ≡ runs_from jobs (work_at jobs keeps (length jobs)) (length jobs) 0
    → places_from at first (end - first) ≡ runs_placed jobs keeps
held_lists jobs keeps at first end c f e =
    let all = places_whole no_job jobs in
    let marks = places_all false keeps (length jobs) (fits_length jobs keeps f) in
    let fit : fits (first_places no_job jobs (length jobs)) (first_places false keeps (length jobs)) ≡ true = rw (all, marks) f in
    let chain : Chain (first_places no_job jobs (length jobs)) = rw all c in
    held_placed jobs keeps (length jobs) at first end chain fit e ∙ rw (all, marks)

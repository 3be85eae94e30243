-- Laws of the walks over similar jobs from the first in order to the last: the first late job, and the runs.
use Prim.Native.Nat.{ℕ, zero, suc, ◌+◌, ◌-◌, ◌≤◌, ◌<◌}
use mathlib.Core.Path.{◌≡◌, refl, sym, ap, ◌∙◌}
use mathlib.Core.List.{List, [], ◌∷◌, ◌++◌, map, reverse, reverse-cons}
use mathlib.Core.Bool.{Bool, true, false}
use native.Mathlib.Omega.{arith}
use native.Mathlib.Numerals.{add-one}
use lib.ListN.{length, get_or, set, length-set, length-map, length-reverse}
use Rattle.base.specs.Limits.{last_tick}
use Rattle.base.specs.Places.{places_from, places}
use Rattle.base.specs.Lent.{written_front}
use Rattle.base.specs.Arrays.{first_places, Distinct}
use Rattle.base.proofs.PlaceLaws.{left_start, left_step, left_end}
use Rattle.base.proofs.TestLaws.{cases, both_absurd}
use Rattle.base.proofs.ListLaws.{map_append}
use Rattle.base.proofs.MemberLaws.{all_places}
use Rattle.schedule.specs.declared.Job.{Job}
use Rattle.schedule.specs.declared.Run.{Run}
use Rattle.schedule.specs.Jobs.{work_with}
use Rattle.schedule.specs.JobArrays.{no_job, Bounded}
use Rattle.schedule.specs.Runs.{starts_of, ends_of, tasks_of}
use Rattle.choice.specs.Decisions.{huge_ticks, jobs_from}
use Rattle.choice.proofs.JobLists as lists
use Rattle.placement.specs.Chains.{positions}
use Rattle.placement.specs.HeldRuns.{FrontsWritten}
use Rattle.sequence.specs.InOrder.{starts_at, ends_at, in_time, finish, fits_in_order, runs_in_order, first_late}
use Rattle.sequence.specs.RunList.{run_from, latest_runs, listed_runs}
use Rattle.sequence.specs.OrderRows.{ending}
use Rattle.sequence.specs.KeptRows.{same_marks}
use Rattle.sequence.proofs.InOrderLaws.{work_cases, ends_none, ends_some, time_known, late_known, order_head, order_tail, order_cons, order_length}
use Rattle.sequence.proofs.RunListLaws.{run_none, run_some, runs_listed_are}
use Rattle.sequence.proofs.LateLaws.{none_late, late_only}

-- The walk of one mark throughout, and the first late job.

-- the work of the jobs from place i on, all parts kept or all discarded, fits and ends at `time`
pub record Timely (at : ℕ → Job) (count : ℕ) (keep : Bool) (i time : ℕ) : Type 0 where
  pub within_is : i ≤ count
  pub time_is : time ≡ finish (jobs_from at count i) (same_marks keep (jobs_from at count i))
  pub small : time ≤ last_tick
  pub fit : fits_in_order (jobs_from at count i) (same_marks keep (jobs_from at count i)) ≡ true

-- where a list of one mark throughout fits, it does so from every place on
pub same_from : (at : ℕ → Job) (count : ℕ) (keep : Bool) (i : ℕ) → i ≤ count → fits_in_order (places at count) (same_marks keep (places at count)) ≡ true
    → fits_in_order (jobs_from at count i) (same_marks keep (jobs_from at count i)) ≡ true
same_from at count keep zero l e = rw (left_start at count) e
same_from at count keep (suc i) l e =
    let rest = same_from at count keep i (omega arith) e in
    let m : i < count = l in
    let s : i + 1 ≡ suc i = add-one i in
    rw s at (order_tail (at i) (jobs_from at count (i + 1)) keep (same_marks keep (jobs_from at count (i + 1))) (rw (left_step at count i m) at rest))

-- the end of work that is in time, and of work that is not
ending_timely : (job : Job) (w time : ℕ) → Bounded job → time ≤ last_tick → ending huge_ticks job w time < huge_ticks
    → (in_time job w time ≡ true) × (ending huge_ticks job w time ≡ ends_at job w time) × (ending huge_ticks job w time ≤ last_tick)
unfolding ending
ending_timely job w time b s l =
    cases (in_time job w time)
    (λ t.
    let d = b.deadline in
    rw t (
      refl,
      refl,
      work_cases w (λ z. omega (arith, ends_none job w time z)) (λ p. omega (arith, ends_some job w time p, time_known job w time p t)),
    ))
    (λ t. let h : huge_ticks < huge_ticks = rw t at l in absurd (omega arith))

ending_over : (job : Job) (w time : ℕ) → Bounded job → time ≤ last_tick → huge_ticks ≤ ending huge_ticks job w time → in_time job w time ≡ false
unfolding ending
ending_over job w time b s l =
    cases (in_time job w time)
    (λ t.
    let d = b.deadline in
    let h : huge_ticks ≤ ends_at job w time = rw t at l in
    work_cases w
    (λ z. absurd (omega (arith, ends_none job w time z)))
    (λ p. absurd (omega (arith, ends_some job w time p, time_known job w time p t))))
    (λ t. t)

-- the places from j on are some and those after them
places_split : {A : Type 0} (at : ℕ → A) (j a b : ℕ) → places_from at j (a + b) ≡ places_from at j a ++ places_from at (j + a) b
unfolding places_from
places_split at j zero b =
    let p : 0 + b ≡ b = omega arith in
    let q : j + 0 ≡ j = omega arith in
    rw (p, q)
places_split at j (suc a) b =
    let p : suc a + b ≡ suc (a + b) = omega arith in
    let q : j + suc a ≡ suc j + a = omega arith in
    rw (p, q, places_split at (suc j) a b)

places_whole : (at : ℕ → Job) (count : ℕ) (l : List Job) → places_from at 0 count ≡ l → places at count ≡ l
unfolding places
places_whole at count l e = e

module _ (at : ℕ → Job) (count : ℕ) (keep : Bool) where
  -- the walk begins
  pub timely_start : Timely at count keep count 0
  unfolding finish fits_in_order
  timely_start =
      record {
        within_is = omega arith;
        time_is = rw (left_end at count count (omega arith));
        small = omega arith;
        fit = rw (left_end at count count (omega arith));
      }

  -- a job that is in time
  pub timely_step : (i time work : ℕ) → Timely at count keep (i + 1) time → Bounded (at i) → work ≡ work_with (at i) keep → ending huge_ticks (at i) work time < huge_ticks
      → Timely at count keep i (ending huge_ticks (at i) work time)
  unfolding finish
  timely_step i time work f b w l =
      let k = ending_timely (at i) work time b f.small l in
      let rest = jobs_from at count (i + 1) in
      let from = left_step at count i (omega (arith, f.within_is)) in
      record {
        within_is = omega (arith, f.within_is);
        time_is = rw from (k.1 ∙ rw (w, f.time_is));
        small = k.2;
        fit = rw from (order_cons (at i) rest keep (same_marks keep rest) (rw (← w, ← f.time_is) k.0) f.fit);
      }

  -- where a job is late, the list does not fit
  pub timely_over : (i time work : ℕ) → Timely at count keep (i + 1) time → Bounded (at i) → work ≡ work_with (at i) keep → huge_ticks ≤ ending huge_ticks (at i) work time
      → fits_in_order (places at count) (same_marks keep (places at count)) ≡ false
  timely_over i time work f b w l =
      let rest = jobs_from at count (i + 1) in
      let m : i < count = omega (arith, f.within_is) in
      cases (fits_in_order (places at count) (same_marks keep (places at count)))
      (λ e.
      let t = order_head (at i) rest keep (same_marks keep rest) (rw (left_step at count i m) at (same_from at count keep i (omega arith) e)) in
      both_absurd (in_time (at i) work time) (rw (w, f.time_is) t) (ending_over (at i) work time b f.small l))
      (λ e. e)

  -- where no job is left, it fits
  pub timely_fits : (i time : ℕ) → Timely at count keep i time → i ≤ 0 → fits_in_order (places at count) (same_marks keep (places at count)) ≡ true
  timely_fits i time f l =
      let e : i ≡ 0 = omega arith in
      rw (e, left_start at count) at f.fit

-- The first job whose mandatory ticks are late.
module _ (at : ℕ → Job) (count : ℕ) where
  -- a job that is late
  pub timely_late : (i time : ℕ) → Timely at count false (i + 1) time → ((k : ℕ) → k < count → (at k).position < count) → Bounded (at i)
      → huge_ticks ≤ ending huge_ticks (at i) (at i).mandatory time → first_late count (places at count) ≡ (at i).position
  timely_late i time f h b l =
      let from = left_step at count i (omega (arith, f.within_is)) in
      let late = late_known (at i) (at i).mandatory time (ending_over (at i) (at i).mandatory time b f.small l) in
      let n : i + (count - i) ≡ count = omega (arith, f.within_is) in
      let z : 0 + i ≡ i = omega arith in
      let split = rw (n, z, from) at (places_split at 0 i (count - i)) in
      late_only count (at i).position (places at count) ((all_places (λ job. job.position < count) at count).1 h)
      (record {
        after = places_from at 0 i;
        late = at i;
        before = jobs_from at count (i + 1);
        split = places_whole at count _ split;
        named = refl;
        fit = f.fit;
        nonzero = late.0;
        over = rw f.time_is at late.1;
      })

  -- no job is left
  pub timely_end : (i time : ℕ) → Timely at count false i time → i ≤ 0 → ((k : ℕ) → k < count → (at k).position < count) → first_late count (places at count) ≡ count
  timely_end i time f l h =
      (none_late count (places at count) ((all_places (λ job. job.position < count) at count).1 h)).1 (timely_fits at count false i time f l)

-- The runs.

-- one number more at the front of a lent list
written_next : (xs lent : List ℕ) (x : ℕ) → length xs < length lent → written_front (xs ++ x ∷ []) lent ≡ set (written_front xs lent) (length xs) x
written_next [] [] x l = absurd (omega arith)
written_next [] (y ∷ lent) x l = refl
written_next (a ∷ xs) [] x l = absurd (omega arith)
written_next (a ∷ xs) (y ∷ lent) x l = ap (λ r. a ∷ r) (written_next xs lent x (omega arith))

-- a column of runs with one run more at the end
column_next : (f : Run → ℕ) (runs : List Run) (run : Run) (lent : List ℕ) → length runs < length lent
    → written_front (map f (reverse (run ∷ runs))) lent ≡ set (written_front (map f (reverse runs)) lent) (length runs) (f run)
column_next f runs run lent l =
    let n : length (map f (reverse runs)) ≡ length runs = length-map (reverse runs) f ∙ length-reverse runs in
    rw (reverse-cons run runs, map_append f (reverse runs) (run ∷ []))
    (written_next (map f (reverse runs)) lent (f run) (omega arith) ∙ ap (λ k. set (written_front (map f (reverse runs)) lent) k (f run)) n)

-- the marks from place i on, of `count` marks
abbrev pub marks_from : (ℕ → Bool) → ℕ → ℕ → List Bool
marks_from keep count i = places_from keep i (count - i)

-- a list that fits does so from every place on
fits_from : (at : ℕ → Job) (keep : ℕ → Bool) (count i : ℕ) → i ≤ count → fits_in_order (jobs_from at count 0) (marks_from keep count 0) ≡ true
    → fits_in_order (jobs_from at count i) (marks_from keep count i) ≡ true
fits_from at keep count zero l e = e
fits_from at keep count (suc i) l e =
    let rest = fits_from at keep count i (omega arith) e in
    let m : i < count = l in
    let s : i + 1 ≡ suc i = add-one i in
    rw s at
    (order_tail (at i) (jobs_from at count (i + 1)) (keep i) (marks_from keep count (i + 1))
    (rw (left_step at count i m, left_step keep count i m) at rest))

-- The runs of the jobs from place i on stand in the columns, by start: `runs` of them, the last of which ends at `time`.
pub record Laid (at : ℕ → Job) (keep : ℕ → Bool) (count i time runs : ℕ) (starts₀ ends₀ tasks₀ starts ends tasks : List ℕ) : Type 0 where
  pub within_is : i ≤ count
  pub time_is : time ≡ finish (jobs_from at count i) (marks_from keep count i)
  pub small : time ≤ last_tick
  pub runs_are : runs ≡ length (latest_runs (jobs_from at count i) (marks_from keep count i))
  pub few : runs + i ≤ count
  pub starts_length : length starts ≡ length starts₀
  pub ends_length : length ends ≡ length ends₀
  pub tasks_length : length tasks ≡ length tasks₀
  pub starts_are : starts ≡ written_front (starts_of (listed_runs (jobs_from at count i) (marks_from keep count i))) starts₀
  pub ends_are : ends ≡ written_front (ends_of (listed_runs (jobs_from at count i) (marks_from keep count i))) ends₀
  pub tasks_are : tasks ≡ written_front (tasks_of (listed_runs (jobs_from at count i) (marks_from keep count i))) tasks₀

module _ (at : ℕ → Job) (keep : ℕ → Bool) (count : ℕ) (starts₀ ends₀ tasks₀ : List ℕ) where
  -- no run stands there yet
  pub laid_start : Laid at keep count count 0 0 starts₀ ends₀ tasks₀ starts₀ ends₀ tasks₀
  unfolding finish latest_runs
  laid_start =
      record {
        within_is = omega arith;
        time_is = rw (left_end at count count (omega arith));
        small = omega arith;
        runs_are = rw (left_end at count count (omega arith));
        few = omega arith;
        starts_length = refl;
        ends_length = refl;
        tasks_length = refl;
        starts_are = rw (left_end at count count (omega arith));
        ends_are = rw (left_end at count count (omega arith));
        tasks_are = rw (left_end at count count (omega arith));
      }

  module _ (i time runs : ℕ) (starts ends tasks : List ℕ) (f : Laid at keep count (i + 1) time runs starts₀ ends₀ tasks₀ starts ends tasks) where
    -- a job without work
    pub laid-passed : work_with (at i) (keep i) ≡ 0 → Laid at keep count i time runs starts₀ ends₀ tasks₀ starts ends tasks
    unfolding finish latest_runs
    laid-passed z =
        let m : i < count = omega (arith, f.within_is) in
        let js = left_step at count i m in
        let ks = left_step keep count i m in
        let none = run_none (at i) (work_with (at i) (keep i)) (finish (jobs_from at count (i + 1)) (marks_from keep count (i + 1)))
        (latest_runs (jobs_from at count (i + 1)) (marks_from keep count (i + 1))) z in
        record {
          within_is = omega arith;
          time_is = rw (js, ks) (f.time_is ∙ sym (ends_none (at i) (work_with (at i) (keep i)) _ z));
          small = f.small;
          runs_are = rw (js, ks, none) f.runs_are;
          few = omega (arith, f.few);
          starts_length = f.starts_length;
          ends_length = f.ends_length;
          tasks_length = f.tasks_length;
          starts_are = rw (js, ks, none) f.starts_are;
          ends_are = rw (js, ks, none) f.ends_are;
          tasks_are = rw (js, ks, none) f.tasks_are;
        }

    -- a job with work: its run is put at the end
    pub laid-run : (start end : ℕ) → 0 < work_with (at i) (keep i) → start ≡ starts_at (at i) time → end ≡ start + work_with (at i) (keep i) → end ≤ last_tick
        → runs < length starts₀ → runs < length ends₀ → runs < length tasks₀
        → Laid at keep count i end (runs + 1) starts₀ ends₀ tasks₀ (set starts runs start) (set ends runs end) (set tasks runs (at i).position)
    unfolding finish latest_runs
    laid-run start end p s e small a b d =
        let m : i < count = omega (arith, f.within_is) in
        let js = left_step at count i m in
        let ks = left_step keep count i m in
        let w = work_with (at i) (keep i) in
        let before = finish (jobs_from at count (i + 1)) (marks_from keep count (i + 1)) in
        let rest = latest_runs (jobs_from at count (i + 1)) (marks_from keep count (i + 1)) in
        let more = run_some (at i) w before rest p in
        let start_is : start ≡ starts_at (at i) before = s ∙ ap (starts_at (at i)) f.time_is in
        let end_is : end ≡ starts_at (at i) before + w = omega arith in
        let n = f.runs_are in
        record {
          within_is = omega arith;
          time_is = rw (js, ks) (end_is ∙ sym (ends_some (at i) w before p));
          small = small;
          runs_are = rw (js, ks, more) (omega arith);
          few = omega (arith, f.few);
          starts_length = length-set starts runs start ∙ f.starts_length;
          ends_length = length-set ends runs end ∙ f.ends_length;
          tasks_length = length-set tasks runs (at i).position ∙ f.tasks_length;
          starts_are = rw (js, ks, more, column_next (λ run. run.start) rest (run_from (at i) w before) starts₀ (omega arith), f.starts_are, n, start_is);
          ends_are = rw (js, ks, more, column_next (λ run. run.end) rest (run_from (at i) w before) ends₀ (omega arith), f.ends_are, n, end_is);
          tasks_are = rw (js, ks, more, column_next (λ run. run.task) rest (run_from (at i) w before) tasks₀ (omega arith), f.tasks_are, n);
        }

    -- the work of a job ends by its deadline
    pub laid-room : fits_in_order (places at count) (places keep count) ≡ true → Bounded (at i) → 0 < work_with (at i) (keep i)
        → starts_at (at i) time + work_with (at i) (keep i) ≤ last_tick
    laid-room e b p =
        let m : i < count = omega (arith, f.within_is) in
        let w = work_with (at i) (keep i) in
        let before = finish (jobs_from at count (i + 1)) (marks_from keep count (i + 1)) in
        let fit = rw (left_step at count i m, left_step keep count i m) at
        (fits_from at keep count i (omega arith) (rw (left_start at count, left_start keep count) e)) in
        let t = time_known (at i) w before p (order_head (at i) (jobs_from at count (i + 1)) (keep i) (marks_from keep count (i + 1)) fit) in
        let d = b.deadline in
        let h = f.time_is in
        omega arith

-- all runs stand there
pub laid_end : (at : ℕ → Job) (keep : ℕ → Bool) (count i time runs : ℕ) (starts₀ ends₀ tasks₀ starts ends tasks : List ℕ)
    → Laid at keep count i time runs starts₀ ends₀ tasks₀ starts ends tasks → i ≤ 0 → Distinct (positions (places at count))
    → (runs ≡ length (runs_in_order (places at count) (places keep count)))
    × FrontsWritten (runs_in_order (places at count) (places keep count)) starts₀ ends₀ tasks₀ starts ends tasks
laid_end at keep count i time runs starts₀ ends₀ tasks₀ starts ends tasks f l d =
    let e : i ≡ 0 = omega arith in
    let js = left_start at count in
    let ks = left_start keep count in
    rw (runs_listed_are (places at count) (places keep count) d) (
      rw (e, js, ks) at f.runs_are ∙ sym (length-reverse (latest_runs (places at count) (places keep count))),
      (rw (e, js, ks) at f.starts_are, rw (e, js, ks) at f.ends_are, rw (e, js, ks) at f.tasks_are),
    )

-- a list of marks that fits does so at its places
pub fits_at_places : (jobs : List Job) (keeps : List Bool) → fits_in_order jobs keeps ≡ true
    → fits_in_order (first_places no_job jobs (length jobs)) (first_places false keeps (length jobs)) ≡ true
fits_at_places jobs keeps e =
    rw (lists.places_whole no_job jobs, lists.places_all false keeps (length jobs) (order_length jobs keeps e)) e

-- The same of lists of jobs and of marks.
pub laid_lists : (jobs : List Job) (keeps : List Bool) (i time runs : ℕ) (starts₀ ends₀ tasks₀ starts ends tasks : List ℕ)
    → Laid (λ k. get_or jobs k no_job) (λ k. get_or keeps k false) (length jobs) i time runs starts₀ ends₀ tasks₀ starts ends tasks → i ≤ 0
    → Distinct (positions jobs) → length keeps ≡ length jobs
    → (runs ≡ length (runs_in_order jobs keeps)) × FrontsWritten (runs_in_order jobs keeps) starts₀ ends₀ tasks₀ starts ends tasks
laid_lists jobs keeps i time runs starts₀ ends₀ tasks₀ starts ends tasks f l d size =
    let all = lists.places_whole no_job jobs in
    let marks = lists.places_all false keeps (length jobs) size in
    let apart : Distinct (positions (first_places no_job jobs (length jobs))) = rw all d in
    rw (all, marks)
    at (laid_end (λ k. get_or jobs k no_job) (λ k. get_or keeps k false) (length jobs) i time runs starts₀ ends₀ tasks₀ starts ends tasks f l apart)

-- Laws of the rows that the code builds where each part counts 1, from the innermost job outwards, and of the most that it finds, over any worth.
use Prim.Native.Nat.{ℕ, zero, suc, ◌+◌, ◌*◌, ◌-◌, ◌≤◌, ◌<◌}
use mathlib.Core.Path.{◌≡◌, sym, ap, ◌∙◌}
use mathlib.Core.List.{List, ◌∷◌}
use mathlib.Core.Bool.{true, false}
use native.Mathlib.Omega.{arith}
use native.Mathlib.Decide.{ℕ_discrete}
use lib.ListN.{length, get_or, set, replicate, length-set, length-replicate}
use lib.Seq.{get_or-set_same, get_or-set_other}
use Rattle.base.specs.Limits.{max_tasks, max_ticks, last_tick}
use Rattle.base.specs.Places.{places_from, places}
use Rattle.base.proofs.PlaceLaws.{left_start, left_step, left_end}
use Rattle.base.proofs.TestLaws.{pick_cases}
use Rattle.schedule.specs.declared.Job.{Job}
use Rattle.schedule.specs.Jobs.{counts, window_ticks}
use Rattle.schedule.specs.JobArrays.{Bounded}
use Rattle.choice.specs.Choice.{fits, keep_none, kept_worth, discarded_worth, chosen_over, count_one}
use Rattle.choice.specs.Programme.{mandatory_sum, outermost_ticks, all_worth, row, greatest, best_worth, by_rows}
use Rattle.choice.specs.Decisions.{row_places, huge_ticks, row_over, row_of, back_over, jobs_from, Last, Reaches, Convex, JobAdded, Decided}
use Rattle.choice.proofs.ProgrammeLaws.{greatest_only, row_below}
use Rattle.choice.proofs.FitLaws.{fits_length, fits_tail, fits_room, worth_split}
use Rattle.choice.proofs.ChoiceLaws.{chosen_rows, chosen_keeps}
use Rattle.choice.proofs.PartLaws.{Widened, widened, Cut, row_cut}

-- an optional part counts 1 at most
pub count_one-most : (job : Job) → count_one job ≤ 1
count_one-most job = pick_cases (λ n. n ≤ 1) (counts job) (λ e. omega arith) (λ e. omega arith)

-- the jobs from each place on fit with nothing kept, where all of them do
pub none_from : (at : ℕ → Job) (count : ℕ) → fits (places at count) (keep_none (places at count)) ≡ true → (i : ℕ) → i ≤ count
    → fits (jobs_from at count i) (keep_none (jobs_from at count i)) ≡ true
none_from at count none zero l = rw (left_start at count) none
none_from at count none (suc i) l =
    let e : i + 1 ≡ suc i = omega arith in
    let h = rw (left_step at count i (omega arith)) at (none_from at count none i (omega arith)) in
    rw e at (fits_tail (at i) (jobs_from at count (i + 1)) false (keep_none (jobs_from at count (i + 1))) h)

-- so the window of each job has room for the mandatory ticks of it and of those inside it
pub room_from : (at : ℕ → Job) (count : ℕ) → fits (places at count) (keep_none (places at count)) ≡ true → (i : ℕ) → i < count
    → mandatory_sum (at i ∷ jobs_from at count (i + 1)) ≤ window_ticks (at i)
room_from at count none i l =
    let h = rw (left_step at count i l) at (none_from at count none i (omega arith)) in
    omega (arith, fits_room (at i) (jobs_from at count (i + 1)) false (keep_none (jobs_from at count (i + 1))) h)

-- The rows are built down to place i: the row of the jobs from there on, up to the most parts that a list of them keeps, the rank of each, their
-- mandatory ticks and the number of their optional parts above 0 ticks.
pub record Built (at : ℕ → Job) (count i : ℕ) (ticks ranks : List ℕ) (mandatory all top : ℕ) : Type 0 where
  pub within_is : i ≤ count
  pub length_is : length ticks ≡ row_places
  pub numbers : (v : ℕ) → v ≤ top → get_or ticks v 0 ≡ row_of (jobs_from at count i) v
  pub reaches : Reaches (row_of (jobs_from at count i)) top
  pub convex : Convex (row_of (jobs_from at count i)) top
  pub small : row_of (jobs_from at count i) top ≤ last_tick
  pub places : length ranks ≡ max_tasks
  pub decided : Decided at count i ranks
  pub mandatory_is : mandatory ≡ mandatory_sum (jobs_from at count i)
  pub mandatory_most : mandatory + max_ticks * i ≤ max_ticks * count
  pub all_is : all ≡ all_worth count_one (jobs_from at count i)
  pub all_most : all + i ≤ count
  pub top_most : top + i ≤ count

module _ (at : ℕ → Job) (count : ℕ) (small : count ≤ max_tasks) where
  -- no row is built yet
  pub built_start : (ticks ranks : List ℕ) → ticks ≡ replicate row_places 0 → length ranks ≡ max_tasks → Built at count count ticks ranks 0 0 0
  unfolding row
  built_start ticks ranks blank len =
      let end = left_end at count count (omega arith) in
      record {
        within_is = omega arith;
        length_is = ap length blank ∙ length-replicate {A = ℕ} row_places 0;
        numbers = λ v l.
            let z : v ≡ 0 = omega arith in
            rw (end, blank, z);
        reaches = record {
          below = λ v l.
              let z : v ≡ 0 = omega arith in
              rw (end, z) (omega arith);
          beyond = λ v l.
              let s : v ≡ suc (v - 1) = omega arith in
              rw (end, s);
        };
        convex = record { first = λ l. absurd (omega arith); steps = λ v l. absurd (omega arith) };
        small = rw end (omega arith);
        places = len;
        decided = record { decided = λ k l m. absurd (omega arith) };
        mandatory_is = rw end;
        mandatory_most = omega arith;
        all_is = rw end;
        all_most = omega arith;
        top_most = omega arith;
      }

  -- no number of the row is above huge
  pub built_below : (i : ℕ) (ticks ranks : List ℕ) (mandatory all top : ℕ) → Built at count i ticks ranks mandatory all top
      → (v : ℕ) → v ≤ top → get_or ticks v 0 ≤ huge_ticks
  built_below i ticks ranks mandatory all top b v l = omega (arith, b.numbers v l, b.reaches.below v l)

  -- one job more
  module _ (none : fits (places at count) (keep_none (places at count)) ≡ true) (i : ℕ) (ticks ranks : List ℕ) (mandatory all top : ℕ)
      (b : Built at count (i + 1) ticks ranks mandatory all top) where
    -- the jobs from it on are the job and those inside it
    from_step : jobs_from at count i ≡ at i ∷ jobs_from at count (i + 1)
    from_step = left_step at count i (omega (arith, b.within_is))

    -- its mandatory ticks are added
    mandatory-step : mandatory + (at i).mandatory ≡ mandatory_sum (at i ∷ jobs_from at count (i + 1))
    mandatory-step = omega (arith, b.mandatory_is)

    -- they fit with nothing kept
    none-step : fits (at i ∷ jobs_from at count (i + 1)) (keep_none (at i ∷ jobs_from at count (i + 1))) ≡ true
    none-step = rw from_step at (none_from at count none i (omega (arith, b.within_is)))

    -- so the window has room for the mandatory ticks
    pub mandatory-room : mandatory + (at i).mandatory ≤ window_ticks (at i)
    mandatory-room = omega (arith, mandatory-step, room_from at count none i (omega (arith, b.within_is)))

    module _ (bounded : Bounded (at i)) (worth rank next room : ℕ) (row : List ℕ) (one : worth ≡ count_one (at i)) (added : JobAdded (at i) top rank ticks row)
        (room-is : room ≡ window_ticks (at i) - (mandatory + (at i).mandatory))
        (next_is : next ≡ greatest (room + 1) (λ v. get_or row v 0) (top + worth)) where
      -- the row before the window is looked at
      row-widened : Widened (at i) (row_of (jobs_from at count (i + 1))) rank (top + worth) (λ v. get_or row v 0)
      row-widened = rw one (widened (at i) (row_of (jobs_from at count (i + 1))) top b.reaches b.convex ticks row b.numbers rank added (omega (arith, b.small, bounded.optional)))

      -- and where it is cut,
      -- beside the mandatory ticks of the job and those inside it
      cut : Cut (at i) (jobs_from at count (i + 1)) rank (top + worth) next (λ v. get_or row v 0)
      cut =
          row_cut (at i) (jobs_from at count (i + 1)) rank (top + worth) room next (λ v. get_or row v 0) row-widened none-step
          (omega (arith, bounded.deadline)) (omega (arith, room-is, mandatory-step)) next_is

      -- the rank of the job is written, and those of the jobs inside it stand beyond
      decided-step : Decided at count i (set ranks i rank)
      decided-step =
          record {
            decided = λ k l m v n.
                elim (ℕ_discrete k i) [
                  | yes s ↦
                      rw (s, get_or-set_same ranks i rank 0 (omega (arith, b.places)))
                      (cut.keeps v (rw from_step at (rw s at n)))
                  | no s ↦ rw (get_or-set_other ranks i k rank 0 (omega arith)) (b.decided.decided k (omega arith) m v n)
                ];
          }

      -- the row of one job more
      pub built-step : Built at count i row (set ranks i rank) (mandatory + (at i).mandatory) (all + worth) next
      built-step =
          record {
            within_is = omega (arith, b.within_is);
            length_is = added.2 ∙ b.length_is;
            numbers = λ v l. rw from_step (sym (cut.same v l));
            reaches = rw from_step cut.reaches;
            convex = rw from_step cut.convex;
            small = rw from_step (omega (arith, cut.small, bounded.deadline));
            places = length-set ranks i rank ∙ b.places;
            decided = decided-step;
            mandatory_is = rw from_step mandatory-step;
            mandatory_most = omega (arith, b.mandatory_most, bounded.mandatory);
            all_is = rw from_step (omega (arith, b.all_is));
            all_most = omega (arith, b.all_most, count_one-most (at i));
            top_most = omega (arith, cut.within, b.top_most, count_one-most (at i));
          }

-- no window of bounded jobs has as many ticks as huge
pub outermost_small : (at : ℕ → Job) (count : ℕ) → ((k : ℕ) → k < count → Bounded (at k)) → outermost_ticks (places at count) < huge_ticks
unfolding places places_from
outermost_small at zero h = omega arith
outermost_small at (suc count) h = omega (arith, (h 0 (omega arith)).deadline)

-- where a row goes up to `top` parts, it is below huge there last
pub reaches_last : (numbers : ℕ → ℕ) (top : ℕ) → Reaches numbers top → Last numbers top
reaches_last numbers top r = record { below = r.below top (omega arith); beyond = r.beyond }

module _ (worth : Job → ℕ) where
  -- the worth at which a row is below huge last is the best
  last-best : (jobs : List Job) (most : ℕ) → Last (row_over worth jobs) most → most ≡ best_worth worth huge_ticks jobs
  last-best jobs most r =
      sym (greatest_only huge_ticks (row_over worth jobs) (all_worth worth jobs) most (row_below worth huge_ticks jobs most r.below) r.below
      (λ v l m. omega (arith, r.beyond v l)))

  -- what it gives: the marks read back are the chosen list, which keeps that worth and discards what is left of all
  pub record Gives (jobs : List Job) (most : ℕ) : Type 0 where
    pub marks : back_over worth jobs most ≡ chosen_over worth jobs
    pub keeps : most ≡ kept_worth worth jobs (chosen_over worth jobs)
    pub others : discarded_worth worth jobs (chosen_over worth jobs) + most ≡ all_worth worth jobs

  pub last_gives : (jobs : List Job) (most : ℕ) → outermost_ticks jobs < huge_ticks → fits jobs (keep_none jobs) ≡ true → Last (row_over worth jobs) most
      → Gives jobs most
  unfolding by_rows
  last_gives jobs most o none last =
      let list = chosen_keeps worth huge_ticks jobs o none in
      let split = worth_split worth jobs (chosen_over worth jobs) (fits_length jobs _ list.fit) in
      rw (last-best jobs most last)
      (record {
        marks = sym (chosen_rows worth huge_ticks jobs o none);
        keeps = sym list.value;
        others = omega (arith, list.value);
      })

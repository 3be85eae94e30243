-- Laws of the rows that the code keeps, from the first job in similar order to the last, and of the way back.
use Prim.Native.Nat.{ℕ, zero, suc, ◌+◌, ◌*◌, ◌-◌, ◌≤◌, ◌<◌, min}
use mathlib.Core.Path.{◌≡◌, refl, sym, ap, ◌∙◌}
use mathlib.Core.List.{List, [], ◌∷◌}
use mathlib.Core.Bool.{Bool, true, false}
use native.Mathlib.Omega.{arith}
use native.Mathlib.Decide.{dec_lt, ℕ_discrete}
use native.Mathlib.Numerals.{add-one}
use lib.Dec.{leb}
use lib.ListN.{length, get_or, set, drop, replicate, length-set, length-replicate, get_or-replicate}
use lib.Seq.{get_or-set_same, get_or-set_other}
use Rattle.base.specs.Limits.{max_tasks, max_ticks}
use Rattle.base.specs.Places.{places}
use Rattle.base.specs.Arrays.{first_places}
use Rattle.base.specs.Tests.{pick}
use Rattle.base.proofs.PlaceLaws.{places_length, places_is, left_start, left_step, left_end}
use Rattle.base.proofs.ArrayFilling.{Filled, filled_start, filled_set}
use Rattle.base.proofs.TestLaws.{cases, pick_cases}
use Rattle.base.proofs.MemberLaws.{all_from}
use Rattle.schedule.specs.declared.Job.{Job}
use Rattle.schedule.specs.Jobs.{work_with}
use Rattle.schedule.specs.JobArrays.{no_job, Bounded, AllBounded}
use Rattle.base.specs.Members.{All}
use Rattle.choice.specs.Choice.{keep_none, count_one, kept, discarded}
use Rattle.choice.specs.Programme.{mandatory_sum, all_worth, greatest}
use Rattle.choice.specs.Decisions.{row_places, huge_ticks, jobs_from}
use Rattle.choice.proofs.FitLaws.{worth_split}
use Rattle.choice.proofs.ProgrammeLaws.{greatest_most, greatest_only}
use Rattle.choice.proofs.BuildLaws.{count_one-most}
use Rattle.choice.proofs.BackLaws.{left_head}
use Rattle.choice.proofs.JobLists.{left_whole}
use Rattle.sequence.specs.InOrder.{fits_in_order}
use Rattle.sequence.specs.OrderChoice.{chosen_in_order}
use Rattle.sequence.specs.OrderRows.{bound_before, keeping_end, earliest, read_back, most_worth, chosen_by_rows}
use Rattle.sequence.proofs.InOrderLaws.{work_cases, order_length}
use Rattle.sequence.proofs.OrderRowLaws.{next_beyond, most_beyond, earliest_mandatory, bound_less, bound_some, back_kept, back_discarded}
use Rattle.sequence.proofs.WalkLaws.{same_from}
use Rattle.sequence.proofs.BesideLaws.{beside_below, beside_huge, beside_most, bound_is, sum_cons, keep-is, row_is}
use Rattle.sequence.proofs.OrderChoiceLaws.{order_rows, order_keeps, most_worth_lem}
use Rattle.sequence.specs.KeptRows.{earliest_of, marks_back, beside, next_row, kept_beside, bound_beside, numbers_from, RoomFor, Blank, RowsKept, RowPut}

-- no deadline of bounded jobs is huge
from_small : (at : ℕ → Job) (count : ℕ) → ((k : ℕ) → k < count → Bounded (at k)) → (i : ℕ) → i ≤ count
    → All (λ job. job.deadline < huge_ticks) (jobs_from at count i)
from_small at count h i l =
    (all_from (λ job. job.deadline < huge_ticks) at i (count - i)).1 (λ k a b. omega (arith, (h k (omega arith)).deadline))

-- The rows are built down to place i: those of the jobs from there on stand in their places, and the places of the others are huge.
pub record Built (size : ℕ) (at : ℕ → Job) (count i : ℕ) (rows : List ℕ) (most mandatory : ℕ) : Type 0 where
  pub within_is : i ≤ count
  pub length_is : length rows ≡ size
  pub room : RoomFor count size
  pub rows_kept : RowsKept at count i rows
  pub blank : (k : ℕ) → k < i → (v : ℕ) → v ≤ count → get_or rows (row_places * k + v) 0 ≡ huge_ticks
  pub most_is : most ≡ most_worth count_one huge_ticks (jobs_from at count i)
  pub most_within : most + i ≤ count
  pub mandatory_is : mandatory ≡ mandatory_sum (jobs_from at count i)
  pub mandatory_most : mandatory + max_ticks * i ≤ max_ticks * count

-- no number of a row is above huge
pub row_below : (at : ℕ → Job) (count i : ℕ) (rows : List ℕ) → RowsKept at count i rows → (k v : ℕ) → i ≤ k → k ≤ count → v ≤ count
    → get_or rows (row_places * k + v) 0 ≤ huge_ticks
row_below at count i rows r k v l m n = rw (r.row k l m v n) (beside_most _ _)

-- an array of one number throughout is blank
pub blank_array : (size : ℕ) → Blank (replicate size huge_ticks)
blank_array size k l = get_or-replicate size k huge_ticks 0 (omega (arith, length-replicate size huge_ticks))

-- the row of no job
none_row : (rows : List ℕ) (count v : ℕ) → Blank rows → RoomFor count (length rows) → count ≤ max_tasks → v ≤ count
    → get_or (set rows (row_places * count) 0) (row_places * count + v) 0 ≡ beside (mandatory_sum []) (earliest_of [] v)
unfolding earliest
none_row rows count zero b room m l =
    let e : row_places * count + 0 ≡ row_places * count = omega arith in
    rw (e, beside_below 0 0 (omega arith)) (get_or-set_same rows (row_places * count) 0 0 (omega (arith, room.0)))
none_row rows count (suc v) b room m l =
    rw (get_or-set_other rows (row_places * count) (row_places * count + suc v) 0 0 (omega arith), beside_huge 0 huge_ticks (omega arith))
    (b (row_places * count + suc v) (omega (arith, room.0)))

module _ (at : ℕ → Job) (count : ℕ) (small : count ≤ max_tasks) where
  -- only the row of no job stands there
  pub built_start : (rows : List ℕ) → Blank rows → RoomFor count (length rows)
      → Built (length (set rows (row_places * count) 0)) at count count (set rows (row_places * count) 0) 0 0
  unfolding greatest
  built_start rows blank room =
      let none = left_end at count count (omega arith) in
      record {
        within_is = omega arith;
        length_is = refl;
        room = rw (length-set rows (row_places * count) 0) room;
        rows_kept = record {
          row = λ k l m v n.
              let e : k ≡ count = omega arith in
              rw (e, none) (none_row rows count v blank room small n);
        };
        blank = λ k l v n.
            rw (get_or-set_other rows (row_places * count) (row_places * k + v) 0 0 (omega arith))
            (blank (row_places * k + v) (omega (arith, room.0)));
        most_is = rw none;
        most_within = omega arith;
        mandatory_is = rw none;
        mandatory_most = omega arith;
      }

  -- no number of the row before is above huge
  pub before_below : (size i : ℕ) (rows : List ℕ) (most mandatory : ℕ) → Built size at count (i + 1) rows most mandatory → (v : ℕ) → v ≤ count
      → get_or rows (row_places * i + row_places + v) 0 ≤ huge_ticks
  before_below size i rows most mandatory b v l =
      let e : row_places * i + row_places + v ≡ row_places * (i + 1) + v = omega arith in
      rw e (row_below at count (i + 1) rows b.rows_kept (i + 1) v (omega arith) b.within_is l)

  -- one job more
  module _ (bounded : (k : ℕ) → k < count → Bounded (at k)) (fit : fits_in_order (places at count) (keep_none (places at count)) ≡ true) (size i : ℕ) (rows : List ℕ)
      (most mandatory : ℕ) (b : Built size at count (i + 1) rows most mandatory) (worth from room : ℕ) (one : worth ≡ count_one (at i))
      (from_is : from ≡ (at i).release - mandatory) (room-is : room ≡ (at i).deadline - (mandatory + (at i).mandatory)) where
    -- the jobs from it on are the job and those before it in order
    from_step : jobs_from at count i ≡ at i ∷ jobs_from at count (i + 1)
    from_step = left_step at count i (omega (arith, b.within_is))

    -- the list of them that keeps nothing fits
    fit-step : fits_in_order (jobs_from at count i) (keep_none (jobs_from at count i)) ≡ true
    fit-step = same_from at count false i (omega (arith, b.within_is)) fit

    -- a number of the row
    row_made : (next : List ℕ) → RowPut (next_row (at i) from room) (most + worth) (row_places * i) rows next → (v : ℕ) → v ≤ most + worth → v ≤ count
        → get_or next (row_places * i + v) 0 ≡ beside (mandatory_sum (jobs_from at count i)) (earliest_of (jobs_from at count i) v)
    row_made next made v l n =
        made.written v (omega arith) (omega arith)
        ∙ rw from_step
        (row_is (at i) (jobs_from at count (i + 1)) (omega (arith, (bounded i (omega (arith, b.within_is))).deadline)) (rw from_step at fit-step) from room
        (rw b.mandatory_is at from_is) (rw b.mandatory_is at room-is) (numbers_from rows (row_places * i + row_places)) v
        (λ k m.
        let e : row_places * i + row_places + k ≡ row_places * (i + 1) + k = omega arith in
        rw e (b.rows_kept.row (i + 1) (omega arith) b.within_is k (omega arith))))

    -- a row is huge beyond the most parts of the jobs before and the job's own
    beyond-huge : (v : ℕ) → most + worth < v → huge_ticks ≤ earliest_of (jobs_from at count i) v
    beyond-huge v l =
        rw from_step
        (next_beyond count_one huge_ticks (at i) (jobs_from at count (i + 1)) most
        (λ u m. most_beyond count_one huge_ticks (jobs_from at count (i + 1)) u (omega (arith, b.most_is))) v (omega arith))

    -- its row
    row_step : (next : List ℕ) → RowPut (next_row (at i) from room) (most + worth) (row_places * i) rows next
        → (v : ℕ) → v ≤ count → get_or next (row_places * i + v) 0 ≡ beside (mandatory_sum (jobs_from at count i)) (earliest_of (jobs_from at count i) v)
    row_step next made v l =
        elim (dec_lt (most + worth) v) [
          | yes m ↦
              made.beyond (row_places * i + v) (omega arith)
              ∙ (b.blank i (omega arith) v l ∙ sym (beside_huge _ _ (beyond-huge v m)))
          | no m ↦ row_made next made v (omega arith) l
        ]

    -- the most parts, as found in it
    most_step : (next : List ℕ) → RowPut (next_row (at i) from room) (most + worth) (row_places * i) rows next
        → greatest huge_ticks (numbers_from next (row_places * i)) (most + worth) ≡ most_worth count_one huge_ticks (jobs_from at count i)
    most_step next made =
        let jobs = jobs_from at count i in
        let best = most_worth count_one huge_ticks jobs in
        let below = (most_worth_lem count_one huge_ticks jobs (from_small at count bounded i (omega (arith, b.within_is))) (omega arith) _ fit-step).0 in
        let range : most + worth ≤ count = omega (arith, b.most_within, count_one-most (at i)) in
        let reached : best ≤ most + worth =
        elim (dec_lt (most + worth) best) [
          | yes m ↦ absurd (omega (arith, beyond-huge best m))
          | no m ↦ omega arith
        ] in
        greatest_only huge_ticks (numbers_from next (row_places * i)) (most + worth) best reached
        (rw (row_made next made best reached (omega arith), beside_below (mandatory_sum jobs) (earliest_of jobs best) below) (omega arith))
        (λ v l m. rw (row_made next made v m (omega arith), beside_huge (mandatory_sum jobs) (earliest_of jobs v) (most_beyond count_one huge_ticks jobs v l)) (omega arith))

    -- the rows of one job more
    pub built-step : (next : List ℕ) (found : ℕ) → RowPut (next_row (at i) from room) (most + worth) (row_places * i) rows next
        → found ≡ greatest huge_ticks (numbers_from next (row_places * i)) (most + worth)
        → Built size at count i next found (mandatory + (at i).mandatory)
    built-step next found made is =
        let one_most = count_one-most (at i) in
        record {
          within_is = omega (arith, b.within_is);
          length_is = made.same_length ∙ b.length_is;
          room = b.room;
          rows_kept = record {
            row = λ k l m v n.
                elim (ℕ_discrete k i) [
                  | yes s ↦ rw s (row_step next made v n)
                  | no s ↦
                      made.beyond (row_places * k + v) (omega (arith, b.most_within))
                      ∙ b.rows_kept.row k (omega arith) m v n
                ];
          };
          blank = λ k l v n. made.below (row_places * k + v) (omega arith) ∙ b.blank k (omega arith) v n;
          most_is = is ∙ most_step next made;
          most_within = omega (arith, greatest_most huge_ticks (numbers_from next (row_places * i)) (most + worth), b.most_within);
          mandatory_is = rw (from_step, sum_cons (at i) (jobs_from at count (i + 1))) (omega (arith, b.mandatory_is));
          mandatory_most = omega (arith, b.mandatory_most, (bounded i (omega (arith, b.within_is))).mandatory);
        }

-- The number of optional parts above 0 ticks, counted down to place i.
pub record Counted (at : ℕ → Job) (count i parts : ℕ) : Type 0 where
  pub within_is : i ≤ count
  pub parts_are : parts ≡ all_worth count_one (jobs_from at count i)
  pub parts_most : parts + i ≤ count

module _ (at : ℕ → Job) (count : ℕ) where
  -- none is counted yet
  pub counted_start : Counted at count count 0
  counted_start = record { within_is = omega arith; parts_are = rw (left_end at count count (omega arith)); parts_most = omega arith }

  -- one job more
  pub counted_step : (i parts worth : ℕ) → Counted at count (i + 1) parts → worth ≡ count_one (at i) → Counted at count i (parts + worth)
  counted_step i parts worth f e =
      record {
        within_is = omega (arith, f.within_is);
        parts_are = rw (left_step at count i (omega (arith, f.within_is))) (omega (arith, f.parts_are));
        parts_most = omega (arith, f.parts_most, count_one-most (at i));
      }

-- what the most parts give that the code finds: the row is below huge there, the marks read back are the chosen list, which keeps as many parts
-- and discards the others
pub record Gives (jobs : List Job) (most : ℕ) : Type 0 where
  pub below : earliest_of jobs most < huge_ticks
  pub marks : marks_back jobs most ≡ chosen_in_order jobs
  pub keeps : most ≡ kept jobs (chosen_in_order jobs)
  pub others : discarded jobs (chosen_in_order jobs) + most ≡ all_worth count_one jobs

-- The most parts of a list that fits do.
pub most_gives : (jobs : List Job) → AllBounded jobs → (most : ℕ) → most ≡ most_worth count_one huge_ticks jobs
    → fits_in_order jobs (keep_none jobs) ≡ true → Gives jobs most
unfolding chosen_by_rows
most_gives jobs h most e none =
    let d = rw (left_whole no_job jobs) at (from_small (λ k. get_or jobs k no_job) (length jobs) h 0 (omega arith)) in
    let z : 0 < huge_ticks = omega arith in
    let list = order_keeps count_one huge_ticks jobs d z none in
    let split = worth_split count_one jobs (chosen_in_order jobs) (order_length jobs (chosen_in_order jobs) list.fit) in
    rw e
    (record {
      below = (most_worth_lem count_one huge_ticks jobs d z _ none).0;
      marks = sym (order_rows count_one huge_ticks jobs d z none);
      keeps = sym list.value;
      others = omega (arith, list.value);
    })

-- The way back.

-- there is one mark a job
back_length : (jobs : List Job) (v bound : ℕ) → length (read_back count_one huge_ticks jobs v bound) ≡ length jobs
unfolding read_back
back_length [] v bound = refl
back_length (job ∷ jobs) v bound =
    pick_cases (λ (l : List Bool). length l ≡ suc (length jobs)) (leb (keeping_end count_one huge_ticks job (earliest_of jobs) v) bound)
    (λ e. ap suc (back_length jobs _ _)) (λ e. ap suc (back_length jobs _ _))

-- The walk over the jobs from the last to the first: the marks of those before place i are written, the others are read back from there, for v
-- parts and a bound. `left` is the mandatory ticks of those, which the bound is without.
pub record Walked (at : ℕ → Job) (count : ℕ) (marks : List Bool) (i v left bound : ℕ) (keeps : List Bool) : Type 0 where
  pub within_is : i ≤ count
  pub most : v ≤ count
  pub left_is : left ≡ mandatory_sum (jobs_from at count i)
  pub ends : earliest_of (jobs_from at count i) v ≤ bound + left
  pub small : bound + left < huge_ticks
  pub marks_left : drop i marks ≡ read_back count_one huge_ticks (jobs_from at count i) v (bound + left)
  pub filled : Filled false (λ k. get_or marks k false) max_tasks count i keeps

module _ (at : ℕ → Job) (count : ℕ) where
  -- the mandatory ticks are below huge, where a row is
  pub mandatory_below : (v mandatory : ℕ) → mandatory ≡ mandatory_sum (places at count) → earliest_of (places at count) v < huge_ticks → mandatory < huge_ticks
  mandatory_below v mandatory e l = omega (arith, earliest_mandatory count_one huge_ticks (places at count) v)

  -- the walk begins
  pub walked_start : (v mandatory : ℕ) → v ≤ count → mandatory ≡ mandatory_sum (places at count) → earliest_of (places at count) v < huge_ticks
      → Walked at count (marks_back (places at count) v) 0 v mandatory (huge_ticks - 1 - mandatory) (replicate max_tasks false)
  walked_start v mandatory m e l =
      let low = mandatory_below v mandatory e l in
      let all : huge_ticks - 1 - mandatory + mandatory ≡ huge_ticks - 1 = omega arith in
      record {
        within_is = omega arith;
        most = m;
        left_is = rw (left_start at count) e;
        ends = rw (left_start at count) (omega arith);
        small = omega arith;
        marks_left = rw (left_start at count, all);
        filled = filled_start _ _ _ _;
      }

  -- every mark is written
  pub walked_end : (w i v left bound : ℕ) (keeps : List Bool) → count ≤ max_tasks → Walked at count (marks_back (places at count) w) i v left bound keeps → count ≤ i
      → first_places false keeps count ≡ marks_back (places at count) w
  walked_end w i v left bound keeps m f l =
      sym (places_is (λ k. get_or keeps k false) count false (marks_back (places at count) w)
      (back_length (places at count) w _ ∙ places_length at count)
      (λ k n. sym (f.filled.before k (omega arith) n (omega arith))))

  -- one job
  module _ (bounded : (k : ℕ) → k < count → Bounded (at k)) (small : count ≤ max_tasks) (marks : List Bool) (i v left bound : ℕ) (keeps : List Bool)
      (f : Walked at count marks i v left bound keeps) (l : i < count) where
    -- the jobs before it
    abbrev earlier : List Job
    earlier = jobs_from at count (i + 1)

    -- its mandatory ticks are among those that are left
    pub left-more : left ≡ mandatory_sum earlier + (at i).mandatory
    left-more = f.left_is ∙ rw (left_step at count i l) (sum_cons (at i) earlier)

    -- the bound for the jobs before it is the real one, and has time for their mandatory ticks
    bound-more : (keep : Bool) (w room : ℕ) → room ≡ min ((at i).deadline - left) bound
        → earliest_of earlier w ≤ bound_before (at i) (work_with (at i) keep) (bound + left)
        → bound_beside (at i) keep room bound + (left - (at i).mandatory) ≡ bound_before (at i) (work_with (at i) keep) (bound + left)
    bound-more keep w room r b =
        let is : bound_beside (at i) keep room bound ≡ bound_before (at i) (work_with (at i) keep) (bound + left) - mandatory_sum earlier =
        rw (r, left-more) (bound_is (at i) keep (mandatory_sum earlier) bound) in
        omega (
          arith,
          left-more,
          f.small,
          bound_less (at i) (work_with (at i) keep) (bound + left),
          earliest_mandatory count_one huge_ticks earlier w,
        )

    -- the kept ticks have room, where the work has and the row of the jobs before is by their bound
    ticks-room : (keep : Bool) (w room : ℕ) → room ≡ min ((at i).deadline - left) bound
        → work_with (at i) keep ≤ min (at i).deadline (bound + left)
        → earliest_of earlier w ≤ bound_before (at i) (work_with (at i) keep) (bound + left)
        → pick keep (at i).optional 0 ≤ room
    ticks-room keep w room r fit b =
        let least = earliest_mandatory count_one huge_ticks earlier w in
        let more = left-more in
        let low = f.small in
        work_cases (work_with (at i) keep)
        (λ z. omega arith)
        (λ p. omega (arith, bound_some (at i) (work_with (at i) keep) (bound + left) p))

    -- one mark is written
    walked_step : (keep : Bool) (w room : ℕ) → room ≡ min ((at i).deadline - left) bound → w ≤ v
        → read_back count_one huge_ticks (at i ∷ earlier) v (bound + left)
        ≡ keep ∷ read_back count_one huge_ticks earlier w (bound_before (at i) (work_with (at i) keep) (bound + left))
        → earliest_of earlier w ≤ bound_before (at i) (work_with (at i) keep) (bound + left)
        → Walked at count marks (i + 1) w (left - (at i).mandatory) (bound_beside (at i) keep room bound) (set keeps i keep)
    walked_step keep w room r n e b =
        let is = bound-more keep w room r b in
        let h = left_head marks i keep (read_back count_one huge_ticks earlier w (bound_before (at i) (work_with (at i) keep) (bound + left)))
        (f.marks_left ∙ rw (left_step at count i l) e) in
        record {
          within_is = omega arith;
          most = omega (arith, f.most);
          left_is = omega (arith, left-more);
          ends = rw is b;
          small = rw is (omega (arith, f.small, bound_less (at i) (work_with (at i) keep) (bound + left)));
          marks_left = rw (is, add-one) (rw add-one at h.1);
          filled = filled_set _ _ _ _ _ _ _ (omega arith) l (sym h.0) f.filled;
        }

    -- One step of the way back, with what the code reads: the row of the jobs before stands one row further.
    module _ (rows : List ℕ) (rows_kept : RowsKept at count 0 rows) (first from room : ℕ) (keep : Bool) (first-is : first ≡ row_places * (i + 1))
        (from_is : from ≡ (at i).release - (left - (at i).mandatory)) (room-is : room ≡ min ((at i).deadline - left) bound)
        (keep-made : keep ≡ kept_beside (at i) from room (numbers_from rows first) v) where
      -- the code's test is the real one
      test-is : leb (keeping_end count_one huge_ticks (at i) (earliest_of earlier) v) (bound + left) ≡ keep
      test-is =
          let more = left-more in
          sym (keep-made
          ∙ rw more
          (keep-is (at i) earlier (numbers_from rows first) from room bound (omega (arith, (bounded i l).deadline)) (omega arith) (rw more at room-is)
          (rw more at f.small) v (rw (left_step at count i l, more) at f.ends)
          (λ k n. rw first-is (rows_kept.row (i + 1) (omega arith) (omega arith) k (omega (arith, f.most))))))

      -- the job is kept: the parts that are left, its ticks have room, and the bound for the jobs before it
      pub walked_kept : keep ≡ true
          → (count_one (at i) ≤ v) × (pick keep (at i).optional 0 ≤ room)
          × Walked at count marks (i + 1) (v - count_one (at i)) (left - (at i).mandatory) (bound_beside (at i) keep room bound) (set keeps i keep)
      walked_kept t =
          let s = back_kept count_one huge_ticks (at i) earlier v (bound + left) f.small (test-is ∙ t) in (
            s.1,
            rw t (ticks-room true (v - count_one (at i)) room room-is s.2 s.3),
            rw t (walked_step true (v - count_one (at i)) room room-is (omega arith) s.0 s.3),
          )

      -- the job is discarded
      pub walked_discarded : keep ≡ false
          → (pick keep (at i).optional 0 ≤ room)
          × Walked at count marks (i + 1) v (left - (at i).mandatory) (bound_beside (at i) keep room bound) (set keeps i keep)
      walked_discarded t =
          let s = back_discarded count_one huge_ticks (at i) earlier v (bound + left) (rw (left_step at count i l) at f.ends) f.small (test-is ∙ t) in (
            rw t (ticks-room false v room room-is s.1 s.2),
            rw t (walked_step false v room room-is (omega arith) s.0 s.2),
          )

      -- kept or discarded, the ticks that are kept have room
      pub walked-room : pick keep (at i).optional 0 ≤ room
      walked-room = cases keep (λ t. (walked_kept t).1) (λ t. (walked_discarded t).0)

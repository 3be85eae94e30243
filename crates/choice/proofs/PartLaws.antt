-- Laws of a job that is put into the row of the jobs inside it: above its rank the number before and its part, up to the rank what stood there, and the
-- whole cut where the window has no room beside the mandatory ticks.
use Prim.Native.Nat.{ℕ, zero, suc, ◌+◌, ◌-◌, ◌≤◌, ◌<◌, min}
use mathlib.Core.Path.{◌≡◌, refl, sym, ◌∙◌}
use mathlib.Core.Logic.{◌⊎◌, inl, inr, ⊎_elim}
use mathlib.Core.List.{List, ◌∷◌}
use mathlib.Core.Bool.{true, false}
use native.Mathlib.Omega.{arith}
use native.Mathlib.Decide.{dec_lt, ℕ_discrete}
use lib.Dec.{ltb}
use lib.ListN.{length, get_or, set, length-set}
use lib.Seq.{get_or-set_same, get_or-set_other}
use borrow.Author.Tests.{lt-ltb, le-ltb, le-leb, lt-leb}
use Rattle.schedule.specs.declared.Job.{Job}
use Rattle.schedule.specs.Jobs.{window_ticks}
use Rattle.choice.specs.Choice.{fits, keep_none, count_one}
use Rattle.choice.specs.Programme.{mandatory_sum, greatest, keeping, row}
use Rattle.choice.specs.Decisions.{huge_ticks, row_of, keeps_over, keeps_above, Reaches, Convex, PutAbove, PartAdded, JobAdded}
use Rattle.choice.proofs.FitLaws.{fits_room}
use Rattle.choice.proofs.ProgrammeLaws.{if_room-fits, if_room-over, greatest_is, greatest_above, greatest_most, keeping_enough, keeping_short, row_is, row_none}
use Rattle.choice.proofs.ConvexLaws.{convex_rises, convex_less, convex_cut, convex_same, convex_put}

-- The part is put in place by place, from the top downwards.
module _ (optional top : ℕ) (before : List ℕ) where
  -- the number behind the last is made
  pub put_start : get_or before (top + 1) 0 ≡ optional + get_or before top 0 → PutAbove optional top top before before
  put_start e =
      record {
        same_length = refl;
        within = omega arith;
        stays = λ v l. refl;
        put = λ v l m.
            let s : v ≡ top = omega arith in
            rw s e;
        no_more = λ v l m. absurd (omega arith);
      }

  -- the number below is made, where it is no more than what stood there
  pub put_next : (rank x : ℕ) (list : List ℕ) → 0 < rank → top + 1 < length before → x ≡ optional + get_or list (rank - 1) 0 → x ≤ get_or list rank 0
      → PutAbove optional top rank before list → PutAbove optional top (rank - 1) before (set list rank x)
  put_next rank x list l n is h p =
      let e : rank - 1 + 1 ≡ rank = omega arith in
      let low = p.stays (rank - 1) (omega arith) in
      record {
        same_length = length-set list rank x ∙ p.same_length;
        within = omega (arith, p.within);
        stays = λ v m. get_or-set_other list rank v x 0 (omega arith) ∙ p.stays v (omega arith);
        put = λ v m o.
            elim (ℕ_discrete v (rank - 1)) [
              | yes s ↦ rw (s, e, get_or-set_same list rank x 0 (omega (arith, p.same_length, p.within))) (omega arith)
              | no s ↦ get_or-set_other list rank (v + 1) x 0 (omega arith) ∙ p.put v (omega arith) o
            ];
        no_more = λ v m o.
            elim (ℕ_discrete v (rank - 1)) [
              | yes s ↦ rw (s, e) (omega (arith, p.stays rank (omega arith)))
              | no s ↦ p.no_more v (omega arith) o
            ];
      }

-- the number behind the last is no part of the row that it was put into
pub put_onto : (optional top rank x : ℕ) (before after : List ℕ) → PutAbove optional top rank (set before (top + 1) x) after → PutAbove optional top rank before after
put_onto optional top rank x before after p =
    let other : (v : ℕ) → v ≤ top → get_or (set before (top + 1) x) v 0 ≡ get_or before v 0 = λ v l. get_or-set_other before (top + 1) v x 0 (omega arith) in
    record {
      same_length = p.same_length ∙ length-set before (top + 1) x;
      within = p.within;
      stays = λ v l. p.stays v l ∙ other v (omega (arith, p.within));
      put = λ v l m. omega (arith, p.put v l m, other v m);
      no_more = λ v l m. omega (arith, p.no_more v l m, other v (omega arith), other (v + 1) m);
    }

-- what a part counts
part_one : (job : Job) → 0 < job.optional → count_one job ≡ 1
part_one job l = rw (lt-ltb 0 job.optional l)

part_none : (job : Job) → job.optional ≡ 0 → count_one job ≡ 0
part_none job e = rw e

-- where a job of some rank is kept
pub above_none : (job : Job) (rank v : ℕ) → job.optional ≡ 0 → keeps_above job rank v ≡ true
unfolding keeps_above
above_none job rank v e = rw (le-ltb 0 job.optional (omega arith))

pub above_part : (job : Job) (rank v : ℕ) → 0 < job.optional → keeps_above job rank v ≡ ltb rank v
unfolding keeps_above
above_part job rank v l = rw (lt-ltb 0 job.optional l)

-- the row of a job and those inside it up to `most` parts, before its window is looked at, and where the job is kept
pub record Widened (job : Job) (inner : ℕ → ℕ) (rank most : ℕ) (numbers : ℕ → ℕ) : Type 0 where
  pub made : (v : ℕ) → v ≤ most → min (keeping count_one huge_ticks job inner v) (inner v) ≡ numbers v
  pub beyond : (v : ℕ) → most < v → min (keeping count_one huge_ticks job inner v) (inner v) ≡ huge_ticks
  pub keeps : (v : ℕ) → v ≤ most → keeps_above job rank v ≡ keeps_over count_one job inner v
  pub convex : Convex numbers most

module _ (job : Job) (inner : ℕ → ℕ) (top : ℕ) (reaches : Reaches inner top) (convex : Convex inner top) (before after : List ℕ)
    (held : (v : ℕ) → v ≤ top → get_or before v 0 ≡ inner v) where
  -- a part of no ticks changes nothing and is kept
  widened_none : job.optional ≡ 0 → (rank : ℕ) → after ≡ before → Widened job inner rank top (λ v. get_or after v 0)
  unfolding keeps_over
  widened_none e rank s =
      let z = part_none job e in
      let kept : (v : ℕ) → keeping count_one huge_ticks job inner v ≡ inner v =
      λ v. let d : v - count_one job ≡ v = omega arith in
      omega (arith, rw d at (keeping_enough count_one huge_ticks job inner v (omega arith))) in
      record {
        made = λ v l. rw s (omega (arith, kept v, held v l));
        beyond = λ v l. omega (arith, kept v, reaches.beyond v l);
        keeps = λ v l. rw (above_none job rank v e, le-leb (keeping count_one huge_ticks job inner v) (inner v) (omega (arith, kept v)));
        convex = rw s (convex_same inner (λ v. get_or before v 0) top held convex);
      }

  module _ (part : 0 < job.optional) (rank : ℕ) (added : PartAdded job.optional top rank before after) (small : job.optional + inner top ≤ huge_ticks) where
    -- with the part kept
    kept_is : (v : ℕ) → keeping count_one huge_ticks job inner (suc v) ≡ job.optional + inner v
    kept_is v =
        let d : suc v - count_one job ≡ v = omega (arith, part_one job part) in
        rw d at (keeping_enough count_one huge_ticks job inner (suc v) (omega (arith, part_one job part)))

    -- what stands above the rank
    put_is : (v : ℕ) → rank ≤ v → v ≤ top → get_or after (v + 1) 0 ≡ job.optional + inner v
    put_is v l m = omega (arith, added.0.put v l m, held v m)

    -- which is no more than what the row has there
    no-more-is : (v : ℕ) → rank ≤ v → v + 1 ≤ top → job.optional + inner v ≤ inner (v + 1)
    no-more-is v l m = omega (arith, added.0.no_more v l m, held v (omega arith), held (v + 1) m)

    -- and at the rank it is more
    more-is : 0 < rank → inner rank < job.optional + inner (rank - 1)
    more-is l = omega (arith, added.1 l, held rank added.0.within, held (rank - 1) (omega (arith, added.0.within)))

    -- up to the rank the row stands, and it takes more ticks to keep the part; above the rank the part is kept
    either : (v : ℕ) → v ≤ top + 1
        → ((v ≤ rank) × (inner v < keeping count_one huge_ticks job inner v) × (get_or after v 0 ≡ inner v))
        ⊎ ((rank < v) × (keeping count_one huge_ticks job inner v ≤ inner v) × (get_or after v 0 ≡ keeping count_one huge_ticks job inner v))
    either zero l =
        inl (
          omega arith,
          omega (arith, keeping_short count_one huge_ticks job inner 0 (omega (arith, part_one job part)), reaches.below 0 (omega arith)),
          added.0.stays 0 (omega arith) ∙ held 0 (omega arith),
        )
    either (suc v) l =
        let e : v + 1 ≡ suc v = omega arith in
        elim (dec_lt v rank) [
          | yes m ↦
              let d : suc (rank - 1) ≡ rank = omega arith in
              let less = convex_less inner top job.optional convex v (rank - 1) (omega arith) (omega (arith, added.0.within)) (rw d (more-is (omega arith))) in
              inl (omega arith, omega (arith, kept_is v), added.0.stays (suc v) (omega arith) ∙ held (suc v) (omega (arith, added.0.within)))
          | no m ↦
              inr (
                omega arith,
                elim (dec_lt v top) [
                  | yes n ↦ omega (arith, kept_is v, rw e at (no-more-is v (omega arith) (omega arith)))
                  | no n ↦
                      let t : v ≡ top = omega arith in
                      omega (arith, kept_is v, reaches.beyond (suc v) (omega arith), rw (sym t) at small)
                ],
                omega (arith, rw e at (put_is v (omega arith) (omega arith)), kept_is v),
              )
        ]

    -- a part above 0 ticks is put in above its rank
    widened-part : Widened job inner rank (top + 1) (λ v. get_or after v 0)
    unfolding keeps_over
    widened-part =
        record {
          made = λ v l. ⊎_elim (λ w. omega (arith, w.1, w.2)) (λ w. omega (arith, w.1, w.2)) (either v l);
          beyond = λ v l.
              let d : suc (v - 1) ≡ v = omega arith in
              omega (arith, rw d at (kept_is (v - 1)), reaches.beyond v (omega arith), reaches.beyond (v - 1) (omega arith));
          keeps = λ v l.
              rw (above_part job rank v part)
              (⊎_elim
              (λ w. rw (le-ltb rank v w.0, lt-leb (keeping count_one huge_ticks job inner v) (inner v) w.1))
              (λ w. rw (lt-ltb rank v w.0, le-leb (keeping count_one huge_ticks job inner v) (inner v) w.1))
              (either v l));
          convex = convex_put inner (λ v. get_or after v 0) top rank job.optional added.0.within
              (λ v l. added.0.stays v l ∙ held v (omega (arith, added.0.within))) put_is no-more-is more-is convex;
        }

  -- in both cases
  pub widened : (rank : ℕ) → JobAdded job top rank before after → job.optional + inner top ≤ huge_ticks
      → Widened job inner rank (top + count_one job) (λ v. get_or after v 0)
  widened rank a small =
      elim (ℕ_discrete job.optional 0) [
        | yes e ↦
            let m : top + count_one job ≡ top = omega (arith, part_none job e) in
            rw m (widened_none e rank (a.0 e))
        | no e ↦
            let m : top + count_one job ≡ top + 1 = omega (arith, part_one job (omega arith)) in
            rw m (widened-part (omega arith) rank (a.1 (omega arith)) small)
      ]

-- the row of a job and those inside it, cut at `top` parts
pub record Cut (job : Job) (jobs : List Job) (rank most top : ℕ) (numbers : ℕ → ℕ) : Type 0 where
  pub within : top ≤ most
  pub same : (v : ℕ) → v ≤ top → row_of (job ∷ jobs) v ≡ numbers v
  pub reaches : Reaches (row_of (job ∷ jobs)) top
  pub convex : Convex (row_of (job ∷ jobs)) top
  pub small : row_of (job ∷ jobs) top ≤ window_ticks job
  pub keeps : (v : ℕ) → row_of (job ∷ jobs) v < huge_ticks → keeps_above job rank v ≡ keeps_over count_one job (row_of jobs) v

-- It is cut at the greatest number of parts for which the window has room beside the mandatory ticks.
module _ (job : Job) (jobs : List Job) (rank most room top : ℕ) (numbers : ℕ → ℕ) (w : Widened job (row_of jobs) rank most numbers)
    (none : fits (job ∷ jobs) (keep_none (job ∷ jobs)) ≡ true) (small : window_ticks job < huge_ticks)
    (room-is : room ≡ window_ticks job - mandatory_sum (job ∷ jobs)) (top-is : top ≡ greatest (room + 1) numbers most) where
  -- the window has room for the mandatory ticks
  mandatory-fits : mandatory_sum (job ∷ jobs) ≤ window_ticks job
  mandatory-fits = omega (arith, fits_room job jobs false (keep_none jobs) none)

  -- where it has room for a number of parts, and where it has not
  row_fits : (v : ℕ) → v ≤ most → numbers v ≤ room → row_of (job ∷ jobs) v ≡ numbers v
  unfolding row
  row_fits v l m = rw (w.made v l) (if_room-fits huge_ticks (mandatory_sum (job ∷ jobs)) (window_ticks job) (numbers v) (omega (arith, mandatory-fits)))

  row-over : (v : ℕ) → v ≤ most → room < numbers v → row_of (job ∷ jobs) v ≡ huge_ticks
  unfolding row
  row-over v l m = rw (w.made v l) (if_room-over huge_ticks (mandatory_sum (job ∷ jobs)) (window_ticks job) (numbers v) (omega (arith, mandatory-fits)))

  row_beyond : (v : ℕ) → most < v → row_of (job ∷ jobs) v ≡ huge_ticks
  unfolding row
  row_beyond v l = rw (w.beyond v l) (if_room-over huge_ticks (mandatory_sum (job ∷ jobs)) (window_ticks job) huge_ticks (omega arith))

  -- no part takes no ticks
  first-zero : numbers 0 ≡ 0
  first-zero =
      let made = row_is count_one huge_ticks job jobs 0 0 (row_none count_one huge_ticks (job ∷ jobs) none) (omega arith) in
      sym (w.made 0 (omega arith)) ∙ made.1

  -- so the greatest has room, and no number of parts above it
  top-room : (numbers top ≤ room) × (top ≤ most)
  top-room =
      let g = greatest_is (room + 1) numbers most 0 (omega arith) (omega (arith, first-zero)) in
      rw top-is (omega (arith, g.0), greatest_most (room + 1) numbers most)

  -- up to it the numbers are those of the row
  cut_same : (v : ℕ) → v ≤ top → row_of (job ∷ jobs) v ≡ numbers v
  cut_same v l =
      row_fits v (omega (arith, top-room.1)) (omega (arith, convex_rises numbers most w.convex v top l top-room.1, top-room.0))

  pub row_cut : Cut job jobs rank most top numbers
  row_cut =
      record {
        within = top-room.1;
        same = cut_same;
        reaches = record {
          below = λ v l. omega (arith, cut_same v l, convex_rises numbers most w.convex v top l top-room.1, top-room.0, room-is);
          beyond = λ v l.
              elim (dec_lt most v) [
                | yes m ↦ row_beyond v m
                | no m ↦ row-over v (omega arith) (omega (arith, greatest_above (room + 1) numbers most v (rw top-is at l) (omega arith)))
              ];
        };
        convex = convex_same numbers (row_of (job ∷ jobs)) top cut_same (convex_cut numbers most top top-room.1 w.convex);
        small = omega (arith, cut_same top (omega arith), top-room.0, room-is);
        keeps = λ v l.
            elim (dec_lt most v) [
              | yes m ↦ absurd (omega (arith, row_beyond v m))
              | no m ↦ w.keeps v (omega arith)
            ];
      }

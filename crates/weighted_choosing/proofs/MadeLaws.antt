-- Laws of the row and the decisions that the code makes, from the innermost job outwards.
use Prim.Native.Nat.{ℕ, zero, suc, ◌+◌, ◌*◌, ◌-◌, ◌%◌, ◌^◌, ◌≤◌, ◌<◌}
use mathlib.Core.Path.{◌≡◌, sym, ap, ◌∙◌}
use mathlib.Core.List.{List, [], ◌∷◌}
use mathlib.Core.Bool.{true}
use native.Mathlib.Nat.{zero-mod}
use native.Mathlib.Omega.{arith}
use native.Mathlib.Decide.{dec_lt, ℕ_discrete}
use lib.ListN.{length, get_or, set, replicate, length-set, length-replicate, get_or-replicate}
use lib.Seq.{get_or-set_same, get_or-set_other}
use borrow.Author.Tests.{le-leb, lt-leb}
use Rattle.base.specs.Limits.{max_tasks, max_ticks, max_weight}
use Rattle.base.specs.Places.{places}
use Rattle.base.proofs.PlaceLaws.{left_step, left_end}
use Rattle.base.proofs.TestLaws.{pick_cases}
use Rattle.base.proofs.RewriteLaws.{front_written, front_beyond}
use Rattle.schedule.specs.declared.Job.{Job}
use Rattle.schedule.specs.Jobs.{counts, window_ticks}
use Rattle.schedule.specs.JobArrays.{Bounded}
use Rattle.choice.specs.Choice.{fits, keep_none, weighed}
use Rattle.choice.specs.Programme.{mandatory_sum, greatest, if_room, keeping, row}
use Rattle.choice.specs.Decisions.{huge_ticks, row_over, keeps_over, jobs_from, Last, DecidedBy}
use Rattle.choice.proofs.ProgrammeLaws.{if_room-fits, if_room-over, keeping_enough, keeping_short, keeping_most, row_none, row_most, row_past, greatest_is, greatest_above, greatest_most, greatest_same}
use Rattle.choice.proofs.BuildLaws.{none_from, room_from}
use Rattle.weighted_choosing.specs.WeightedRows.{weight_places, held_to, bit_set, kept_at, SignFree, PartAddedTo, BitPut, LesserPut}
use Rattle.weighted_choosing.proofs.BitLaws.{bit_here, bit_above, bit_below, none_below}

-- a part weighs no more than the greatest weight
pub weighed_most : (weight : ℕ → ℕ) (job : Job) (most : ℕ) → weight job.position ≤ most → weighed weight job ≤ most
weighed_most weight job most l = pick_cases (λ n. n ≤ most) (counts job) (λ e. l) (λ e. omega arith)

-- the room beside the mandatory ticks is what a row is held to
held_room : (mandatory window x : ℕ) → mandatory ≤ window → held_to (window - mandatory) x ≡ if_room huge_ticks mandatory window x
unfolding held_to
held_room mandatory window x l =
    elim (dec_lt (window - mandatory) x) [
      | yes m ↦ rw (lt-leb x (window - mandatory) m) (sym (if_room-over huge_ticks mandatory window x (omega arith)))
      | no m ↦ rw (le-leb x (window - mandatory) (omega arith)) (sym (if_room-fits huge_ticks mandatory window x (omega arith)))
    ]

-- The row and the decisions are made down to place i: the row of the jobs from there on stands in its places, `top` is the last at which it is below huge,
-- and the bits of these jobs are put. The first places of the row with a part added stay huge.
pub record Made (worth : Job → ℕ) (at : ℕ → Job) (count i : ℕ) (ticks kept decisions : List ℕ) (mandatory top : ℕ) : Type 0 where
  pub within_is : i ≤ count
  pub row_length : length ticks ≡ weight_places
  pub numbers : (v : ℕ) → v < weight_places → get_or ticks v 0 ≡ row_over worth (jobs_from at count i) v
  pub most : (v : ℕ) → row_over worth (jobs_from at count i) v ≤ huge_ticks
  pub last : Last (row_over worth (jobs_from at count i)) top
  pub kept_length : length kept ≡ weight_places
  pub front : (v : ℕ) → v < max_weight → get_or kept v 0 ≡ huge_ticks
  pub words : length decisions ≡ weight_places
  pub unset : (v : ℕ) → v < weight_places → get_or decisions v 0 % 2 ^ i ≡ 0
  pub decided : DecidedBy worth at count i (λ k v. bit_set (get_or decisions v 0) k)
  pub mandatory_is : mandatory ≡ mandatory_sum (jobs_from at count i)
  pub mandatory_most : mandatory + max_ticks * i ≤ max_ticks * count
  pub top_most : top + max_weight * i ≤ max_weight * count

-- the row of no job
none_row : (worth : Job → ℕ) (v : ℕ) → v < weight_places → get_or (set (replicate weight_places huge_ticks) 0 0) v 0 ≡ row_over worth [] v
unfolding row
none_row worth zero l = get_or-set_same (replicate weight_places huge_ticks) 0 0 0 (omega (arith, length-replicate weight_places huge_ticks))
none_row worth (suc v) l =
    get_or-set_other (replicate weight_places huge_ticks) 0 (suc v) 0 0 (omega arith) ∙ get_or-replicate weight_places (suc v) huge_ticks 0 l

none_most : (worth : Job → ℕ) (v : ℕ) → row_over worth [] v ≤ huge_ticks
unfolding row
none_most worth zero = omega arith
none_most worth (suc v) = omega arith

none_last : (worth : Job → ℕ) → Last (row_over worth []) 0
unfolding row
none_last worth = record { below = omega arith; beyond = λ v l. let s : v ≡ suc (v - 1) = omega arith in rw s }

module _ (worth : Job → ℕ) (at : ℕ → Job) (count : ℕ) (small : count ≤ max_tasks) where
  -- no row is made yet
  pub made_start : (ticks kept decisions : List ℕ) → ticks ≡ replicate weight_places huge_ticks → kept ≡ replicate weight_places huge_ticks
      → decisions ≡ replicate weight_places 0 → Made worth at count count (set ticks 0 0) kept decisions 0 0
  made_start ticks kept decisions t k d =
      let end = left_end at count count (omega arith) in
      record {
        within_is = omega arith;
        row_length = length-set ticks 0 0 ∙ (ap length t ∙ length-replicate weight_places huge_ticks);
        numbers = λ v l. rw (t, end) (none_row worth v l);
        most = λ v. rw end (none_most worth v);
        last = rw end (none_last worth);
        kept_length = ap length k ∙ length-replicate weight_places huge_ticks;
        front = λ v l. rw k (get_or-replicate weight_places v huge_ticks 0 (omega arith));
        words = ap length d ∙ length-replicate {A = ℕ} weight_places 0;
        unset = λ v l. rw (d, get_or-replicate {A = ℕ} weight_places v 0 0 l) (zero-mod (2 ^ count));
        decided = record { decided = λ k l m. absurd (omega arith) };
        mandatory_is = rw end;
        mandatory_most = omega arith;
        top_most = omega arith;
      }

  -- no number of the row is above huge
  pub made_most : (i : ℕ) (ticks kept decisions : List ℕ) (mandatory top : ℕ) → Made worth at count i ticks kept decisions mandatory top
      → (v : ℕ) → v < weight_places → get_or ticks v 0 ≤ huge_ticks
  made_most i ticks kept decisions mandatory top m v l = omega (arith, m.numbers v l, m.most v)

  -- one job more
  module _ (none : fits (places at count) (keep_none (places at count)) ≡ true) (i : ℕ) (ticks kept decisions : List ℕ) (mandatory top : ℕ)
      (m : Made worth at count (i + 1) ticks kept decisions mandatory top) where
    -- the jobs inside it
    abbrev inside : List Job
    inside = jobs_from at count (i + 1)

    -- the jobs from it on are the job and those
    from_step : jobs_from at count i ≡ at i ∷ inside
    from_step = left_step at count i (omega (arith, m.within_is))

    -- its mandatory ticks are added
    mandatory-step : mandatory + (at i).mandatory ≡ mandatory_sum (at i ∷ inside)
    mandatory-step = omega (arith, m.mandatory_is)

    -- and its window has room for them
    pub mandatory-room : mandatory + (at i).mandatory ≤ window_ticks (at i)
    mandatory-room = omega (arith, mandatory-step, room_from at count none i (omega (arith, m.within_is)))

    module _ (bounded : Bounded (at i)) (weight : ℕ) (kept' : List ℕ) (weight_is : weight ≡ worth (at i)) (light : weight ≤ max_weight)
        (added : PartAddedTo ticks (at i).optional (top + 1) kept kept') where
      -- the row with the part added, moved up by its weight, has the ticks with the job kept
      with-is : (v : ℕ) → v ≤ top + weight → get_or kept' (max_weight - weight + v) 0 ≡ keeping worth huge_ticks (at i) (row_over worth inside) v
      with-is v l =
          elim (dec_lt v weight) [
            | yes short ↦
                added.below (max_weight - weight + v) (omega arith)
                ∙ (m.front (max_weight - weight + v) (omega arith) ∙ sym (keeping_short worth huge_ticks (at i) (row_over worth inside) v (omega (arith, weight_is))))
            | no enough ↦
                let place : max_weight - weight + v ≡ max_weight + (v - weight) = omega arith in
                rw place
                (added.written (v - weight) (omega arith) (omega arith)
                ∙ (ap (λ x. (at i).optional + x) (m.numbers (v - weight) (omega (arith, m.top_most)))
                ∙ sym (rw (← weight_is) at (keeping_enough worth huge_ticks (at i) (row_over worth inside) v (omega (arith, weight_is))))))
          ]

      -- the numbers that are compared are small
      pub sign-free : SignFree kept' (max_weight - weight) ticks (top + weight + 1)
      sign-free v l = (
        omega (arith, with-is v (omega arith), keeping_most worth huge_ticks (at i) (row_over worth inside) v m.most, bounded.optional),
        omega (arith, m.numbers v (omega (arith, m.top_most)), m.most v),
      )

      module _ (room next : ℕ) (ticks' decisions' : List ℕ) (room-is : room ≡ window_ticks (at i) - (mandatory + (at i).mandatory))
          (put : BitPut kept' (max_weight - weight) ticks i (top + weight + 1) decisions decisions')
          (lesser : LesserPut kept' (max_weight - weight) room (top + weight + 1) ticks ticks')
          (next_is : next ≡ greatest huge_ticks (λ v. get_or ticks' v 0) (top + weight)) where
        -- the window has fewer ticks than huge
        window-small : window_ticks (at i) < huge_ticks
        window-small = omega (arith, bounded.deadline)

        -- up to the greatest weight inside and its own the row is made
        made_in : (v : ℕ) → v ≤ top + weight → get_or ticks' v 0 ≡ row_over worth (at i ∷ inside) v
        unfolding row
        made_in v l =
            front_written _ _ _ _ _ lesser v (omega arith)
            ∙ rw (with-is v l, m.numbers v (omega (arith, m.top_most)), room-is, mandatory-step)
            (held_room (mandatory_sum (at i ∷ inside)) (window_ticks (at i)) _ (omega (arith, mandatory-step, mandatory-room)))

        -- beyond it is huge
        past : (v : ℕ) → top + weight < v → row_over worth (at i ∷ inside) v ≡ huge_ticks
        past v l = row_past worth huge_ticks (at i) inside top v window-small m.last.beyond (omega (arith, weight_is))

        -- so it stands in its places
        numbers-step : (v : ℕ) → v < weight_places → get_or ticks' v 0 ≡ row_over worth (at i ∷ inside) v
        numbers-step v l =
            elim (dec_lt (top + weight) v) [
              | yes far ↦ front_beyond _ _ _ _ _ lesser v (omega arith) ∙ (m.numbers v l ∙ (m.last.beyond v (omega arith) ∙ sym (past v far)))
              | no near ↦ made_in v (omega arith)
            ]

        -- no number of it is above huge
        most_step : (v : ℕ) → row_over worth (at i ∷ inside) v ≤ huge_ticks
        most_step v = row_most worth huge_ticks (at i) inside v (omega (arith, window-small))

        -- the greatest weight that a list keeps
        next_row : next ≡ greatest huge_ticks (row_over worth (at i ∷ inside)) (top + weight)
        next_row =
            next_is
            ∙ greatest_same huge_ticks (λ v. get_or ticks' v 0) (row_over worth (at i ∷ inside)) (top + weight)
            made_in

        last_step : Last (row_over worth (at i ∷ inside)) next
        last_step =
            let fit = rw from_step at (none_from at count none i (omega (arith, m.within_is))) in
            let zero_is = row_none worth huge_ticks (at i ∷ inside) fit in
            record {
              below = rw next_row (greatest_is huge_ticks (row_over worth (at i ∷ inside)) (top + weight) 0 (omega arith) (omega (arith, zero_is))).0;
              beyond = λ v l.
                  elim (dec_lt (top + weight) v) [
                    | yes far ↦ past v far
                    | no near ↦ omega (arith, most_step v, greatest_above huge_ticks (row_over worth (at i ∷ inside)) (top + weight) v (rw next_row at l) (omega arith))
                  ];
            }

        -- the bits above stay, and bit i is put
        bits-step : (k v : ℕ) → i < k → bit_set (get_or decisions' v 0) k ≡ bit_set (get_or decisions v 0) k
        bits-step k v l =
            elim (dec_lt v (top + weight + 1)) [
              | yes near ↦
                  rw (front_written _ _ _ _ _ put v near)
                  (bit_above (get_or decisions v 0) i (m.unset v (omega (arith, m.top_most))) (kept_at kept' (max_weight - weight) ticks v) k l)
              | no far ↦ rw (front_beyond _ _ _ _ _ put v (omega arith))
            ]

        bit-step : (v : ℕ) → v ≤ top + weight → bit_set (get_or decisions' v 0) i ≡ keeps_over worth (at i) (row_over worth inside) v
        unfolding keeps_over
        bit-step v l =
            rw (
              front_written _ _ _ _ _ put v (omega arith),
              bit_here (get_or decisions v 0) i (m.unset v (omega (arith, m.top_most))) (kept_at kept' (max_weight - weight) ticks v),
              with-is v l,
              m.numbers v (omega (arith, m.top_most)),
            )

        -- where a list of the job and those inside fits
        near : (v : ℕ) → row_over worth (at i ∷ inside) v < huge_ticks → v ≤ top + weight
        near v below =
            elim (dec_lt (top + weight) v) [
              | yes far ↦ absurd (omega (arith, past v far))
              | no close ↦ omega arith
            ]

        decided-step : DecidedBy worth at count i (λ k v. bit_set (get_or decisions' v 0) k)
        decided-step =
            record {
              decided = λ k l n v below.
                  elim (ℕ_discrete k i) [
                    | yes s ↦ rw s (bit-step v (near v (rw (s, from_step) at below)))
                    | no s ↦ bits-step k v (omega arith) ∙ m.decided.decided k (omega arith) n v below
                  ];
            }

        -- the bits below are not set
        unset-step : (v : ℕ) → v < weight_places → get_or decisions' v 0 % 2 ^ i ≡ 0
        unset-step v l =
            elim (dec_lt v (top + weight + 1)) [
              | yes near ↦ rw (front_written _ _ _ _ _ put v near) (bit_below (get_or decisions v 0) i (m.unset v l) (kept_at kept' (max_weight - weight) ticks v))
              | no far ↦ rw (front_beyond _ _ _ _ _ put v (omega arith)) (none_below (get_or decisions v 0) i (m.unset v l))
            ]

        pub made-step : Made worth at count i ticks' kept' decisions' (mandatory + (at i).mandatory) next
        made-step =
            record {
              within_is = omega (arith, m.within_is);
              row_length = lesser.same_length ∙ m.row_length;
              numbers = λ v l. rw from_step (numbers-step v l);
              most = λ v. rw from_step (most_step v);
              last = rw from_step last_step;
              kept_length = added.same_length ∙ m.kept_length;
              front = λ v l. added.below v (omega arith) ∙ m.front v l;
              words = put.same_length ∙ m.words;
              unset = unset-step;
              decided = decided-step;
              mandatory_is = rw from_step mandatory-step;
              mandatory_most = omega (arith, m.mandatory_most, bounded.mandatory);
              top_most = omega (arith, m.top_most, next_row, greatest_most huge_ticks (row_over worth (at i ∷ inside)) (top + weight));
            }

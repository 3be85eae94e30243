-- A job filled into runs that stand in columns: the walk over the gaps above runs, and then the gap below all.
use Prim.Native.Nat.{ℕ, ◌+◌, ◌-◌, ◌≤◌, ◌<◌, min}
use mathlib.Core.Path.{◌≡◌, refl, sym, ap, ◌∙◌}
use mathlib.Core.List.{List, [], ◌∷◌, ◌++◌, append_assoc, append-nil}
use native.Mathlib.Omega.{arith}
use native.Mathlib.Decide.{dec_lt}
use lib.ListN.{length, length-append}
use Rattle.schedule.specs.declared.Job.{Job}
use Rattle.schedule.specs.declared.Run.{Run}
use Rattle.placement.specs.declared.Span.{Span}
use Rattle.placement.specs.GapFilling.{run_below, add_run, fill}
use Rattle.placement.specs.HeldRuns.{runs_down, Closed, bottom_of, RunInserted, Held, job_filled, FilledAbove}
use Rattle.placement.proofs.GapLaws.{add_some, add_none, fill_length, fill_last, closed_joined, Above, above_start, above_next, above_done, above_closed, above_all}
use Rattle.placement.proofs.HeldLaws.{runs_length, runs_none, runs_same, runs_split, runs_highest, runs_lowest, runs_bottom, runs_inserted}

module _ (old : ℕ → Run) (span : Span) (job : Job) (work : ℕ) where
  -- all runs once the job is filled in
  abbrev pub whole : List Run
  whole = job_filled span job work old

  -- they are no fewer than the runs before
  pub span_room : span.end ≤ span.first + length whole
  span_room =
      omega (
        arith,
        runs_length old span.first span.end,
        fill_length job.position job.release (runs_down old span.first span.end) job.deadline work,
      )

  -- the gaps above the runs from place k on are filled: these runs now end at place `end`, and those up to k stand as before
  pub record Passed (new : ℕ → Run) (k end top left : ℕ) : Type 0 where
    pub reached : span.closed ≤ k
    pub within : k ≤ span.end
    pub longer : span.end ≤ end
    pub same : (j : ℕ) → j ≤ k → j < span.end → new j ≡ old j
    pub above : Above job.position job.release job.deadline whole (runs_down new k end) (runs_down old span.first k) top left

  -- at first none is passed
  pub passed_start : Held span old → Passed old span.end span.end job.deadline work
  passed_start h =
      record {
        reached = h.high;
        within = omega arith;
        longer = omega arith;
        same = λ j a b. refl;
        above = rw (runs_none old span.end span.end (omega arith))
            (above_start job.position job.release job.deadline whole (runs_down old span.first span.end) work refl);
      }

  module _ (held : Held span old) (new : ℕ → Run) (k end top left n : ℕ) (more : span.closed < k) (passed : Passed new k end top left) (gap : n ≡ min left (top - (new (k - 1)).end)) where
    -- the gap above the next run, as a step of the walk over lists
    next-above : Above job.position job.release job.deadline whole
        (runs_down new k end ++ add_run job.position top n (new (k - 1) ∷ [])) (runs_down old span.first (k - 1)) (new (k - 1)).start (left - n)
    next-above =
        let below : new (k - 1) ≡ old (k - 1) = passed.same (k - 1) (omega arith) (omega (arith, passed.within)) in
        above_next job.position job.release job.deadline whole (runs_down new k end) (new (k - 1)) (runs_down old span.first (k - 1)) top left n gap
        (rw (below, ← runs_highest old span.first k (omega (arith, held.low))) passed.above)

    -- where the gap gets a run, there is room for it
    pub passed-room : 0 < n → end + 1 ≤ span.first + length whole
    passed-room l =
        let i = job.position in
        let rest = fill i job.release (runs_down old span.first (k - 1)) (new (k - 1)).start (left - n) in
        let two = run_below i top n ∷ (new (k - 1) ∷ []) in
        let joined : (runs_down new k end ++ two) ++ rest ≡ whole = rw (add_some i top n (new (k - 1) ∷ []) l) at next-above.joined in
        omega (
          arith,
          ap length joined,
          length-append (runs_down new k end ++ two) rest,
          length-append (runs_down new k end) two,
          runs_length new k end,
          runs_length old span.first (k - 1),
          fill_length i job.release (runs_down old span.first (k - 1)) (new (k - 1)).start (left - n),
          held.low,
          passed.within,
          passed.longer,
        )

    -- the gap gets a run, which is put in
    pub passed-some : (newer : ℕ → Run) → 0 < n → RunInserted k end (run_below job.position top n) new newer
        → Passed newer (k - 1) (end + 1) (newer (k - 1)).start (left - n)
    passed-some newer l h =
        let run = run_below job.position top n in
        let below : newer (k - 1) ≡ new (k - 1) = h.below (k - 1) (omega arith) in
        let upper : runs_down newer (k - 1) (end + 1) ≡ runs_down new k end ++ (run ∷ (new (k - 1) ∷ [])) =
        rw (runs_lowest newer k (end + 1) (omega arith) (omega (arith, passed.within, passed.longer)), runs_inserted new newer k end run (omega (arith, passed.within, passed.longer)) h, below)
        (append_assoc (runs_down new k end) (run ∷ []) (new (k - 1) ∷ [])) in
        record {
          reached = omega arith;
          within = omega (arith, passed.within);
          longer = omega (arith, passed.longer);
          same = λ j a b. h.below j (omega arith) ∙ passed.same j (omega arith) b;
          above = rw (upper, below) (rw (add_some job.position top n (new (k - 1) ∷ []) l) at next-above);
        }

    -- the gap gets none
    pub passed_none : n ≤ 0 → Passed new (k - 1) end (new (k - 1)).start (left - n)
    passed_none l =
        record {
          reached = omega arith;
          within = omega (arith, passed.within);
          longer = passed.longer;
          same = λ j a b. passed.same j (omega arith) b;
          above = rw (runs_lowest new k end (omega arith) (omega (arith, passed.within, passed.longer)))
              (rw (add_none job.position top n (new (k - 1) ∷ []) l) at next-above);
        }

  module _ (held : Held span old) (new : ℕ → Run) (k end top left : ℕ) (passed : Passed new k end top left) where
    -- the runs are those that were passed and those that were not
    parts : runs_down new span.first end ≡ runs_down new k end ++ runs_down old span.first k
    parts =
        rw (
          runs_split new span.first k end (omega (arith, held.low, passed.reached)) (omega (arith, passed.within, passed.longer)),
          runs_same new old span.first k (λ j a b. passed.same j (omega arith) (omega (arith, passed.within))),
        )

    -- up to the closed place nothing changed
    still-held : Held (record { first = span.first; closed = span.closed; end = end }) new
    still-held =
        record {
          low = held.low;
          high = omega (arith, held.high, passed.longer);
          empty = λ l. let none : span.end ≤ span.first = held.empty (omega (arith, passed.longer)) in omega (arith, held.high);
          unbroken =
              elim (dec_lt span.closed span.end) [
                | yes l ↦ rw (
                  passed.same span.closed passed.reached l,
                  runs_same new old span.first span.closed (λ j a b. passed.same j (omega (arith, passed.reached)) (omega arith)),
                )
                    held.unbroken
                | no l ↦ let none : span.end ≤ span.first = held.empty (omega arith) in
                    rw (runs_none new span.first span.closed (omega (arith, held.high))) tt
              ];
        }

    -- the runs below the last gap are closed
    last-closed : k ≤ span.closed → Closed top (runs_down old span.first k)
    last-closed l =
        let last : k ≡ span.closed = omega (arith, passed.reached) in
        elim (dec_lt span.closed span.end) [
          | yes m ↦
              let start : (old span.closed).start ≡ top =
              ap (λ (run : Run). run.start) (sym (passed.same span.closed passed.reached m))
              ∙ (sym (runs_bottom new span.closed end job.deadline (omega (arith, passed.longer))) ∙ (rw last at passed.above.bottom)) in
              rw (last, ← start) held.unbroken
          | no m ↦ let none : span.end ≤ span.first = held.empty (omega arith) in
              rw (runs_none old span.first k (omega (arith, held.high))) tt
        ]

    -- no work is left
    pub passed-done : left ≡ 0 → FilledAbove span job work old end left new
    passed-done e =
        record {
          held = still-held;
          joined = rw parts
              (above_done job.position job.release job.deadline whole (runs_down new k end) (runs_down old span.first k) top left e passed.above);
          closed = λ l. absurd (omega arith);
        }

    -- no gap above a run is left
    pub passed_all : k ≤ span.closed → FilledAbove span job work old end left new
    passed_all l =
        record {
          held = still-held;
          joined = rw parts
              (above_closed job.position job.release job.deadline whole (runs_down new k end) (runs_down old span.first k) top left (last-closed l) passed.above);
          closed = λ m. rw parts
              (above_all job.position job.release job.deadline whole (runs_down new k end) (runs_down old span.first k) top left (last-closed l) passed.above m);
        }

  module _ (new : ℕ → Run) (end top left n : ℕ) (got : FilledAbove span job work old end left new)
      (bottom : top ≡ bottom_of job.deadline (runs_down new span.first end)) (gap : n ≡ min left (top - job.release)) where
    -- below the runs goes what the last gap gets
    below-joined : runs_down new span.first end ++ add_run job.position top n [] ≡ whole
    below-joined =
        rw (← fill_last job.position job.release top left n gap, bottom) got.joined

    -- it gets none: all runs are found
    pub below_none : n ≡ 0 → runs_down new span.first end ≡ whole
    below_none e =
        sym (append-nil (runs_down new span.first end)) ∙ (rw (add_none job.position top n [] (omega arith)) at below-joined)

    module _ (newer : ℕ → Run) (some : 0 < n) (room : 0 < span.first) (same : (j : ℕ) → span.first ≤ j → newer j ≡ new j) (here : newer (span.first - 1) ≡ run_below job.position top n) where
      -- it gets a run, which is put in front
      front : runs_down newer (span.first - 1) end ≡ runs_down new span.first end ++ (run_below job.position top n ∷ [])
      front =
          rw (
            runs_lowest newer span.first end room (omega (arith, got.held.low, got.held.high)),
            here,
            runs_same newer new span.first end (λ j a b. same j a),
          )

      -- all runs are found,
      pub below-some : runs_down newer (span.first - 1) end ≡ whole
      below-some = rw front (rw (add_some job.position top n [] some) at below-joined)

      -- and there is no gap between them
      pub below-held : Held (record { first = span.first - 1; closed = end - 1; end = end }) newer
      below-held =
          let upper : Closed job.deadline (runs_down new span.first end) = got.closed (omega arith) in
          let lower : Closed (bottom_of job.deadline (runs_down new span.first end)) (run_below job.position top n ∷ []) = (omega arith, tt) in
          let all : Closed job.deadline (runs_down newer (span.first - 1) end) =
          rw front (closed_joined job.deadline (runs_down new span.first end) (run_below job.position top n ∷ []) upper lower) in
          let first-is : Closed job.deadline (newer (end - 1) ∷ runs_down newer (span.first - 1) (end - 1)) =
          rw (runs_highest newer (span.first - 1) end (omega (arith, got.held.low, got.held.high))) at all in
          record {
            low = omega (arith, got.held.low, got.held.high);
            high = omega arith;
            empty = λ l. absurd (omega (arith, got.held.low, got.held.high));
            unbroken = first-is.1;
          }

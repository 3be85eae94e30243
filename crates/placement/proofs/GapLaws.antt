-- Filling a job in, gap by gap: what a gap gets, what closed gaps get, and where work is left. Runs stand latest first.
use Prim.Native.Nat.{ℕ, zero, suc, ◌-◌, ◌≤◌, ◌<◌, min}
use mathlib.Core.Path.{◌≡◌, refl, sym, ap, ◌∙◌}
use mathlib.Core.List.{List, [], ◌∷◌, ◌++◌, append_assoc, append-nil}
use native.Mathlib.Omega.{arith}
use lib.ListN.{length}
use Rattle.schedule.specs.declared.Run.{Run}
use Rattle.placement.specs.GapFilling.{run_below, add_run, fill}
use Rattle.placement.specs.HeldRuns.{Closed, bottom_of}
use Rattle.placement.proofs.RunCount.{fill_none}

-- a gap that gets ticks has one run more
pub add_some : (i top n : ℕ) (rest : List Run) → 0 < n → add_run i top n rest ≡ run_below i top n ∷ rest
add_some i top zero rest l = absurd (omega arith)
add_some i top (suc n) rest l = refl

-- and one that gets none has not
pub add_none : (i top n : ℕ) (rest : List Run) → n ≤ 0 → add_run i top n rest ≡ rest
add_none i top zero rest l = refl
add_none i top (suc n) rest l = absurd (omega arith)

-- what follows a new run may be added later
add_joined : (i top n : ℕ) (first rest : List Run) → add_run i top n first ++ rest ≡ add_run i top n (first ++ rest)
add_joined i top zero first rest = refl
add_joined i top (suc n) first rest = refl

-- no run is lost
add_length : (i top n : ℕ) (rest : List Run) → length rest ≤ length (add_run i top n rest)
add_length i top zero rest = omega arith
add_length i top (suc n) rest = omega arith

-- filling a job in loses no run
pub fill_length : (i release : ℕ) (runs : List Run) (top w : ℕ) → length runs ≤ length (fill i release runs top w)
unfolding fill
fill_length i release [] top w = omega arith
fill_length i release (run ∷ runs) top w =
    let rest = fill i release runs run.start (w - (top - run.end)) in
    omega (arith, add_length i top (min w (top - run.end)) (run ∷ rest), fill_length i release runs run.start (w - (top - run.end)))

-- below all others a job gets the run of what the last gap holds
pub fill_last : (i release top w n : ℕ) → n ≡ min w (top - release) → fill i release [] top w ≡ add_run i top n []
unfolding fill
fill_last i release top w n e = rw e

-- at a run: the gap above it gets n ticks, and the gaps below it the rest
fill_run : (i release : ℕ) (run : Run) (runs : List Run) (top w n : ℕ) → n ≡ min w (top - run.end)
    → fill i release (run ∷ runs) top w ≡ add_run i top n (run ∷ []) ++ fill i release runs run.start (w - n)
unfolding fill
fill_run i release run runs top w n e =
    let less : w - (top - run.end) ≡ w - n = omega arith in
    rw (less, ← e) (sym (add_joined i top n (run ∷ []) (fill i release runs run.start (w - n))))

-- gaps that are closed get nothing: all of the work goes below the runs
fill_closed : (i release : ℕ) (runs : List Run) (top w : ℕ) → Closed top runs → fill i release runs top w ≡ runs ++ fill i release [] (bottom_of top runs) w
unfolding bottom_of
fill_closed i release [] top w c = refl
fill_closed i release (run ∷ runs) top w c =
    let none : 0 ≡ min w (top - run.end) = omega (arith, c.0) in
    let same : w - 0 ≡ w = omega arith in
    fill_run i release run runs top w 0 none ∙ ap (λ (rest : List Run). run ∷ rest) (rw same (fill_closed i release runs run.start w c.1))

-- runs that are closed, above others that are
pub closed_joined : (top : ℕ) (upper lower : List Run) → Closed top upper → Closed (bottom_of top upper) lower → Closed top (upper ++ lower)
unfolding bottom_of
closed_joined top [] lower c d = d
closed_joined top (run ∷ upper) lower c d = (c.0, closed_joined run.start upper lower c.1 d)

-- the gap below two parts is that below the second
bottom_joined : (top : ℕ) (upper lower : List Run) → bottom_of top (upper ++ lower) ≡ bottom_of (bottom_of top upper) lower
unfolding bottom_of
bottom_joined top [] lower = refl
bottom_joined top (run ∷ upper) lower = bottom_joined run.start upper lower

-- where work is left behind a gap, the gap is full
gap_closed : (i top w n : ℕ) (run : Run) → n ≡ min w (top - run.end) → 0 < w - n → Closed top (add_run i top n (run ∷ []))
gap_closed i top w zero run e l = (omega arith, tt)
gap_closed i top w (suc n) run e l = (omega arith, (omega arith, tt))

-- and the next gap ends where its run starts
gap_bottom : (i top n : ℕ) (run : Run) → bottom_of top (add_run i top n (run ∷ [])) ≡ run.start
unfolding bottom_of
gap_bottom i top zero run = refl
gap_bottom i top (suc n) run = refl

-- A walk from a deadline downwards, gap by gap: `upper` are the runs above, with the new ones among them, and `lower` the runs that are left,
-- into which `left` ticks are still to be filled below `top`.
pub record Above (i release deadline : ℕ) (whole upper lower : List Run) (top left : ℕ) : Type 0 where
  pub joined : upper ++ fill i release lower top left ≡ whole
  pub closed : 0 < left → Closed deadline upper
  pub bottom : bottom_of deadline upper ≡ top

module _ (i release deadline : ℕ) (whole : List Run) where
  -- at first all runs are left
  pub above_start : (lower : List Run) (left : ℕ) → fill i release lower deadline left ≡ whole → Above i release deadline whole [] lower deadline left
  unfolding bottom_of
  above_start lower left e = record { joined = e; closed = λ l. tt; bottom = refl }

  -- one run more is passed, and the gap above it is filled
  pub above_next : (upper : List Run) (run : Run) (lower : List Run) (top left n : ℕ) → n ≡ min left (top - run.end)
      → Above i release deadline whole upper (run ∷ lower) top left
      → Above i release deadline whole (upper ++ add_run i top n (run ∷ [])) lower run.start (left - n)
  above_next upper run lower top left n e a =
      let gap = add_run i top n (run ∷ []) in
      record {
        joined = append_assoc upper gap (fill i release lower run.start (left - n))
            ∙ (ap (λ (rest : List Run). upper ++ rest) (sym (fill_run i release run lower top left n e)) ∙ a.joined);
        closed = λ l. closed_joined deadline upper gap (a.closed (omega arith)) (rw a.bottom (gap_closed i top left n run e l));
        bottom = bottom_joined deadline upper gap ∙ rw a.bottom (gap_bottom i top n run);
      }

  -- where no work is left, all runs are found
  pub above_done : (upper lower : List Run) (top left : ℕ) → left ≡ 0 → Above i release deadline whole upper lower top left
      → (upper ++ lower) ++ fill i release [] (bottom_of deadline (upper ++ lower)) left ≡ whole
  above_done upper lower top left e a =
      rw (e, fill_none i release [] (bottom_of deadline (upper ++ lower)), append-nil (upper ++ lower))
      (rw (e, fill_none i release lower top) at a.joined)

  -- where the runs that are left are closed, what is left goes below them
  pub above_closed : (upper lower : List Run) (top left : ℕ) → Closed top lower → Above i release deadline whole upper lower top left
      → (upper ++ lower) ++ fill i release [] (bottom_of deadline (upper ++ lower)) left ≡ whole
  above_closed upper lower top left c a =
      rw (bottom_joined deadline upper lower, a.bottom, append_assoc upper lower (fill i release [] (bottom_of top lower) left), ← fill_closed i release lower top left c)
      a.joined

  -- and all are closed where work is left
  pub above_all : (upper lower : List Run) (top left : ℕ) → Closed top lower → Above i release deadline whole upper lower top left
      → 0 < left → Closed deadline (upper ++ lower)
  above_all upper lower top left c a l = closed_joined deadline upper lower (a.closed l) (rw a.bottom c)

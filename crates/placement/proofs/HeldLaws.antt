-- Laws of runs that stand by start at the places of columns, read from the last place downwards.
use Prim.Native.Nat.{ℕ, zero, suc, ◌+◌, ◌-◌, ◌≤◌, ◌<◌}
use mathlib.Core.Path.{◌≡◌, refl, ap}
use mathlib.Core.List.{List, [], ◌∷◌, ◌++◌, map, reverse, reverse-append}
use native.Mathlib.Nat.{add-zero}
use native.Mathlib.Omega.{arith}
use lib.ListN.{length, drop}
use Rattle.base.specs.Places.{places_from}
use Rattle.base.specs.Lent.{written_front}
use Rattle.base.proofs.PlaceLaws.{from_length}
use Rattle.base.proofs.ListLaws.{map_places}
use Rattle.schedule.specs.declared.Run.{Run}
use Rattle.placement.specs.HeldRuns.{down_from, runs_down, bottom_of, RunInserted}

-- there are as many runs as places
down_length : (at : ℕ → Run) (low n : ℕ) → length (down_from at low n) ≡ n
unfolding down_from
down_length at low zero = refl
down_length at low (suc n) = ap suc (down_length at low n)

-- the runs at the places are all that counts
down_same : (at other : ℕ → Run) (low n : ℕ) → ((j : ℕ) → low ≤ j → j < low + n → at j ≡ other j) → down_from at low n ≡ down_from other low n
unfolding down_from
down_same at other low zero h = refl
down_same at other low (suc n) h = rw (h (low + n) (omega arith) (omega arith), down_same at other low n (λ j l m. h j l (omega arith)))

-- the same where all stand one place higher
down_higher : (at other : ℕ → Run) (low n : ℕ) → ((j : ℕ) → low ≤ j → j < low + n → at (suc j) ≡ other j) → down_from at (suc low) n ≡ down_from other low n
unfolding down_from
down_higher at other low zero h = refl
down_higher at other low (suc n) h =
    let next : suc low + n ≡ suc (low + n) = omega arith in
    rw (next, h (low + n) (omega arith) (omega arith), down_higher at other low n (λ j l m. h j l (omega arith)))

-- the runs from m places higher on come first
down_split : (at : ℕ → Run) (low m n : ℕ) → down_from at low (m + n) ≡ down_from at (low + m) n ++ down_from at low m
unfolding down_from
down_split at low m zero = rw (add-zero m)
down_split at low m (suc n) =
    let more : m + suc n ≡ suc (m + n) = omega arith in
    let same : low + (m + n) ≡ low + m + n = omega arith in
    rw (more, same, down_split at low m n)

-- from the first place on: the lowest run is the last
down_lowest : (at : ℕ → Run) (low n : ℕ) → down_from at low (suc n) ≡ down_from at (suc low) n ++ (at low ∷ [])
unfolding down_from
down_lowest at low zero = rw (add-zero low)
down_lowest at low (suc n) =
    let next : suc low + n ≡ low + suc n = omega arith in
    rw (next, ← down_lowest at low n)

-- by start they are the places in order
down_reverse : (at : ℕ → Run) (low n : ℕ) → reverse (down_from at low n) ≡ places_from at low n
unfolding places_from down_from
down_reverse at low zero = refl
down_reverse at low (suc n) =
    rw (down_lowest at low n, reverse-append (down_from at (suc low) n) (at low ∷ []), down_reverse at (suc low) n)

-- the gap below the runs ends where the lowest of them starts
down_bottom : (at : ℕ → Run) (low n top : ℕ) → bottom_of top (down_from at low (suc n)) ≡ (at low).start
unfolding down_from bottom_of
down_bottom at low zero top = rw (add-zero low)
down_bottom at low (suc n) top = down_bottom at low n (at (low + suc n)).start

-- The same laws for the runs from place `first` to `end`.

-- there are as many as places
pub runs_length : (at : ℕ → Run) (first end : ℕ) → length (runs_down at first end) ≡ end - first
unfolding runs_down
runs_length at first end = down_length at first (end - first)

-- there is none where the end is reached
pub runs_none : (at : ℕ → Run) (first end : ℕ) → end ≤ first → runs_down at first end ≡ []
unfolding runs_down down_from
runs_none at first end l = let none : end - first ≡ 0 = omega arith in rw none

-- the runs at the places are all that counts
pub runs_same : (at other : ℕ → Run) (first end : ℕ) → ((j : ℕ) → first ≤ j → j < end → at j ≡ other j) → runs_down at first end ≡ runs_down other first end
unfolding runs_down
runs_same at other first end h = down_same at other first (end - first) (λ j l m. h j l (omega arith))

-- the runs from a place m on come first
pub runs_split : (at : ℕ → Run) (first m end : ℕ) → first ≤ m → m ≤ end → runs_down at first end ≡ runs_down at m end ++ runs_down at first m
unfolding runs_down
runs_split at first m end l h =
    let sum : end - first ≡ m - first + (end - m) = omega arith in
    let middle : first + (m - first) ≡ m = omega arith in
    rw sum (rw middle at (down_split at first (m - first) (end - m)))

-- the highest run comes first
pub runs_highest : (at : ℕ → Run) (first end : ℕ) → first < end → runs_down at first end ≡ at (end - 1) ∷ runs_down at first (end - 1)
unfolding runs_down down_from
runs_highest at first end l =
    let more : end - first ≡ suc (end - 1 - first) = omega arith in
    let last : first + (end - 1 - first) ≡ end - 1 = omega arith in
    rw (more, last)

-- and the lowest last
pub runs_lowest : (at : ℕ → Run) (k end : ℕ) → 0 < k → k ≤ end → runs_down at (k - 1) end ≡ runs_down at k end ++ (at (k - 1) ∷ [])
unfolding runs_down
runs_lowest at k end l h =
    let more : end - (k - 1) ≡ suc (end - k) = omega arith in
    let next : suc (k - 1) ≡ k = omega arith in
    rw more (rw next at (down_lowest at (k - 1) (end - k)))

-- by start they are the places in order
pub runs_reverse : (at : ℕ → Run) (first end : ℕ) → reverse (runs_down at first end) ≡ places_from at first (end - first)
unfolding runs_down
runs_reverse at first end = down_reverse at first (end - first)

-- the gap below them ends where the lowest starts
pub runs_bottom : (at : ℕ → Run) (first end top : ℕ) → first < end → bottom_of top (runs_down at first end) ≡ (at first).start
unfolding runs_down
runs_bottom at first end top l =
    let more : end - first ≡ suc (end - first - 1) = omega arith in
    rw more (down_bottom at first (end - first - 1) top)

-- a run put in at place k stands below those that stood from there on
pub runs_inserted : (old new : ℕ → Run) (k end : ℕ) (run : Run) → k ≤ end → RunInserted k end run old new → runs_down new k (end + 1) ≡ runs_down old k end ++ (run ∷ [])
unfolding runs_down
runs_inserted old new k end run l h =
    let more : end + 1 - k ≡ suc (end - k) = omega arith in
    rw (more, down_lowest new k (end - k), h.here, down_higher new old k (end - k) (λ j a b. h.above j a (omega arith)))

-- a lent column into which a number of each run was copied
pub column_written : (part : Run → ℕ) (at : ℕ → Run) (runs : List Run) (first n : ℕ) (old new : List ℕ) → places_from at first n ≡ runs
    → new ≡ places_from (λ k. part (at k)) first n ++ drop n old → new ≡ written_front (map part runs) old
column_written part at runs first n old new e f =
    rw (← e, map_places part at first n, from_length (λ k. part (at k)) first n) f

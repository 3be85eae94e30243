-- How many runs a placing has: for n jobs never more than 2 n − 1.
use Prim.Native.Nat.{ℕ, zero, suc, ◌+◌, ◌-◌, ◌*◌, ◌≤◌, min}
use mathlib.Core.Path.{◌≡◌, refl}
use mathlib.Core.List.{List, [], ◌∷◌}
use native.Mathlib.Nat.{zero-min, zero-sub}
use native.Mathlib.Omega.{arith}
use lib.Dec.{ltb}
use lib.ListN.{length}
use borrow.Author.Tests.{ltb-true, lt-ltb, le-ltb}
use Rattle.base.proofs.TestLaws.{cases}
use Rattle.schedule.specs.declared.Job.{Job}
use Rattle.schedule.specs.Ticks.{one_if}
use Rattle.schedule.specs.declared.Run.{Run}
use Rattle.schedule.proofs.TickLaws.{one_most}
use Rattle.placement.specs.GapFilling.{add_run, fill, works_filled}

-- how many runs there are, and how many gaps of free ticks above a run; the first gap is measured from `top`
runs_and_gaps : ℕ → List Run → ℕ
runs_and_gaps top [] = 0
runs_and_gaps top (run ∷ runs) = one_if (ltb run.end top) + 1 + runs_and_gaps run.start runs

-- the runs are no more than the runs and gaps
length_most : (top : ℕ) (runs : List Run) → length runs ≤ runs_and_gaps top runs
unfolding runs_and_gaps
length_most top [] = omega arith
length_most top (run ∷ runs) = omega (arith, length_most run.start runs)

-- a job of no ticks changes nothing
pub fill_none : (i release : ℕ) (runs : List Run) (top : ℕ) → fill i release runs top 0 ≡ runs
unfolding fill
fill_none i release [] top = rw zero-min
fill_none i release (run ∷ runs) top = rw (zero-min, zero-sub, fill_none i release runs run.start)

-- a new run that ends at the top has no gap above it
gaps_run : (i top n : ℕ) (runs : List Run) → runs_and_gaps top (add_run i top (suc n) runs) ≡ 1 + runs_and_gaps (top - suc n) runs
unfolding runs_and_gaps
gaps_run i top n runs = rw (le-ltb top top (omega arith)) (omega arith)

-- a run below which there is none is one at most
gaps_last : (i top n : ℕ) → runs_and_gaps top (add_run i top n []) ≤ 1
unfolding runs_and_gaps
gaps_last i top zero = omega arith
gaps_last i top (suc n) = omega (arith, gaps_run i top n [])

-- a run put into the gap above the first run adds one, and then either fills the gap or is the last
gaps_first : (i release top w : ℕ) (run : Run) (runs : List Run)
    → runs_and_gaps run.start (fill i release runs run.start (w - (top - run.end))) ≤ runs_and_gaps run.start runs + 1
    → (n : ℕ) → n ≡ min w (top - run.end)
    → runs_and_gaps top (add_run i top n (run ∷ fill i release runs run.start (w - (top - run.end)))) ≤ runs_and_gaps top (run ∷ runs) + 1
unfolding runs_and_gaps
gaps_first i release top w run runs ih zero e = omega arith
gaps_first i release top w run runs ih (suc n) e =
    rw (le-ltb top top (omega arith), lt-ltb run.end top (omega arith))
    (cases (ltb run.end (top - suc n))
    (λ q.
    let z : w - (top - run.end) ≡ 0 = omega (arith, ltb-true) in
    rw (q, z, fill_none i release runs run.start) (omega arith))
    (λ q. rw q (omega arith)))

-- filling a job in adds one run or gap at most
gaps_fill : (i release : ℕ) (runs : List Run) (top w : ℕ) → runs_and_gaps top (fill i release runs top w) ≤ runs_and_gaps top runs + 1
unfolding runs_and_gaps fill
gaps_fill i release [] top w = gaps_last i top (min w (top - release))
gaps_fill i release (run ∷ runs) top w =
    gaps_first i release top w run runs (gaps_fill i release runs run.start (w - (top - run.end))) (min w (top - run.end)) refl

-- another top adds one gap at most
gaps_top : (a b : ℕ) (runs : List Run) → runs_and_gaps b runs ≤ runs_and_gaps a runs + 1
unfolding runs_and_gaps
gaps_top a b [] = omega arith
gaps_top a b (run ∷ runs) = omega (arith, one_most (ltb run.end b))

-- for one job and n more: 2 n + 1 runs and gaps at most, from the deadline down
gaps_filled : (job : Job) (jobs : List Job) (work : ℕ) (works : List ℕ)
    → runs_and_gaps job.deadline (works_filled (job ∷ jobs) (work ∷ works)) ≤ 2 * length jobs + 1
unfolding works_filled runs_and_gaps
gaps_filled job [] work works = omega (arith, gaps_fill job.position job.release [] job.deadline work)
gaps_filled job (other ∷ jobs) work [] = omega (arith, gaps_fill job.position job.release [] job.deadline work)
gaps_filled job (other ∷ jobs) work (next ∷ works) =
    let inner = works_filled (other ∷ jobs) (next ∷ works) in
    omega (
      arith,
      gaps_fill job.position job.release inner job.deadline work,
      gaps_top other.deadline job.deadline inner,
      gaps_filled other jobs next works,
    )

-- 'For n tasks there are never more than 2n − 1' runs. This asks nothing of the jobs and the works.
pub filled_few : (jobs : List Job) (works : List ℕ) → length (works_filled jobs works) ≤ 2 * length jobs - 1
unfolding works_filled
filled_few [] works = omega arith
filled_few (job ∷ jobs) [] = omega arith
filled_few (job ∷ jobs) (work ∷ works) =
    omega (arith, gaps_filled job jobs work works, length_most job.deadline (works_filled (job ∷ jobs) (work ∷ works)))

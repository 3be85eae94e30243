-- The pass over the runs, from the first upwards.
use Prim.Native.Nat.{ℕ, ◌+◌, ◌-◌, ◌*◌, ◌^◌, ◌≤◌, ◌<◌}
use mathlib.Core.Path.{◌≡◌, refl, sym, ap, ◌∙◌}
use mathlib.Core.Bool.{Bool, true, false}
use mathlib.Core.List.{List, [], ◌∷◌}
use native.Mathlib.Omega.{arith}
use native.Mathlib.Decide.{ℕ_discrete, dec_lt}
use lib.Dec.{leb, ltb}
use native.Mathlib.Numerals.{add-one}
use lib.ListN.{length, get_or, set, drop, drop_of_length-le, replicate, length-set, length-replicate, get_or-replicate, get_or-eq_default}
use lib.Seq.{get_or-set_same, get_or-set_other, drop-cons}
use borrow.Author.Tests.{le-ltb, lt-ltb, eq-eqb, ne_eqb}
use Rattle.base.specs.Limits.{max_tasks}
use Rattle.base.specs.Tests.{and}
use Rattle.base.proofs.TestLaws.{and_left, and_right, same_test}
use Rattle.base.specs.Members.{every_member}
use Rattle.schedule.specs.declared.Job.{Job}
use Rattle.schedule.specs.declared.Run.{Run}
use Rattle.schedule.specs.Runs.{no_run}
use Rattle.schedule.specs.Judging.{none_empty, follow_from, known_tasks, in_windows, total_of}
use Rattle.schedule.specs.Passing.{passes, run_fits}

-- eight tests regrouped
regroup : (a b c d e f g h i : Bool)
    → and (and a b) (and (and c d) (and (and e f) (and (and g h) i))) ≡ and e (and (and a (and c (and g h))) (and b (and d (and f i))))
regroup a b c d e f g h i =
    same_test (and (and a b) (and (and c d) (and (and e f) (and (and g h) i)))) (and e (and (and a (and c (and g h))) (and b (and d (and f i)))))
    (λ t.
    let ab = and_left (and a b) (and (and c d) (and (and e f) (and (and g h) i))) t in
    let r = and_right (and a b) (and (and c d) (and (and e f) (and (and g h) i))) t in
    let cd = and_left (and c d) (and (and e f) (and (and g h) i)) r in
    let q = and_right (and c d) (and (and e f) (and (and g h) i)) r in
    let ef = and_left (and e f) (and (and g h) i) q in
    let p = and_right (and e f) (and (and g h) i) q in
    let gh = and_left (and g h) i p in
    rw (and_left a b ab, and_right a b ab, and_left c d cd, and_right c d cd, and_left e f ef, and_right e f ef, and_left g h gh, and_right g h gh, and_right (and g h) i p))
    (λ t.
    let ee = and_left e (and (and a (and c (and g h))) (and b (and d (and f i)))) t in
    let r = and_right e (and (and a (and c (and g h))) (and b (and d (and f i)))) t in
    let x = and_left (and a (and c (and g h))) (and b (and d (and f i))) r in
    let y = and_right (and a (and c (and g h))) (and b (and d (and f i))) r in
    let aa = and_left a (and c (and g h)) x in
    let x₂ = and_right a (and c (and g h)) x in
    let cc₂ = and_left c (and g h) x₂ in
    let gh = and_right c (and g h) x₂ in
    let bb = and_left b (and d (and f i)) y in
    let y₂ = and_right b (and d (and f i)) y in
    let dd = and_left d (and f i) y₂ in
    let y₃ = and_right d (and f i) y₂ in
    rw (aa, bb, cc₂, dd, ee, and_left f i y₃, and_left g h gh, and_right g h gh, and_right f i y₃))

-- the runs pass where the first does and the others after it
pub passes_cons : (job : ℕ → Job) (n from : ℕ) (run : Run) (runs : List Run)
    → passes job n from (run ∷ runs) ≡ and (ltb run.task n) (and (run_fits (job run.task) from run.start run.end) (passes job n run.end runs))
unfolding passes run_fits every_member follow_from
passes_cons job n from run runs =
    regroup (ltb run.start run.end) (none_empty runs) (leb from run.start) (follow_from run.end runs) (ltb run.task n) (known_tasks n runs)
    (leb (job run.task).release run.start) (leb run.end (job run.task).deadline) (in_windows job runs)

passes_none : (job : ℕ → Job) (n from : ℕ) → passes job n from [] ≡ true
unfolding passes every_member follow_from
passes_none job n from = refl

-- Before run i: those before it passed, the next may start at tick `from`, and the totals are those of the runs before it.
pub record PassedUpTo (job : ℕ → Job) (n : ℕ) (runs : List Run) (totals : List ℕ) (from i : ℕ) : Type 0 where
  pub within : i ≤ length runs
  pub left : passes job n from (drop i runs) ≡ passes job n 0 runs
  pub length_is : length totals ≡ max_tasks
  pub sums : (k : ℕ) → k < max_tasks → get_or totals k 0 + total_of (drop i runs) k ≡ total_of runs k
  pub small : (k : ℕ) → get_or totals k 0 ≤ i * 2 ^ 32

-- the totals at the beginning
abbrev blank : List ℕ
blank = replicate max_tasks 0

blank_length : length blank ≡ max_tasks
blank_length = length-replicate {A = ℕ} max_tasks 0

blank_at : (k : ℕ) → get_or blank k 0 ≡ 0
blank_at k =
    elim (dec_lt k max_tasks) [
      | yes l ↦ get_or-replicate {A = ℕ} max_tasks k 0 0 l
      | no l ↦ get_or-eq_default blank 0 {n = k} (omega (arith, blank_length))
    ]

pub passed_start : (job : ℕ → Job) (n : ℕ) (runs : List Run) → PassedUpTo job n runs blank 0 0
passed_start job n runs =
    record {
      within = omega arith;
      left = refl;
      length_is = blank_length;
      sums = λ k l. omega (arith, blank_at k);
      small = λ k. omega (arith, blank_at k);
    }

module _ (job : ℕ → Job) (n : ℕ) (runs : List Run) (totals : List ℕ) (from i : ℕ) (p : PassedUpTo job n runs totals from i) where
  -- the run whose turn it is, and those after it
  abbrev run : Run
  run = get_or runs i no_run

  abbrev rest : List Run
  rest = drop (i + 1) runs

  ahead : i < length runs → drop i runs ≡ run ∷ rest
  ahead l = rw add-one (drop-cons runs i no_run l)

  -- where a run is left, the runs pass if it does and the others after it
  next : i < length runs → and (ltb run.task n) (and (run_fits (job run.task) from run.start run.end) (passes job n run.end rest)) ≡ passes job n 0 runs
  next l = sym (passes_cons job n from run rest) ∙ (ap (passes job n from) (sym (ahead l)) ∙ p.left)

  -- a task that is not in the table
  pub passed_task : i < length runs → n ≤ run.task → passes job n 0 runs ≡ false
  passed_task l h = sym (rw (le-ltb run.task n h) at (next l))

  -- a run that does not fit
  pub passed_run : i < length runs → run.task < n → run_fits (job run.task) from run.start run.end ≡ false → passes job n 0 runs ≡ false
  passed_run l h e = sym (rw (lt-ltb run.task n h, e) at (next l))

  -- a run that fits, and its ticks added to its task's total
  pub passed_step : i < length runs → run.task < n → n ≤ max_tasks → run_fits (job run.task) from run.start run.end ≡ true → run.end < 2 ^ 32
      → PassedUpTo job n runs (set totals run.task (get_or totals run.task 0 + (run.end - run.start))) run.end (i + 1)
  passed_step l h m e w =
      let task : ℕ = run.task in
      let value : ℕ = get_or totals task 0 + (run.end - run.start) in
      let there : get_or (set totals task value) task 0 ≡ value = get_or-set_same totals task value 0 (omega (arith, p.length_is)) in
      record {
        within = omega arith;
        left = rw (lt-ltb run.task n h, e) at (next l);
        length_is = length-set totals task value ∙ p.length_is;
        sums = λ k b.
            let before : get_or totals k 0 + total_of (run ∷ rest) k ≡ total_of runs k =
            ap (λ (runs : List Run). get_or totals k 0 + total_of runs k) (sym (ahead l)) ∙ p.sums k b in
            elim (ℕ_discrete task k) [
              | yes s ↦
                  let here : get_or (set totals task value) k 0 ≡ value = ap (λ (j : ℕ). get_or (set totals task value) j 0) (sym s) ∙ there in
                  let total : total_of (run ∷ rest) k ≡ (run.end - run.start) + total_of rest k = rw (eq-eqb task k s) in
                  let same : get_or totals task 0 ≡ get_or totals k 0 = ap (λ (j : ℕ). get_or totals j 0) s in
                  omega (arith, here, total, same, before)
              | no s ↦
                  let other : get_or (set totals task value) k 0 ≡ get_or totals k 0 = get_or-set_other totals task k value 0 (λ q. s (sym q)) in
                  let total : total_of (run ∷ rest) k ≡ 0 + total_of rest k = rw (ne_eqb task k s) in
                  omega (arith, other, total, before)
            ];
        small = λ k.
            elim (ℕ_discrete task k) [
              | yes s ↦
                  let here : get_or (set totals task value) k 0 ≡ value = ap (λ (j : ℕ). get_or (set totals task value) j 0) (sym s) ∙ there in
                  omega (arith, here, p.small task)
              | no s ↦
                  let other : get_or (set totals task value) k 0 ≡ get_or totals k 0 = get_or-set_other totals task k value 0 (λ q. s (sym q)) in
                  omega (arith, other, p.small k)
            ];
      }

  -- no run is left: all passed, and the totals are those of all runs
  none_left : length runs ≤ i → drop i runs ≡ []
  none_left l = drop_of_length-le runs l

  pub passed_all : length runs ≤ i → passes job n 0 runs ≡ true
  passed_all l = sym p.left ∙ (ap (passes job n from) (none_left l) ∙ passes_none job n from)

  pub passed_totals : length runs ≤ i → (k : ℕ) → k < max_tasks → get_or totals k 0 ≡ total_of runs k
  passed_totals l k b =
      let none : total_of (drop i runs) k ≡ 0 = ap (λ (runs : List Run). total_of runs k) (none_left l) in
      omega (arith, none, p.sums k b)

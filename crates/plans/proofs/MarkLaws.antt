-- Laws of the marks of a plan: by position they say what the keep list says of the jobs.
use Prim.Native.Nat.{ℕ, ◌≤◌, ◌<◌}
use mathlib.Core.Path.{◌≡◌, refl, sym, ap, ◌∙◌}
use mathlib.Core.Bool.{Bool, true, false}
use mathlib.Core.List.{List, [], ◌∷◌, map}
use native.Mathlib.Omega.{arith}
use lib.Dec.{eqb}
use lib.ListN.{length, get_or, length-map}
use Rattle.base.specs.Tests.{pick, and}
use Rattle.base.specs.Places.{places}
use Rattle.base.specs.Lent.{written_front}
use Rattle.table.specs.declared.Table.{Table}
use Rattle.schedule.specs.declared.Job.{Job}
use Rattle.schedule.specs.Jobs.{job_at, counts}
use Rattle.schedule.specs.Ticks.{one_if}
use Rattle.base.specs.Members.{All}
use Rattle.base.specs.Arrays.{Distinct}
use Rattle.schedule.proofs.JudgeLaws.{job_position}
use Rattle.choice.specs.Choice.{kept_worth, kept}
use Rattle.placement.specs.Chains.{positions}
use Rattle.placement.specs.ByPosition.{number_at}
use Rattle.placement.proofs.PlanLaws.{SameNumbers, SameMarks}
use Rattle.base.proofs.ListLaws.{map_places}
use Rattle.base.proofs.PlaceLaws.{places_length}
use Rattle.placement.proofs.PositionLaws.{numbers_same, Put, put_end}
use Rattle.orders.proofs.SortLaws.{sum_over}
use Rattle.plans.specs.Planning.{mark_at}

-- a mark is 0 or 1
pub mark_low : (jobs : List Job) (keeps : List Bool) (k : ℕ) → mark_at jobs keeps k < 2
unfolding number_at
mark_low [] keeps k = omega arith
mark_low (job ∷ jobs) [] k = omega arith
mark_low (job ∷ jobs) (keep ∷ keeps) k = low (eqb job.position k) keep (mark_low jobs keeps k)
  where
    low : (b keep : Bool) {x : ℕ} → x < 2 → pick b (one_if keep) x < 2
    low true true h = omega arith
    low true false h = omega arith
    low false keep h = h

-- numbers that say what the marks as numbers say, say what the marks say
same_marks_lem : (jobs : List Job) (keeps : List Bool) (marks : List ℕ) → SameNumbers jobs (map one_if keeps) marks → SameMarks jobs keeps marks
same_marks_lem [] [] marks s = tt
same_marks_lem [] (keep ∷ keeps) marks s = s
same_marks_lem (job ∷ jobs) [] marks s = s
same_marks_lem (job ∷ jobs) (keep ∷ keeps) marks s = (s.0, same_marks_lem jobs keeps marks s.1)

-- The marks by position say the same as the keep list.
pub marks_same : (jobs : List Job) (keeps : List Bool) (n : ℕ) → length keeps ≡ length jobs → Distinct (positions jobs) → All (λ job. job.position < n) jobs
    → SameMarks jobs keeps (places (mark_at jobs keeps) n)
marks_same jobs keeps n l d h =
    same_marks_lem jobs keeps (places (mark_at jobs keeps) n) (numbers_same jobs (map one_if keeps) n (length-map keeps one_if ∙ l) d h)

-- what one job adds to the kept count, by its place in the keep list and by its mark
kept_one : (counted keep : Bool) → pick keep (pick counted 1 0) 0 ≡ one_if (and counted (eqb (one_if keep) 1))
kept_one true true = refl
kept_one true false = refl
kept_one false true = refl
kept_one false false = refl

-- The kept count of a keep list is the sum over its positions by the marks.
pub kept_marks : (launch : ℕ) (t : Table) (marks js : List ℕ) (keeps : List Bool) → SameMarks (map (job_at launch t) js) keeps marks
    → kept (map (job_at launch t) js) keeps ≡ sum_over (λ k. one_if (and (counts (job_at launch t k)) (eqb (get_or marks k 0) 1))) js
unfolding kept_worth
kept_marks launch t marks [] keeps s = refl
kept_marks launch t marks (j ∷ js) [] s = absurd s
kept_marks launch t marks (j ∷ js) (keep ∷ keeps) s =
    let e : get_or marks j 0 ≡ one_if keep = ap (λ (k : ℕ). get_or marks k 0) (sym (job_position launch t j)) ∙ s.0 in
    rw e (omega (arith, kept_one (counts (job_at launch t j)) keep, kept_marks launch t marks js keeps s.1))

-- Marks that were put into a lent list one job after another, as numbers: at the end every position holds its mark.
pub marked_end : (at : ℕ → Job) (keep : ℕ → Bool) (n : ℕ) (lent : List ℕ) (i : ℕ) (marks : List ℕ) → n ≤ i → n ≤ length lent
    → Put at (λ k. one_if (keep k)) n lent i marks → marks ≡ written_front (places (mark_at (places at n) (places keep n)) n) lent
unfolding places
marked_end at keep n lent i marks l room f = rw (places_length (mark_at (places at n) (places keep n)) n, map_places one_if keep 0 n) (put_end at (λ k. one_if (keep k)) n lent i marks l room f)

-- Laws of the list that keeps every part: where it fits, it is the chosen one, and discards nothing.
use Prim.Native.Nat.{ℕ, zero, suc, ◌≤◌, ◌<◌}
use mathlib.Core.Path.{◌≡◌, refl, sym, ◌∙◌}
use mathlib.Core.List.{List, [], ◌∷◌}
use mathlib.Core.Bool.{Bool, true, false}
use native.Mathlib.Omega.{arith}
use lib.ListN.{length, get_or, replicate, length-map, get_or-replicate}
use Rattle.base.specs.Limits.{max_tasks}
use Rattle.base.specs.Arrays.{first_places}
use Rattle.base.proofs.PlaceLaws.{places_is}
use Rattle.schedule.specs.declared.Job.{Job}
use Rattle.choice.specs.Choice.{discard_marks, discarded_worth, count_one}
use Rattle.choice.specs.KeepLists.{ChosenFor}
use Rattle.choice.specs.Programme.{all_worth}
use Rattle.choice.proofs.LexLaws.{LexAtMost}
use Rattle.choice.proofs.FitLaws.{worth_split}
use Rattle.sequence.specs.InOrder.{fits_in_order}
use Rattle.sequence.specs.OrderChoice.{choice_key_in_order, chosen_in_order}
use Rattle.sequence.specs.KeptRows.{same_marks}
use Rattle.sequence.proofs.InOrderLaws.{order_length, none_earliest}
use Rattle.sequence.proofs.OrderChoiceLaws.{BestInOrder, order_unique, chosen_best}

-- it discards nothing
all_worth_lem : (worth : Job → ℕ) (jobs : List Job) → discarded_worth worth jobs (same_marks true jobs) ≡ 0
unfolding discarded_worth
all_worth_lem worth [] = refl
all_worth_lem worth (job ∷ jobs) = omega (arith, all_worth_lem worth jobs)

-- no list of one mark a job keeps at the first place where the two differ
all_first : (jobs : List Job) (other : List Bool) → length other ≡ length jobs → LexAtMost (discard_marks (same_marks true jobs)) (discard_marks other)
unfolding LexAtMost
all_first [] other n = tt
all_first (job ∷ jobs) [] n = absurd (omega arith)
all_first (job ∷ jobs) (keep ∷ other) n = (omega arith, λ e. all_first jobs other (omega arith))

-- Where it fits, it is the chosen list.
all_chosen : (jobs : List Job) → fits_in_order jobs (same_marks true jobs) ≡ true → same_marks true jobs ≡ chosen_in_order jobs
unfolding LexAtMost choice_key_in_order
all_chosen jobs fit =
    let none = all_worth_lem count_one jobs in
    let best : BestInOrder count_one jobs (same_marks true jobs) =
    record { fit = fit; least = λ other e. (omega arith, λ d. all_first jobs other (order_length jobs other e)) } in
    order_unique count_one jobs _ _ best (chosen_best count_one jobs (none_earliest jobs (same_marks true jobs) fit).0)

-- the marks of it
same_at : (jobs : List Job) (k : ℕ) → k < length jobs → get_or (same_marks true jobs) k false ≡ true
same_at [] k l = absurd (omega arith)
same_at (job ∷ jobs) zero l = refl
same_at (job ∷ jobs) (suc k) l = same_at jobs k (omega arith)

-- an array of marks that keep is it
same_places : (jobs : List Job) → length jobs ≤ max_tasks → first_places false (replicate max_tasks true) (length jobs) ≡ same_marks true jobs
same_places jobs small =
    sym (places_is (λ k. get_or (replicate max_tasks true) k false) (length jobs) false (same_marks true jobs)
    (length-map jobs (λ job. true))
    (λ k l. same_at jobs k l ∙ sym (get_or-replicate max_tasks k true false (omega arith))))

-- What the choice comes to then: all parts are kept.
pub all_gives : (jobs : List Job) (parts : ℕ) → length jobs ≤ max_tasks → parts ≡ all_worth count_one jobs
    → fits_in_order jobs (same_marks true jobs) ≡ true
    → ChosenFor chosen_in_order jobs (first_places false (replicate max_tasks true) (length jobs)) parts 0
all_gives jobs parts small e fit =
    let none = all_worth_lem count_one jobs in
    let split = worth_split count_one jobs (same_marks true jobs) (order_length jobs (same_marks true jobs) fit) in
    rw (← all_chosen jobs fit) (same_places jobs small, omega arith, omega arith)

-- Laws of the busy count.
use Prim.Native.Nat.{ℕ, ◌+◌, ◌-◌, ◌≤◌, min, max}
use mathlib.Core.Path.{◌≡◌, refl, sym, ap, ◌∙◌}
use mathlib.Core.List.{List, [], ◌∷◌}
use mathlib.Core.Bool.{true}
use native.Mathlib.Omega.{arith}
use native.Mathlib.Decide.{dec_le}
use Rattle.schedule.specs.declared.Busy.{Busy}
use Rattle.schedule.specs.declared.Run.{Run}
use Rattle.schedule.specs.Ticks.{is_owned, count_below, count_between, ticks_owned}
use Rattle.schedule.specs.Runs.{run_holds, owner_of}
use Rattle.schedule.specs.Judging.{none_empty, follow_from, each_follows}
use Rattle.schedule.specs.RunCheck.{Accepted, check_answer}
use Rattle.schedule.specs.BusyCount.{shared, busy_sum, busy_reply, CountsTicks}
use Rattle.schedule.proofs.TickLaws.{count_grows, count_fits}
use Rattle.schedule.proofs.RunLaws.{run_count, rest_nonempty, rest_follow, own_count, free_count}
use Rattle.schedule.proofs.CheckLaws.{number_accepted, accepted_ordered}

-- an empty interval shares nothing
pub shared_none_interval : (a b : ℕ) (run : Run) → b ≤ a → shared a b run ≡ 0
unfolding shared
shared_none_interval a b run h = omega arith

-- from the later start: what is left of m ticks after those below s and those below a
from_later : (s m a : ℕ) → m - max s a ≡ (m - s) - (min m a - s)
from_later s m a = omega arith

-- and no ticks from n on, where m is not past it
no_more : (s m n : ℕ) → m ≤ n → 0 ≡ (m - s) - (n - s)
no_more s m n h = omega arith

-- what is added for a run is the number of ticks of the interval that it holds
pub shared_is : (a b : ℕ) (run : Run) → shared a b run ≡ count_between (run_holds run) a b
unfolding shared
shared_is a b run =
    rw (run_count run b, run_count run a)
    (elim (dec_le a b) [
      | yes h ↦
          let e : min run.end a ≡ min (min run.end b) a = omega arith in
          rw e (from_later run.start (min run.end b) a)
      | no h ↦ shared_none_interval a b run (omega arith) ∙ no_more run.start (min run.end b) (min run.end a) (omega arith)
    ])

-- of an empty interval the sum is 0
sum_none_interval : (a b : ℕ) (runs : List Run) → b ≤ a → busy_sum a b runs ≡ 0
sum_none_interval a b [] h = refl
sum_none_interval a b (run ∷ runs) h = omega (arith, shared_none_interval a b run h, sum_none_interval a b runs h)

-- in order, the ticks below n that some run holds are those that the first holds and those that the rest hold
held_split : (from : ℕ) (run : Run) (runs : List Run) → none_empty (run ∷ runs) ≡ true → follow_from from (run ∷ runs) ≡ true → (n : ℕ)
    → count_below (λ tick. is_owned (owner_of (run ∷ runs) tick)) n ≡ count_below (run_holds run) n + count_below (λ tick. is_owned (owner_of runs tick)) n
held_split from run runs ne fo n = rw (run_count run n) (own_count is_owned refl from run runs ne fo n)

-- so the sum is the number of ticks of the interval that some run holds
sum_ordered : (from : ℕ) (runs : List Run) → none_empty runs ≡ true → follow_from from runs ≡ true → (a b : ℕ) → a ≤ b
    → busy_sum a b runs ≡ ticks_owned (owner_of runs) a b
sum_ordered from [] ne fo a b h = omega (arith, free_count is_owned refl a, free_count is_owned refl b)
sum_ordered from (run ∷ runs) ne fo a b h =
    omega (
      arith,
      held_split from run runs ne fo a,
      held_split from run runs ne fo b,
      shared_is a b run,
      sum_ordered run.end runs (rest_nonempty run runs ne) (rest_follow from run runs fo) a b h,
      count_grows (run_holds run) a b h,
      count_grows (λ tick. is_owned (owner_of runs tick)) a b h,
    )

-- so it is of every accepted list, and every interval
pub sum_owned : (runs : List Run) → check_answer runs ≡ Accepted → (a b : ℕ) → busy_sum a b runs ≡ ticks_owned (owner_of runs) a b
unfolding each_follows
sum_owned runs accepted a b =
    let order = accepted_ordered runs accepted in
    elim (dec_le a b) [
      | yes h ↦ sum_ordered 0 runs order.0 order.1 a b h
      | no h ↦
          omega (arith, sum_none_interval a b runs (omega arith), count_fits (λ tick. is_owned (owner_of runs tick)) a b)
    ]

-- and at most the length of the interval
pub sum_most : (runs : List Run) → check_answer runs ≡ Accepted → (a b : ℕ) → busy_sum a b runs ≤ b - a
sum_most runs accepted a b = omega (arith, sum_owned runs accepted a b, count_fits (λ tick. is_owned (owner_of runs tick)) a b)

-- an accepted count is that number
pub counts_ticks : (runs : List Run) (a b : ℕ) (reply : Busy) → reply ≡ busy_reply runs a b → CountsTicks runs a b reply
unfolding busy_reply
counts_ticks runs a b reply e zero_number =
    let accepted = number_accepted (check_answer runs) (ap (λ (r : Busy). r.number) (sym e) ∙ zero_number) in
    let ticks : reply.ticks ≡ busy_sum a b runs = ap (λ (r : Busy). r.ticks) e ∙ rw accepted in
    (ticks ∙ sum_owned runs accepted a b, omega (arith, sum_most runs accepted a b))

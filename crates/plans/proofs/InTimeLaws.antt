-- Similar tables, by position: where work runs in order, each task as early as it can, and when all of it ends by the deadlines.
use Prim.Native.Nat.{ℕ, ◌+◌, ◌≤◌, ◌<◌}
use mathlib.Core.Path.{◌≡◌, refl, sym, ap, ◌∙◌}
use mathlib.Core.Logic.{◌⊎◌, ◌↔◌, inl, inr, ◌≢◌}
use mathlib.Core.Bool.{Bool, true}
use mathlib.Core.List.{List, [], ◌∷◌, map}
use native.Mathlib.Omega.{arith}
use native.Mathlib.Decide.{dec_le}
use lib.Dec.{eqb}
use borrow.Author.Tests.{eq-eqb, ne_eqb}
use Rattle.base.specs.Tests.{pick}
use Rattle.base.specs.Members.{Any}
use Rattle.base.proofs.TestLaws.{both_absurd}
use Rattle.base.proofs.MemberLaws.{all_members}
use Rattle.table.specs.declared.Table.{Table}
use Rattle.schedule.specs.Jobs.{job_at, work_with}
use Rattle.sequence.specs.InOrder.{starts_at, ends_at, finish, fits_in_order}
use Rattle.sequence.proofs.InOrderLaws.{work_cases, ends_none, ends_some, ends_after_lem, time_none, time_some, time_known, order_head, order_tail, order_cons}
use Rattle.orders.specs.KindOrder.{kind_before, order_last_first, jobs_last_first}
use Rattle.orders.proofs.SortLaws.{Sorted}
use Rattle.orders.proofs.BeforeLaws.{kind_once, kind_falls, among_order, order_among, sorted_other}
use Rattle.plans.specs.Rules.{HasWork, StartsEarly, EndsInTime}

-- a position stands in a list
abbrev Among : ℕ → List ℕ → Type 0
Among k js = Any (λ j. j ≡ k) js

module _ (launch : ℕ) (t : Table) (work : ℕ → ℕ) where
  -- where the work of the tasks at some positions, which stand last first, ends
  unfoldable pub finish_at : List ℕ → ℕ
  finish_at [] = 0
  finish_at (k ∷ js) = ends_at (job_at launch t k) (work k) (finish_at js)

  -- where the task at a position starts, among them
  unfoldable pub start_at : List ℕ → ℕ → ℕ
  start_at [] k = 0
  start_at (j ∷ js) k = pick (eqb j k) (starts_at (job_at launch t j) (finish_at js)) (start_at js k)

  start-here : (k : ℕ) (js : List ℕ) → start_at (k ∷ js) k ≡ starts_at (job_at launch t k) (finish_at js)
  unfolding start_at
  start-here k js = rw (eq-eqb k k refl)

  start-there : (j k : ℕ) (js : List ℕ) → j ≢ k → start_at (j ∷ js) k ≡ start_at js k
  unfolding start_at
  start-there j k js n = rw (ne_eqb j k n)

  -- the work of the last of them ends where its task started and ran, and no work ends before that of the others
  finish-here : (k : ℕ) (js : List ℕ) → 0 < work k → finish_at (k ∷ js) ≡ start_at (k ∷ js) k + work k
  unfolding finish_at
  finish-here k js w = ends_some (job_at launch t k) (work k) (finish_at js) w ∙ ap (λ (x : ℕ). x + work k) (sym (start-here k js))

  finish-there : (k : ℕ) (js : List ℕ) → finish_at js ≤ finish_at (k ∷ js)
  unfolding finish_at
  finish-there k js = ends_after_lem (job_at launch t k) (work k) (finish_at js)

  finish-none : (k : ℕ) (js : List ℕ) → work k ≡ 0 → finish_at (k ∷ js) ≡ finish_at js
  unfolding finish_at
  finish-none k js z = ends_none (job_at launch t k) (work k) (finish_at js) z

  -- the work of each ends by then
  ends_by : (js : List ℕ) → Sorted (kind_before t) js → (k : ℕ) → Among k js → 0 < work k → start_at js k + work k ≤ finish_at js
  ends_by [] s k x3 w = absurd x3
  ends_by (j ∷ js) s k (inl e) w = rw (← e) (omega (arith, finish-here j js (rw (← e) at w)))
  ends_by (j ∷ js) s k (inr m) w =
      rw (start-there j k js (sorted_other t j k js s m)) (omega (arith, ends_by js s.1 k m w, finish-there j js))

  -- where it ends after tick 0, it is the work of one of them that does
  pub record EndOf (js : List ℕ) : Type 0 where
    pub task : ℕ
    pub among : Among task js
    pub works : 0 < work task
    pub ends : finish_at js ≡ start_at js task + work task

  end_of : (js : List ℕ) → Sorted (kind_before t) js → 0 < finish_at js → EndOf js
  unfolding finish_at
  end_of [] s l = absurd (omega arith)
  end_of (k ∷ js) s l =
      work_cases (work k)
      (λ z.
      let e = end_of js s.1 (omega (arith, finish-none k js z)) in
      record {
        task = e.task;
        among = inr e.among;
        works = e.works;
        ends = rw (start-there k e.task js (sorted_other t k e.task js s e.among)) (finish-none k js z ∙ e.ends);
      })
      (λ w. record { task = k; among = inl refl; works = w; ends = finish-here k js w })

  -- Starts as early as can be.

  -- no task starts before its release,
  starts-released : (js : List ℕ) → Sorted (kind_before t) js → (k : ℕ) → Among k js → (job_at launch t k).release ≤ start_at js k
  starts-released [] s k x'' = absurd x''
  starts-released (j ∷ js) s k (inl e) = rw (← e) (rw (start-here j js) (omega arith))
  starts-released (j ∷ js) s k (inr m) = rw (start-there j k js (sorted_other t j k js s m)) (starts-released js s.1 k m)

  -- nor before the work of one before it ends,
  starts-after : (js : List ℕ) → Sorted (kind_before t) js → (j k : ℕ) → Among j js → Among k js → 0 < work j → kind_before t j k ≡ true
      → start_at js j + work j ≤ start_at js k
  starts-after [] s j k x5 _ w b = absurd x5
  starts-after (i ∷ js) s j k (inl e) (inl f) w b =
      let q : kind_before t k k ≡ true = rw (sym e ∙ f) at b in both_absurd (kind_before t k k) q (kind_once t k k q)
  starts-after (i ∷ js) s j k (inl e) (inr n) w b =
      let l : kind_before t k i ≡ true = (all_members (λ a. kind_before t a i ≡ true) js).0 s.0 k n in
      let q : kind_before t k j ≡ true = rw e at l in both_absurd (kind_before t k j) q (kind_once t j k b)
  starts-after (i ∷ js) s j k (inr m) (inl f) w b =
      let ended = ends_by js s.1 j m w in
      rw (start-there i j js (sorted_other t i j js s m), ← f, start-here i js) (omega arith)
  starts-after (i ∷ js) s j k (inr m) (inr n) w b =
      rw (start-there i j js (sorted_other t i j js s m), start-there i k js (sorted_other t i k js s n)) (starts-after js s.1 j k m n w b)

  -- and each at one of these ticks
  starts-early : (js : List ℕ) → Sorted (kind_before t) js → (k : ℕ) → Among k js
      → (start_at js k ≡ (job_at launch t k).release) ⊎ ((j : ℕ) × Among j js × (0 < work j) × (kind_before t j k ≡ true) × (start_at js k ≡ start_at js j + work j))
  starts-early [] s k x'' = absurd x''
  starts-early (i ∷ js) s k (inl f) =
      rw (← f)
      (elim (dec_le (finish_at js) (job_at launch t i).release) [
        | yes l ↦ inl (rw (start-here i js) (omega arith))
        | no l ↦
            let e = end_of js s.1 (omega arith) in
            let end = e.ends in
            inr (
              e.task,
              inr e.among,
              e.works,
              (all_members (λ a. kind_before t a i ≡ true) js).0 s.0 e.task e.among,
              rw (start-there i e.task js (sorted_other t i e.task js s e.among), start-here i js) (omega arith),
            )
      ])
  starts-early (i ∷ js) s k (inr m) =
      rw (start-there i k js (sorted_other t i k js s m)) (later (starts-early js s.1 k m))
    where
      later : (start_at js k ≡ (job_at launch t k).release) ⊎ ((j : ℕ) × Among j js × (0 < work j) × (kind_before t j k ≡ true) × (start_at js k ≡ start_at js j + work j))
          → (start_at js k ≡ (job_at launch t k).release)
          ⊎ ((j : ℕ) × Among j (i ∷ js) × (0 < work j) × (kind_before t j k ≡ true) × (start_at js k ≡ start_at (i ∷ js) j + work j))
      later (inl e) = inl e
      later (inr e) = inr (e.0, inr e.1, e.2, e.3, rw (start-there i e.0 js (sorted_other t i e.0 js s e.1)) e.4)

  -- Such starts are the only ones. `start` is as early as can be among the tasks of a list that has, with each of its tasks, all that stand before it and have work.
  pub record EarlyIn (js : List ℕ) (start : ℕ → ℕ) : Type 0 where
    pub released : (k : ℕ) → Among k js → 0 < work k → (job_at launch t k).release ≤ start k
    pub after : (j k : ℕ) → Among j js → Among k js → 0 < work j → 0 < work k → kind_before t j k ≡ true → start j + work j ≤ start k
    pub early : (k : ℕ) → Among k js → 0 < work k
        → (start k ≡ (job_at launch t k).release) ⊎ ((j : ℕ) × Among j js × (0 < work j) × (kind_before t j k ≡ true) × (start k ≡ start j + work j))

  -- the list without its last task
  early-tail : (i : ℕ) (js : List ℕ) (start : ℕ → ℕ) → Sorted (kind_before t) (i ∷ js) → EarlyIn (i ∷ js) start → EarlyIn js start
  early-tail i js start s e =
      record {
        released = λ k m w. e.released k (inr m) w;
        after = λ j k m n v w b. e.after j k (inr m) (inr n) v w b;
        early = λ k m w. inner k m (e.early k (inr m) w);
      }
    where
      inner : (k : ℕ) → Among k js
          → (start k ≡ (job_at launch t k).release) ⊎ ((j : ℕ) × Among j (i ∷ js) × (0 < work j) × (kind_before t j k ≡ true) × (start k ≡ start j + work j))
          → (start k ≡ (job_at launch t k).release) ⊎ ((j : ℕ) × Among j js × (0 < work j) × (kind_before t j k ≡ true) × (start k ≡ start j + work j))
      inner k m (inl e) = inl e
      inner k m (inr (j, inr n, v, b, q)) = inr (j, n, v, b, q)
      inner k m (inr (j, inl n, v, b, q)) =
          let l : kind_before t k i ≡ true = (all_members (λ a. kind_before t a i ≡ true) js).0 s.0 k m in
          let c : kind_before t i k ≡ true = rw (← n) at b in
          both_absurd (kind_before t i k) c (kind_once t k i l)

  -- where the last of them starts, from where the others do
  start-last : (i : ℕ) (js : List ℕ) (start : ℕ → ℕ) → Sorted (kind_before t) (i ∷ js) → EarlyIn (i ∷ js) start
      → ((j : ℕ) → Among j js → 0 < work j → start j ≡ start_at js j) → 0 < work i → start i ≡ starts_at (job_at launch t i) (finish_at js)
  start-last i js start s e same v = settled (e.early i (inl refl) v)
    where
      low : (job_at launch t i).release ≤ start i
      low = e.released i (inl refl) v

      by : finish_at js ≤ start i
      by =
          elim (dec_le (finish_at js) 0) [
            | yes z ↦ omega arith
            | no z ↦
                let d = end_of js s.1 (omega arith) in
                let b = (all_members (λ a. kind_before t a i ≡ true) js).0 s.0 d.task d.among in
                omega (arith, d.ends, same d.task d.among d.works, e.after d.task i (inr d.among) (inl refl) d.works v b)
          ]

      settled : (start i ≡ (job_at launch t i).release) ⊎ ((j : ℕ) × Among j (i ∷ js) × (0 < work j) × (kind_before t j i ≡ true) × (start i ≡ start j + work j))
          → start i ≡ starts_at (job_at launch t i) (finish_at js)
      settled (inl q) = omega (arith, by)
      settled (inr (j, inl n, u, b, q)) = let c : kind_before t i i ≡ true = rw (← n) at b in both_absurd (kind_before t i i) c (kind_once t i i c)
      settled (inr (j, inr n, u, b, q)) = omega (arith, by, low, same j n u, ends_by js s.1 j n u)

  -- each task that has work starts where it starts when all run in order
  starts-only : (js : List ℕ) (start : ℕ → ℕ) → Sorted (kind_before t) js → EarlyIn js start → (k : ℕ) → Among k js → 0 < work k → start k ≡ start_at js k
  starts-only [] start s e k x4 w = absurd x4
  starts-only (i ∷ js) start s e k (inr m) w =
      starts-only js start s.1 (early-tail i js start s e) k m w ∙ sym (start-there i k js (sorted_other t i k js s m))
  starts-only (i ∷ js) start s e k (inl f) w =
      rw (← f)
      (start-last i js start s e (λ j m u. starts-only js start s.1 (early-tail i js start s e) j m u) (rw (← f) at w) ∙ sym (start-here i js))

  -- In time.

  -- the work of the tasks is in time under a keep list exactly where each that has work ends by its deadline
  module _ (keep : ℕ → Bool) (works : (k : ℕ) → work k ≡ work_with (job_at launch t k) (keep k)) where
    finish-is : (js : List ℕ) → finish (map (job_at launch t) js) (map keep js) ≡ finish_at js
    unfolding finish finish_at
    finish-is [] = refl
    finish-is (k ∷ js) = rw (← works k, finish-is js) refl

    fits-ends : (js : List ℕ) → Sorted (kind_before t) js → fits_in_order (map (job_at launch t) js) (map keep js) ≡ true
        → (k : ℕ) → Among k js → 0 < work k → start_at js k + work k ≤ (job_at launch t k).deadline
    fits-ends [] s e k x4 w = absurd x4
    fits-ends (i ∷ js) s e k (inl f) w =
        let v : 0 < work i = rw (← f) at w in
        let head = rw (← works i, finish-is js) at (order_head (job_at launch t i) (map (job_at launch t) js) (keep i) (map keep js) e) in
        rw (← f) (rw (start-here i js) (time_known (job_at launch t i) (work i) (finish_at js) v head))
    fits-ends (i ∷ js) s e k (inr m) w =
        rw (start-there i k js (sorted_other t i k js s m)) (fits-ends js s.1 (order_tail (job_at launch t i) (map (job_at launch t) js) (keep i) (map keep js) e) k m w)

    ends-fit : (js : List ℕ) → Sorted (kind_before t) js → ((k : ℕ) → Among k js → 0 < work k → start_at js k + work k ≤ (job_at launch t k).deadline)
        → fits_in_order (map (job_at launch t) js) (map keep js) ≡ true
    unfolding fits_in_order
    ends-fit [] s h = refl
    ends-fit (i ∷ js) s h =
        order_cons (job_at launch t i) (map (job_at launch t) js) (keep i) (map keep js)
        (rw (← works i, finish-is js)
        (work_cases (work i)
        (λ z. time_none (job_at launch t i) (work i) (finish_at js) z)
        (λ w. time_some (job_at launch t i) (work i) (finish_at js) w (rw (start-here i js) at (h i (inl refl) w)))))
        (ends-fit js s.1 (λ k m w. rw (start-there i k js (sorted_other t i k js s m)) at (h k (inr m) w)))

-- A keep list of a table's jobs fits in order exactly where the works by position are in time.
module _ (launch : ℕ) (t : Table) (keep : ℕ → Bool) where
  -- the work of the task at a position
  abbrev work_at : ℕ → ℕ
  work_at k = work_with (job_at launch t k) (keep k)

  -- starts by position among the tasks of the order, and among those of the table
  early-in : (start : ℕ → ℕ) → StartsEarly launch t work_at start → EarlyIn launch t work_at (order_last_first t) start
  early-in start s =
      record {
        released = λ k m w. s.released k (order_among t k m, w);
        after = λ j k m n v w b. s.after j k (order_among t j m, v) (order_among t k n, w) b;
        early = λ k m w. inner k (s.early k (order_among t k m, w));
      }
    where
      inner : (k : ℕ)
          → (start k ≡ (job_at launch t k).release) ⊎ ((j : ℕ) × HasWork t work_at j × (kind_before t j k ≡ true) × (start k ≡ start j + work_at j))
          → (start k ≡ (job_at launch t k).release) ⊎ ((j : ℕ) × Among j (order_last_first t) × (0 < work_at j) × (kind_before t j k ≡ true) × (start k ≡ start j + work_at j))
      inner k (inl e) = inl e
      inner k (inr (j, h, b, q)) = inr (j, among_order t j h.0, h.1, b, q)

  starts_are : StartsEarly launch t work_at (start_at launch t work_at (order_last_first t))
  starts_are =
      let order = order_last_first t in
      record {
        released = λ k h. starts-released launch t work_at order (kind_falls t) k (among_order t k h.0);
        after = λ j k g h b. starts-after launch t work_at order (kind_falls t) j k (among_order t j g.0) (among_order t k h.0) g.1 b;
        early = λ k h. inner k (starts-early launch t work_at order (kind_falls t) k (among_order t k h.0));
      }
    where
      inner : (k : ℕ)
          → (start_at launch t work_at (order_last_first t) k ≡ (job_at launch t k).release)
          ⊎ ((j : ℕ) × Among j (order_last_first t) × (0 < work_at j) × (kind_before t j k ≡ true)
          × (start_at launch t work_at (order_last_first t) k ≡ start_at launch t work_at (order_last_first t) j + work_at j))
          → (start_at launch t work_at (order_last_first t) k ≡ (job_at launch t k).release)
          ⊎ ((j : ℕ) × HasWork t work_at j × (kind_before t j k ≡ true) × (start_at launch t work_at (order_last_first t) k ≡ start_at launch t work_at (order_last_first t) j + work_at j))
      inner k (inl e) = inl e
      inner k (inr (j, m, v, b, q)) = inr (j, (order_among t j m, v), b, q)

  pub fits_in_time : (fits_in_order (jobs_last_first launch t) (map keep (order_last_first t)) ≡ true) ↔ EndsInTime launch t work_at
  unfolding jobs_last_first
  fits_in_time = (
    λ e.
        record {
          start = start_at launch t work_at (order_last_first t);
          starts = starts_are;
          ends = λ k h. fits-ends launch t work_at keep (λ j. refl) (order_last_first t) (kind_falls t) e k (among_order t k h.0) h.1;
        },
    λ i.
        ends-fit launch t work_at keep (λ j. refl) (order_last_first t) (kind_falls t)
        (λ k m w.
        rw (← starts-only launch t work_at (order_last_first t) i.start (kind_falls t) (early-in i.start i.starts) k m w)
        (i.ends k (order_among t k m, w))),
  )

  -- Starts as early as can be are settled where there is work.
  pub starts_settled : (start : ℕ → ℕ) → StartsEarly launch t work_at start → (k : ℕ) → HasWork t work_at k → start k ≡ start_at launch t work_at (order_last_first t) k
  starts_settled start s k h = starts-only launch t work_at (order_last_first t) start (kind_falls t) (early-in start s) k (among_order t k h.0) h.1

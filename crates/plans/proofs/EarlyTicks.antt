-- Similar tables, on ticks: each task has its ticks after those of every task before it, as early as it can.
use Prim.Native.Nat.{ℕ, ◌+◌, ◌-◌, ◌≤◌, ◌<◌}
use mathlib.Core.Path.{◌≡◌, refl, sym, ap, ◌∙◌}
use mathlib.Core.Logic.{inl, inr, ◌≢◌}
use mathlib.Core.Bool.{Bool, true}
use mathlib.Core.List.{List, [], ◌∷◌, map}
use mathlib.Core.Option.{none, some}
use native.Mathlib.Omega.{arith}
use native.Mathlib.Decide.{dec_le}
use lib.Dec.{leb, ltb}
use borrow.Author.Tests.{leb-true, ltb-true, le-leb, lt-ltb, lt-leb}
use Rattle.base.specs.Members.{All, Any}
use Rattle.base.proofs.TestLaws.{cases, both_absurd, and_left, and_right}
use Rattle.base.proofs.MemberLaws.{all_members}
use Rattle.table.specs.declared.Table.{Table}
use Rattle.schedule.specs.Jobs.{job_at, work_with}
use Rattle.schedule.specs.Ticks.{Owner}
use Rattle.schedule.proofs.JudgeLaws.{job_position}
use Rattle.sequence.specs.InOrder.{starts_at, finish, takes_tick, placed_in_order}
use Rattle.sequence.proofs.InOrderLaws.{work_cases, ends_none, ends_some}
use Rattle.sequence.proofs.OrderSufficiency.{free_after}
use Rattle.orders.specs.KindOrder.{kind_before}
use Rattle.orders.proofs.SortLaws.{Sorted}
use Rattle.orders.proofs.BeforeLaws.{kind_once}

-- a tick is free for nobody
no_owner : {C : Type 0} (owner : Owner) (tick i : ℕ) → owner tick ≡ some i → owner tick ≡ none → C
no_owner owner tick i e f = let z : ◌≡◌ {A = ℕ} 0 1 = cc in absurd (omega arith)

module _ (launch : ℕ) (t : Table) where
  -- the owner of the tasks at some positions, which stand last first
  abbrev held : List ℕ → List Bool → Owner
  held js keeps = placed_in_order (map (job_at launch t) js) keeps

  abbrev ended : List ℕ → List Bool → ℕ
  ended js keeps = finish (map (job_at launch t) js) keeps

  -- the last task has a tick, or one before it has, before the last one starts
  held-cases : {C : Type 0} (k : ℕ) (js : List ℕ) (keep : Bool) (keeps : List Bool) (tick i : ℕ) → held (k ∷ js) (keep ∷ keeps) tick ≡ some i
      → (k ≡ i → starts_at (job_at launch t k) (ended js keeps) ≤ tick → tick < starts_at (job_at launch t k) (ended js keeps) + work_with (job_at launch t k) keep → C)
      → (held js keeps tick ≡ some i → tick < ended js keeps → C) → C
  unfolding placed_in_order
  held-cases k js keep keeps tick i e f g =
      let from = starts_at (job_at launch t k) (ended js keeps) in
      let to = from + work_with (job_at launch t k) keep in
      cases (takes_tick (job_at launch t k) (work_with (job_at launch t k) keep) (ended js keeps) tick)
      (λ s.
      let q : some (job_at launch t k).position ≡ some i = rw s at e in
      let p : (job_at launch t k).position ≡ i = cc in
      f (sym (job_position launch t k) ∙ p) (leb-true from tick (and_left (leb from tick) (ltb tick to) s)) (ltb-true tick to (and_right (leb from tick) (ltb tick to) s)))
      (λ s.
      let q : held js keeps tick ≡ some i = rw s at e in
      elim (dec_le (ended js keeps) tick) [
        | yes l ↦ no_owner (held js keeps) tick i q (free_after (map (job_at launch t) js) keeps tick l)
        | no l ↦ g q (omega arith)
      ])

  -- what the last task has, and what those before it have
  held-last : (k : ℕ) (js : List ℕ) (keep : Bool) (keeps : List Bool) (tick : ℕ) → starts_at (job_at launch t k) (ended js keeps) ≤ tick
      → tick < starts_at (job_at launch t k) (ended js keeps) + work_with (job_at launch t k) keep → held (k ∷ js) (keep ∷ keeps) tick ≡ some k
  unfolding placed_in_order
  held-last k js keep keeps tick l m =
      let from = starts_at (job_at launch t k) (ended js keeps) in
      rw (le-leb from tick l, lt-ltb tick (from + work_with (job_at launch t k) keep) m, job_position launch t k)

  held-before : (k : ℕ) (js : List ℕ) (keep : Bool) (keeps : List Bool) (tick : ℕ) → tick < ended js keeps
      → held (k ∷ js) (keep ∷ keeps) tick ≡ held js keeps tick
  unfolding placed_in_order
  held-before k js keep keeps tick l = rw (lt-leb (starts_at (job_at launch t k) (ended js keeps)) tick (omega arith))

  -- whoever has a tick is one of them
  held-among : (js : List ℕ) (keeps : List Bool) (tick i : ℕ) → held js keeps tick ≡ some i → Any (λ j. j ≡ i) js
  unfolding placed_in_order
  held-among [] keeps tick i e = no_owner (held [] keeps) tick i e refl
  held-among (k ∷ js) [] tick i e = no_owner (held (k ∷ js) []) tick i e refl
  held-among (k ∷ js) (keep ∷ keeps) tick i e =
      held-cases k js keep keeps tick i e (λ q l m. inl q) (λ q l. inr (held-among js keeps tick i q))

  -- the last tick before all work has ended is somebody's
  last-held : (js : List ℕ) (keeps : List Bool) → 0 < ended js keeps → (i : ℕ) × (held js keeps (ended js keeps - 1) ≡ some i)
  unfolding finish
  last-held [] keeps l = absurd (omega arith)
  last-held (k ∷ js) [] l = absurd (omega arith)
  last-held (k ∷ js) (keep ∷ keeps) l =
      let w = work_with (job_at launch t k) keep in
      work_cases w
      (λ z.
      let e : ended (k ∷ js) (keep ∷ keeps) ≡ ended js keeps = ends_none (job_at launch t k) w (ended js keeps) z in
      let r = last-held js keeps (omega arith) in
      (r.0, ap (λ (n : ℕ). held (k ∷ js) (keep ∷ keeps) (n - 1)) e ∙ (held-before k js keep keeps (ended js keeps - 1) (omega arith) ∙ r.1)))
      (λ m.
      let e : ended (k ∷ js) (keep ∷ keeps) ≡ starts_at (job_at launch t k) (ended js keeps) + w = ends_some (job_at launch t k) w (ended js keeps) m in
      (k, rw e (held-last k js keep keeps (starts_at (job_at launch t k) (ended js keeps) + w - 1) (omega arith) (omega arith))))

  -- the ticks of a task lie after those of every task before it
  pub held_ordered : (js : List ℕ) (keeps : List Bool) → Sorted (kind_before t) js → (i j u v : ℕ) → kind_before t j i ≡ true
      → held js keeps u ≡ some j → held js keeps v ≡ some i → u < v
  unfolding placed_in_order
  held_ordered [] keeps s i j u v b e f = no_owner (held [] keeps) u j e refl
  held_ordered (k ∷ js) [] s i j u v b e f = no_owner (held (k ∷ js) []) u j e refl
  held_ordered (k ∷ js) (keep ∷ keeps) s i j u v b e f =
      let none_before : (a : ℕ) → k ≡ a → (c : ℕ) → Any (λ x. x ≡ c) js → kind_before t a c ≡ true → ⊥ =
      λ a q c m r.
      let l = (all_members (λ x. kind_before t x k ≡ true) js).0 s.0 c m in
      let l₂ : kind_before t k c ≡ true = rw (← q) at r in
      both_absurd (kind_before t k c) l₂ (kind_once t c k l) in
      held-cases k js keep keeps u j e
      (λ q l m.
      held-cases k js keep keeps v i f
      (λ r n o. let b₂ : kind_before t i i ≡ true = rw (sym q ∙ r) at b in both_absurd (kind_before t i i) b₂ (kind_once t i i b₂))
      (λ r n. absurd (none_before j q i (held-among js keeps v i r) b)))
      (λ q l.
      held-cases k js keep keeps v i f
      (λ r n o. omega arith)
      (λ r n. held_ordered js keeps s.1 i j u v b q r))

  -- A tick from its release on that a task has not taken, though it has a later one, is one by which some task before it has not ended. Here for the
  -- last task,
  early-last : (k : ℕ) (js : List ℕ) (keep : Bool) (keeps : List Bool) → All (λ j. kind_before t j k ≡ true) js → (u v : ℕ) → (job_at launch t k).release ≤ u → u < v
      → v < starts_at (job_at launch t k) (ended js keeps) + work_with (job_at launch t k) keep → held (k ∷ js) (keep ∷ keeps) u ≢ some k
      → (j : ℕ) × (w : ℕ) × (kind_before t j k ≡ true) × (held (k ∷ js) (keep ∷ keeps) w ≡ some j) × (u ≤ w)
  early-last k js keep keeps s u v r l b n =
      elim (dec_le (starts_at (job_at launch t k) (ended js keeps)) u) [
        | yes c ↦ absurd (n (held-last k js keep keeps u c (omega arith)))
        | no c ↦
            let h = last-held js keeps (omega arith) in
            let m = held-among js keeps (ended js keeps - 1) h.0 h.1 in (
              h.0,
              ended js keeps - 1,
              (all_members (λ x. kind_before t x k ≡ true) js).0 s h.0 m,
              held-before k js keep keeps (ended js keeps - 1) (omega arith) ∙ h.1,
              omega arith,
            )
      ]

  -- and for each
  pub held_early : (js : List ℕ) (keeps : List Bool) → Sorted (kind_before t) js → (i u v : ℕ) → (job_at launch t i).release ≤ u → u < v
      → held js keeps v ≡ some i → held js keeps u ≢ some i
      → (j : ℕ) × (w : ℕ) × (kind_before t j i ≡ true) × (held js keeps w ≡ some j) × (u ≤ w)
  unfolding placed_in_order
  held_early [] keeps s i u v r l e n = no_owner (held [] keeps) v i e refl
  held_early (k ∷ js) [] s i u v r l e n = no_owner (held (k ∷ js) []) v i e refl
  held_early (k ∷ js) (keep ∷ keeps) s i u v r l e n =
      held-cases k js keep keeps v i e
      (λ q a b. rw (← q) (early-last k js keep keeps s.0 u v (rw (← q) at r) l b (rw (← q) at n)))
      (λ q a.
      let inner = held_early js keeps s.1 i u v r l q (λ c. n (held-before k js keep keeps u (omega arith) ∙ c)) in
      let w = inner.1 in
      elim (dec_le (ended js keeps) w) [
        | yes c ↦ no_owner (held js keeps) w inner.0 inner.3 (free_after (map (job_at launch t) js) keeps w c)
        | no c ↦ (inner.0, w, inner.2, held-before k js keep keeps w (omega arith) ∙ inner.3, inner.4)
      ])

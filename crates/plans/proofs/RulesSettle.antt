-- The plan of an accepted table is the one plan by the rules: they settle the runs, too.
use Prim.Native.Nat.{ℕ, zero, suc, ◌-◌, ◌≤◌, ◌<◌}
use mathlib.Core.Path.{◌≡◌, refl, sym, ap, fun_ext, ◌∙◌}
use mathlib.Core.Logic.{◌↔◌, ◌≢◌, inl, inr}
use mathlib.Core.Bool.{Bool, true, false}
use mathlib.Core.List.{List, [], ◌∷◌}
use mathlib.Core.Option.{Option, none, some}
use native.Mathlib.Omega.{arith}
use native.Mathlib.Decide.{dec_lt}
use lib.ListN.{length, get_or}
use borrow.Author.Tests.{eqb-true, eq-eqb}
use Rattle.base.specs.Members.{All, Any}
use Rattle.base.proofs.TestLaws.{cases, both_absurd}
use Rattle.base.proofs.MemberLaws.{all_map, all_members, all_places, any_member}
use Rattle.table.specs.declared.Table.{Table}
use Rattle.table.specs.Kinds.{is_nested}
use Rattle.table.specs.Writing.{Legal}
use Rattle.schedule.specs.declared.Run.{Run}
use Rattle.schedule.specs.Jobs.{job_of, job_at, jobs_of, work_of}
use Rattle.schedule.specs.Ticks.{Owner, is_task, count_below, sum_below}
use Rattle.schedule.specs.Runnings.{got}
use Rattle.schedule.specs.Runs.{no_run, run_holds, owner_of}
use Rattle.schedule.proofs.TickLaws.{count_none}
use Rattle.schedule.proofs.RunLaws.{run_holds_lem, owner_cases, owner_has_run}
use Rattle.schedule.proofs.JudgeLaws.{job_position, job_holds}
use Rattle.orders.specs.KindOrder.{kind_before, order_last_first}
use Rattle.orders.proofs.SortLaws.{Sorted}
use Rattle.orders.proofs.BeforeLaws.{kind_once, kind_total, kind_falls, all_order, order_all, among_order}
use Rattle.plans.specs.Planning.{plan_marks, plan_runs}
use Rattle.plans.specs.PlanParts.{mandatory_fit}
use Rattle.plans.specs.Rules.{PlacedAs, LongestStretch, LongestRuns, PlanByRules}
use Rattle.plans.proofs.PlanLaws.{plan_optimal}
use Rattle.plans.proofs.RuleLaws.{rules_fit, plan_by_rules, rules_plan}
use Rattle.plans.proofs.PlacingRules.{plan_placed, plan_longest}

-- Counting. A test that passes where another does passes at least as often,
count_least : (p q : ℕ → Bool) (n : ℕ) → ((tick : ℕ) → p tick ≡ true → q tick ≡ true) → count_below p n ≤ count_below q n
unfolding sum_below
count_least p q zero h = omega arith
count_least p q (suc n) h =
    cases (p n) (λ e. rw (e, h n e) (omega (arith, count_least p q n h))) (λ e. rw e (omega (arith, count_least p q n h)))

-- and more often where it passes at one tick more.
count_more : (p q : ℕ → Bool) (n v : ℕ) → ((tick : ℕ) → p tick ≡ true → q tick ≡ true) → v < n → p v ≡ false → q v ≡ true
    → count_below p n < count_below q n
unfolding sum_below
count_more p q zero v h l fails is = absurd (omega arith)
count_more p q (suc n) v h l fails is =
    elim (dec_lt v n) [
      | yes m ↦
          let rest = count_more p q n v h m fails is in
          cases (p n) (λ e. rw (e, h n e) (omega arith)) (λ e. rw e (omega arith))
      | no m ↦
          let same : v ≡ n = omega arith in
          rw (rw same at fails, rw same at is) (omega (arith, count_least p q n h))
    ]

-- whose tick it is, as a test
task_is : (i : ℕ) (o : Option ℕ) → is_task i o ≡ true → o ≡ some i
task_is i none e = both_absurd false e refl
task_is i (some k) e = ap some (eqb-true k i e)

is_task_lem : (i : ℕ) (o : Option ℕ) → o ≡ some i → is_task i o ≡ true
is_task_lem i o e = rw e (eq-eqb i i refl)

not_task : (i : ℕ) (o : Option ℕ) → is_task i o ≡ false → o ≢ some i
not_task i o e q = both_absurd (is_task i o) (is_task_lem i o q) e

-- What is known of an owner of ticks that a plan by the rules has: whoever has a tick is a task whose window holds it, each task has as many ticks as its
-- work, and they are those that the rules of the kind give it.
record Settled (launch : ℕ) (t : Table) (nested : Bool) (work : ℕ → ℕ) (owner : Owner) : Type 0 where
  window : (tick i : ℕ) → owner tick ≡ some i → (i < t.count) × ((job_at launch t i).release ≤ tick) × (tick < (job_at launch t i).deadline)
  works : (i : ℕ) → i < t.count → got owner (job_at launch t i) ≡ work i
  placed : PlacedAs launch nested t owner

module _ (launch : ℕ) (t : Table) (nested : Bool) (work : ℕ → ℕ) where
  -- The ticks of one task, where two such owners agree on all tasks before it.
  module _ (a b : Owner) (sa : Settled launch t nested work a) (sb : Settled launch t nested work b) (i : ℕ) (known : i < t.count)
      (before : (j tick : ℕ) → kind_before t j i ≡ true → (a tick ≡ some j) ↔ (b tick ≡ some j)) where
    -- whoever else has a tick of task i stands after it
    others-after : (x y : Owner) → ((j tick : ℕ) → kind_before t j i ≡ true → x tick ≡ some j → y tick ≡ some j)
        → (tick : ℕ) → y tick ≡ some i → x tick ≢ some i → (j : ℕ) → x tick ≡ some j → kind_before t i j ≡ true
    others-after x y same tick has left j e =
        cases (kind_before t j i)
        (λ q.
        let mine = same j tick q e in
        let z : j ≡ i = cc in
        absurd (left (rw z at e)))
        (λ q. kind_total t j i (λ z. left (rw z at e)) q)

    -- Where a has a tick v that b has not, every tick that b has is one of a.
    within : (kind : Bool) → PlacedAs launch kind t a → PlacedAs launch kind t b
        → (v : ℕ) → a v ≡ some i → b v ≢ some i → (u : ℕ) → b u ≡ some i → a u ≢ some i → ⊥
    within true pa pb v hv nv u hu nu =
        let wv = sa.window v i hv in
        let wu = sb.window u i hu in
        let first : v < u = pb i v u known wv.1 wv.2 nv (others-after b a (λ j tick q. (before j tick q).1) v hv nv) hu in
        let second : u < v = pa i u v known wu.1 wu.2 nu (others-after a b (λ j tick q. (before j tick q).0) u hu nu) hv in
        omega arith
    within false pa pb v hv nv u hu nu =
        let wv = sa.window v i hv in
        let wu = sb.window u i hu in
        elim (dec_lt v u) [
          | yes l ↦
              let c = pb.early i v u wv.1 l hu nv in
              let m : c.1 < v = pa.ordered i c.0 c.1 v c.2 ((before c.0 c.1 c.2).1 c.3) hv in
              omega (arith, c.4)
          | no l ↦
              elim (dec_lt u v) [
                | yes m ↦
                    let c = pa.early i u v wu.1 m hv nu in
                    let n : c.1 < u = pb.ordered i c.0 c.1 u c.2 ((before c.0 c.1 c.2).0 c.3) hu in
                    omega (arith, c.4)
                | no m ↦
                    let same : u ≡ v = omega arith in
                    nv (rw same at hu)
              ]
        ]

    -- the ticks of the task, counted from tick 0: none lies before its release
    got-below : (owner : Owner) → Settled launch t nested work owner
        → count_below (λ tick. is_task i (owner tick)) (job_at launch t i).deadline ≡ work i
    got-below owner s =
        let none-early = count_none (λ tick. is_task i (owner tick)) (job_at launch t i).release
        (λ tick l.
        cases (is_task i (owner tick)) (λ e. absurd (omega (arith, s.window tick i (task_is i (owner tick) e)))) (λ e. e)) in
        let all = rw (job_position launch t i) at (s.works i known) in
        omega arith

    -- So every tick of a is one of b.
    same-tick : (v : ℕ) → a v ≡ some i → b v ≡ some i
    same-tick v hv =
        cases (is_task i (b v)) (task_is i (b v))
        (λ e.
        let inside : (tick : ℕ) → is_task i (b tick) ≡ true → is_task i (a tick) ≡ true =
        λ tick q.
        cases (is_task i (a tick)) (λ r. r)
        (λ r.
        absurd
        (within nested sa.placed sb.placed v hv (not_task i (b v) e) tick (task_is i (b tick) q) (not_task i (a tick) r))) in
        let more = count_more (λ tick. is_task i (b tick)) (λ tick. is_task i (a tick)) (job_at launch t i).deadline v inside (sa.window v i hv).2 e (is_task_lem i (a v) hv) in
        absurd (omega (arith, got-below a sa, got-below b sb)))

  -- Two such owners agree on each task, in the order of the kind from its first to its last.
  module _ (a b : Owner) (sa : Settled launch t nested work a) (sb : Settled launch t nested work b) where
    abbrev Agree : ℕ → Type 0
    Agree i = (tick : ℕ) → (a tick ≡ some i) ↔ (b tick ≡ some i)

    -- of tasks that stand last first, where each list has with a task all that stand before it
    agree-in : (js : List ℕ) → Sorted (kind_before t) js → All (λ i. i < t.count) js
        → ((j k : ℕ) → j < t.count → kind_before t j k ≡ true → Any (λ n. n ≡ k) js → Any (λ n. n ≡ j) js) → All Agree js
    agree-in [] s l whole = tt
    agree-in (i ∷ js) s l whole =
        let rest = agree-in js s.1 l.1
        (λ j k m e q.
        elim (whole j k m e (inr q)) [
          | inl z ↦
              let later : kind_before t k j ≡ true = rw z at ((all_members (λ n. kind_before t n i ≡ true) js).0 s.0 k q) in
              both_absurd (kind_before t k j) later (kind_once t j k e)
          | inr r ↦ r
        ]) in
        let earlier : (j tick : ℕ) → kind_before t j i ≡ true → j < t.count → (a tick ≡ some j) ↔ (b tick ≡ some j) =
        λ j tick e m.
        elim (whole j i m e (inl refl)) [
          | inl z ↦ let own : kind_before t i i ≡ true = rw (← z) at e in both_absurd (kind_before t i i) own (kind_once t i i own)
          | inr r ↦ (all_members Agree js).0 rest j r tick
        ] in
        let before : (j tick : ℕ) → kind_before t j i ≡ true → (a tick ≡ some j) ↔ (b tick ≡ some j) =
        λ j tick e. (
          λ h. (earlier j tick e (sa.window tick j h).0).0 h,
          λ h. (earlier j tick e (sb.window tick j h).0).1 h,
        ) in (
          λ tick. (
            same-tick a b sa sb i l.0 before tick,
            same-tick b a sb sa i l.0 (λ j u e. ((before j u e).1, (before j u e).0)) tick,
          ),
          rest,
        )

    agree-all : All Agree (order_last_first t)
    agree-all =
        agree-in (order_last_first t) (kind_falls t) (all_order t (λ i. i < t.count) (λ i l. l)) (λ j k l e m. among_order t j l)

    -- So they are the same.
    owners-same : (tick : ℕ) → a tick ≡ b tick
    owners-same tick =
        owner_cases (a tick)
        (λ e.
        owner_cases (b tick) (λ q. e ∙ sym q)
        (λ i q.
        let has = (order_all t Agree agree-all i (sb.window tick i q).0 tick).1 q in
        let z : ◌≡◌ {A = ℕ} 0 1 = cc in
        absurd (omega arith)))
        (λ i e. e ∙ sym ((order_all t Agree agree-all i (sa.window tick i e).0 tick).0 e))

-- Runs by start: each starts before all that follow it.
abbrev Rises : List Run → Type 0
Rises [] = Unit {0}
Rises (run ∷ runs) = All (λ next. run.start < next.start) runs × Rises runs

rises : (runs : List Run) → ((k : ℕ) → suc k < length runs → (get_or runs k no_run).start < (get_or runs (suc k) no_run).start) → Rises runs
rises [] h = tt
rises (run ∷ []) h = (tt, tt)
rises (run ∷ (next ∷ runs)) h =
    let first : run.start < next.start = h 0 (omega arith) in
    let rest = rises (next ∷ runs) (λ k l. h (suc k) (omega arith)) in
    ((first, all_map (λ other. next.start < other.start) (λ other. run.start < other.start) runs (λ other l. omega arith) rest.0), rest)

-- Lists of the same runs, both by start, are the same.
same_runs : (xs ys : List Run) → Rises xs → Rises ys → ((run : Run) → Any (λ x. x ≡ run) xs → Any (λ x. x ≡ run) ys)
    → ((run : Run) → Any (λ x. x ≡ run) ys → Any (λ x. x ≡ run) xs) → xs ≡ ys
same_runs [] [] ra rb f g = refl
same_runs [] (b ∷ ys) ra rb f g = absurd (g b (inl refl))
same_runs (a ∷ xs) [] ra rb f g = absurd (f a (inl refl))
same_runs (a ∷ xs) (b ∷ ys) ra rb f g =
    let behind : (run : Run) → Any (λ x. x ≡ run) xs → a.start < run.start = λ run m. (all_members (λ next. a.start < next.start) xs).0 ra.0 run m in
    let after : (run : Run) → Any (λ x. x ≡ run) ys → b.start < run.start = λ run m. (all_members (λ next. b.start < next.start) ys).0 rb.0 run m in
    let first : a ≡ b =
    elim (f a (inl refl)) [
      | inl e ↦ sym e
      | inr m ↦
          elim (g b (inl refl)) [
            | inl e ↦ e
            | inr n ↦ absurd (omega (arith, after a m, behind b n))
          ]
    ] in
    let start : a.start ≡ b.start = ap (λ (run : Run). run.start) first in
    let rest : xs ≡ ys =
    same_runs xs ys ra.1 rb.1
    (λ run m.
    elim (f run (inr m)) [
      | inl e ↦ let same : b.start ≡ run.start = ap (λ (x : Run). x.start) e in absurd (omega (arith, behind run m))
      | inr n ↦ n
    ])
    (λ run m.
    elim (g run (inr m)) [
      | inl e ↦ let same : a.start ≡ run.start = ap (λ (x : Run). x.start) e in absurd (omega (arith, after run m))
      | inr n ↦ n
    ]) in
    ap (λ (x : Run). x ∷ xs) first ∙ ap (λ (zs : List Run). b ∷ zs) rest

-- A longest stretch begins no later than another of its task that holds its first tick,
no_earlier : (owner : Owner) (a b : Run) → LongestStretch owner a → LongestStretch owner b → a.task ≡ b.task → b.start ≤ a.start → a.start < b.end
    → a.start ≡ b.start
no_earlier owner a b la lb e l m =
    elim (dec_lt b.start a.start) [
      | no n ↦ omega arith
      | yes n ↦
          let held : owner (a.start - 1) ≡ some b.task = lb.owns (a.start - 1) (omega arith) (omega arith) in
          absurd (la.before (a.start - 1) (omega arith) (rw (← e) at held))
    ]

-- and ends no earlier than another that begins where it does.
no_later_lem : (owner : Owner) (a b : Run) → LongestStretch owner a → LongestStretch owner b → a.task ≡ b.task → a.start ≡ b.start → b.end ≤ a.end
no_later_lem owner a b la lb e q =
    elim (dec_lt a.end b.end) [
      | no n ↦ omega arith
      | yes n ↦
          let held : owner a.end ≡ some b.task = lb.owns a.end (omega (arith, la.nonempty)) n in
          absurd (la.after (rw (← e) at held))
    ]

-- So each longest stretch of one list is one of another list of the same owner.
stretch_among : (owner : Owner) (runs : List Run) → ((tick : ℕ) → owner_of runs tick ≡ owner tick) → All (LongestStretch owner) runs
    → (a : Run) → LongestStretch owner a → Any (λ run. run ≡ a) runs
stretch_among owner runs says longest a la =
    let owned : owner_of runs a.start ≡ some a.task = says a.start ∙ la.owns a.start (omega arith) la.nonempty in
    let found = any_member (λ run. (run_holds run a.start ≡ true) × (run.task ≡ a.task)) runs (owner_has_run runs a.start a.task owned) in
    let b = found.0 in
    let lb = (all_members (LongestStretch owner) runs).0 longest b found.1 in
    let holds = run_holds_lem b a.start found.2.0 in
    let task : a.task ≡ b.task = sym found.2.1 in
    let start = no_earlier owner a b la lb task holds.0 holds.1 in
    let end : a.end ≡ b.end = omega (arith, no_later_lem owner a b la lb task start, no_later_lem owner b a lb la (sym task) (sym start)) in
    let same : b ≡ a = λ i. record { start = sym start i; end = sym end i; task = sym task i } in
    rw same at found.1

-- Two lists of longest stretches by start that say the same owner are the same.
lists_same : (t : Table) (runs others : List Run) → ((tick : ℕ) → owner_of runs tick ≡ owner_of others tick) → LongestRuns t runs → LongestRuns t others
    → runs ≡ others
lists_same t runs others same l m =
    let owners : owner_of others ≡ owner_of runs = sym (fun_ext same) in
    let longest : All (LongestStretch (owner_of runs)) others = rw owners at m.stretches in
    same_runs runs others (rises runs l.by_start) (rises others m.by_start)
    (λ run h. stretch_among (owner_of runs) others (λ tick. sym (same tick)) longest run ((all_members (LongestStretch (owner_of runs)) runs).0 l.stretches run h))
    (λ run h. stretch_among (owner_of runs) runs (λ tick. refl) l.stretches run ((all_members (LongestStretch (owner_of runs)) others).0 longest run h))

-- What a plan by the rules says of its owner.
settled : (launch : ℕ) (weight : ℕ → ℕ) (t : Table) (marks : List ℕ) (runs : List Run) → PlanByRules launch weight t marks runs
    → Settled launch t (is_nested t) (λ i. work_of (job_at launch t i) (get_or marks i 0)) (owner_of runs)
unfolding jobs_of job_at job_of
settled launch weight t marks runs p =
    record {
      window = λ tick i e. (job_holds launch t tick i).0 (p.together.running.inside tick i e);
      works = (all_places (λ job. got (owner_of runs) job ≡ work_of job (get_or marks job.position 0)) (job_at launch t) t.count).0 p.together.work;
      placed = p.placed;
    }

-- Plans by the rules with the same marks have the same runs.
pub rules_runs : (launch : ℕ) (weight : ℕ → ℕ) (t : Table) (marks : List ℕ) (runs others : List Run) → PlanByRules launch weight t marks runs → PlanByRules launch weight t marks others
    → runs ≡ others
rules_runs launch weight t marks runs others p q =
    lists_same t runs others
    (owners-same launch t (is_nested t) (λ i. work_of (job_at launch t i) (get_or marks i 0)) (owner_of runs) (owner_of others) (settled launch weight t marks runs p)
    (settled launch weight t marks others q))
    p.longest q.longest

-- The plan of an accepted table whose mandatory parts fit is one by the rules,
pub plan_rules : (launch : ℕ) (weight : ℕ → ℕ) (t : Table) → Legal t → mandatory_fit launch t ≡ true → PlanByRules launch weight t (plan_marks launch weight t) (plan_runs launch weight t)
plan_rules launch weight t legal fit =
    record {
      chosen = plan_by_rules launch weight t fit;
      together = (plan_optimal launch weight t legal fit).together;
      placed = plan_placed launch weight t legal fit;
      longest = plan_longest launch weight t legal fit;
    }

-- and there is no other.
pub rules_settle : (launch : ℕ) (weight : ℕ → ℕ) (t : Table) (marks : List ℕ) (runs : List Run) → Legal t → PlanByRules launch weight t marks runs
    → (marks ≡ plan_marks launch weight t) × (runs ≡ plan_runs launch weight t)
rules_settle launch weight t marks runs legal p =
    let same = rules_plan launch weight t marks p.chosen in (
      same,
      rules_runs launch weight t (plan_marks launch weight t) runs (plan_runs launch weight t) (rw same at p) (plan_rules launch weight t legal (rules_fit launch weight t marks p.chosen)),
    )

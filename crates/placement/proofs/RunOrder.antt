-- The stretches of any owner: none is empty, they stand by start, they say who has each tick, and no two make one.
use Prim.Native.Nat.{ℕ, zero, suc, ◌-◌, ◌*◌, ◌≤◌}
use mathlib.Core.Path.{◌≡◌, refl, sym, ◌∙◌}
use mathlib.Core.List.{List, [], ◌∷◌, reverse_aux}
use mathlib.Core.Bool.{Bool, true}
use mathlib.Core.Option.{Option, none, some}
use native.Mathlib.Omega.{arith}
use native.Mathlib.Decide.{dec_le}
use lib.Dec.{leb, ltb, eqb}
use lib.ListN.{length, length-reverse}
use borrow.Author.Tests.{leb-true, le-leb, lt-ltb, eqb-true, eqb-false}
use Rattle.base.proofs.TestLaws.{cases, and_true, and_left, and_right}
use Rattle.schedule.specs.declared.Job.{Job}
use Rattle.schedule.specs.Ticks.{Owner}
use Rattle.base.specs.Members.{All, every_member}
use Rattle.schedule.specs.declared.Run.{Run}
use Rattle.schedule.specs.Runs.{owner_of}
use Rattle.schedule.specs.Judging.{none_empty, follow_from, each_follows}
use Rattle.schedule.proofs.RunLaws.{in_holds, after_holds, free_before}
use Rattle.choice.specs.Choice.{works_fit, works_of, fits}
use Rattle.placement.specs.Chains.{Chain}
use Rattle.placement.specs.Placing.{works_placed, placed, join_tick, join_task, latest_first, stretches}
use Rattle.placement.specs.GapFilling.{works_filled}
use Rattle.placement.proofs.Sufficiency.{works_placed_lem}
use Rattle.placement.proofs.RunCount.{filled_few}
use Rattle.placement.proofs.RunTicks.{Reads, Longest, free_beyond, filled_stretches}

-- What `latest_first` keeps from tick to tick.

-- a free tick more
reads_none : (owner : Owner) (runs : List Run) (n : ℕ) → Reads owner runs n → owner n ≡ none → Reads owner runs (suc n)
reads_none owner [] n d e = λ tick l. elim (dec_le n tick) [
  | yes k ↦ let q : tick ≡ n = omega arith in rw q e
  | no k ↦ d tick (omega arith)
]
reads_none owner (run ∷ runs) n d e = (
  d.0,
  omega arith,
  λ tick h l. elim (dec_le n tick) [
    | yes k ↦ let q : tick ≡ n = omega arith in rw q e
    | no k ↦ d.2 tick h (omega arith)
  ],
  d.3,
  d.4,
)

-- a tick of task i that begins a run
reads_start : (owner : Owner) (runs : List Run) (n i : ℕ) → Reads owner runs n → owner n ≡ some i
    → Reads owner (record { start = n; end = suc n; task = i } ∷ runs) (suc n)
reads_start owner runs n i d e = (
  omega arith,
  omega arith,
  λ tick h l. absurd (omega arith),
  λ tick h l. let q : tick ≡ n = omega arith in rw q e,
  d,
)

-- a tick of task i that the latest run grows by, or that begins a run
reads_task : (owner : Owner) (runs : List Run) (n i : ℕ) → Reads owner runs n → Longest runs → owner n ≡ some i
    → Reads owner (join_task n i runs) (suc n) × Longest (join_task n i runs)
reads_task owner [] n i d m e = (reads_start owner [] n i d e, tt)
reads_task owner (run ∷ runs) n i d m e =
    cases (eqb run.end n)
    (λ p.
    let ends = eqb-true run.end n p in
    cases (eqb run.task i)
    (λ q.
    let same = eqb-true run.task i q in
    let s = d.0 in
    rw (p, q) (
      (
        omega arith,
        omega arith,
        λ tick h l. absurd (omega arith),
        λ tick h l. elim (dec_le n tick) [
          | yes k ↦ let z : tick ≡ n = omega arith in rw z e
          | no k ↦ rw (← same) (d.3 tick h (omega arith))
        ],
        d.4,
      ),
      longer runs run i (suc n) same m,
    ))
    (λ q. rw (p, q) (reads_start owner (run ∷ runs) n i d e, (λ _. eqb-false run.task i q, m))))
    (λ p. rw p (reads_start owner (run ∷ runs) n i d e, (λ z. absurd (eqb-false run.end n p z), m)))
  where
    longer : (runs : List Run) (run : Run) (i n : ℕ) → run.task ≡ i → Longest (run ∷ runs) → Longest (record { start = run.start; end = n; task = i } ∷ runs)
    longer [] run i n s m = tt
    longer (next ∷ runs) run i n s m = (λ z. rw (← s) (m.0 z), m.1)

-- one tick more
reads_tick : (owner : Owner) (o : Option ℕ) (runs : List Run) (n : ℕ) → owner n ≡ o → Reads owner runs n → Longest runs
    → Reads owner (join_tick n o runs) (suc n) × Longest (join_tick n o runs)
reads_tick owner none runs n e d m = (reads_none owner runs n d e, m)
reads_tick owner (some i) runs n e d m = reads_task owner runs n i d m e

-- The stretches of any owner, latest first, say who has each tick below n, and no two of them make one.
pub latest_reads : (owner : Owner) (n : ℕ) → Reads owner (latest_first owner n) n × Longest (latest_first owner n)
unfolding latest_first
latest_reads owner zero = (λ tick l. absurd (omega arith), tt)
latest_reads owner (suc n) = let r = latest_reads owner n in reads_tick owner (owner n) (latest_first owner n) n refl r.0 r.1

-- Turned round: `rest` are the runs from `top` on that were turned before.

-- runs that may start at b may start earlier
follow_earlier : (a b : ℕ) (runs : List Run) → a ≤ b → follow_from b runs ≡ true → follow_from a runs ≡ true
unfolding follow_from
follow_earlier a b [] h e = refl
follow_earlier a b (run ∷ runs) h e =
    and_true (leb a run.start) (follow_from run.end runs)
    (le-leb a run.start (omega (arith, leb-true b run.start (and_left (leb b run.start) (follow_from run.end runs) e))))
    (and_right (leb b run.start) (follow_from run.end runs) e)

-- runs by start that say who has each tick
pub record Listed (owner : Owner) (runs : List Run) : Type 0 where
  pub nonempty : none_empty runs ≡ true
  pub ordered : each_follows runs ≡ true
  pub says : (tick : ℕ) → owner_of runs tick ≡ owner tick

-- the run whose start is `top`, before those from its end on
turn_owner : (owner : Owner) (run : Run) (runs rest : List Run) (top : ℕ) → Reads owner (run ∷ runs) top → none_empty rest ≡ true
    → follow_from top rest ≡ true → ((tick : ℕ) → top ≤ tick → owner_of rest tick ≡ owner tick)
    → (tick : ℕ) → run.start ≤ tick → owner_of (run ∷ rest) tick ≡ owner tick
unfolding owner_of
turn_owner owner run runs rest top d ne fo says tick h =
    elim (dec_le run.end tick) [
      | yes k ↦
          rw (after_holds run tick k)
          (elim (dec_le top tick) [
            | yes l ↦ says tick l
            | no l ↦ free_before top rest ne fo tick (omega arith) ∙ sym (d.2 tick k (omega arith))
          ])
      | no k ↦ rw (in_holds run tick h (omega arith)) (sym (d.3 tick h (omega arith)))
    ]

-- turning all runs round
turn : (owner : Owner) (runs rest : List Run) (top : ℕ) → Reads owner runs top → none_empty rest ≡ true → follow_from top rest ≡ true
    → ((tick : ℕ) → top ≤ tick → owner_of rest tick ≡ owner tick) → Listed owner (reverse_aux runs rest)
unfolding every_member follow_from each_follows
turn owner [] rest top d ne fo says =
    record {
      nonempty = ne;
      ordered = follow_earlier 0 top rest (omega arith) fo;
      says = λ tick. elim (dec_le top tick) [
        | yes k ↦ says tick k
        | no k ↦ free_before top rest ne fo tick (omega arith) ∙ sym (d tick (omega arith))
      ];
    }
turn owner (run ∷ runs) rest top d ne fo says =
    turn owner runs (run ∷ rest) run.start d.4
    (and_true (ltb run.start run.end) (none_empty rest) (lt-ltb run.start run.end d.0) ne)
    (and_true (leb run.start run.start) (follow_from run.end rest) (le-leb run.start run.start (omega arith))
    (follow_earlier run.end top rest d.1 fo))
    (turn_owner owner run runs rest top d ne fo says)

-- The stretches of an owner who has no tick from n on: none is empty, they stand by start, and they say who has each tick.
pub stretches_listed : (owner : Owner) (n : ℕ) → ((tick : ℕ) → n ≤ tick → owner tick ≡ none) → Listed owner (stretches owner n)
unfolding every_member follow_from owner_of
stretches_listed owner n free = turn owner (latest_first owner n) [] n (latest_reads owner n).0 refl refl (λ tick h. sym (free tick h))

-- The runs of a placing of a chain, where the works fit and no deadline is after b: none is empty, they stand by start, they say who has each
-- tick,
pub works_listed : (jobs : List Job) (works : List ℕ) → Chain jobs → works_fit jobs works ≡ true → (b : ℕ) → All (λ job. job.deadline ≤ b) jobs
    → Listed (works_placed jobs works) (stretches (works_placed jobs works) b)
works_listed jobs works c e b a =
    stretches_listed (works_placed jobs works) b
    (λ tick h. free_beyond (works_placed jobs works) jobs b tick (works_placed_lem jobs works c e).inside a h)

-- and are never more than 2 n − 1 for n jobs.
pub works_few : (jobs : List Job) (works : List ℕ) → Chain jobs → works_fit jobs works ≡ true → (b : ℕ) → All (λ job. job.deadline ≤ b) jobs
    → length (stretches (works_placed jobs works) b) ≤ 2 * length jobs - 1
works_few jobs works c e b a =
    rw (filled_stretches jobs works c e b a) (omega (arith, length-reverse (works_filled jobs works), filled_few jobs works))

-- The same under a keep list.
pub placed_listed : (jobs : List Job) (keeps : List Bool) → Chain jobs → fits jobs keeps ≡ true → (b : ℕ) → All (λ job. job.deadline ≤ b) jobs
    → Listed (placed jobs keeps) (stretches (placed jobs keeps) b)
placed_listed jobs keeps c e b a = works_listed jobs (works_of jobs keeps) c e b a

pub placed_few : (jobs : List Job) (keeps : List Bool) → Chain jobs → fits jobs keeps ≡ true → (b : ℕ) → All (λ job. job.deadline ≤ b) jobs
    → length (stretches (placed jobs keeps) b) ≤ 2 * length jobs - 1
placed_few jobs keeps c e b a = works_few jobs (works_of jobs keeps) c e b a

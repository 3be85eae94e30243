-- Laws of the query for an interval: which runs share a tick with it, and that those of an accepted list are one unbroken stretch of it.
use Prim.Native.Nat.{ℕ, ◌+◌, ◌-◌, ◌≤◌, ◌<◌, min, max}
use mathlib.Core.Path.{◌≡◌, refl, sym, ap, ◌∙◌}
use mathlib.Core.Logic.{◌↔◌}
use mathlib.Core.List.{List, [], ◌∷◌, ◌++◌, append-nil}
use mathlib.Core.Bool.{Bool, true, false}
use native.Mathlib.Omega.{arith}
use native.Mathlib.Decide.{dec_lt}
use lib.Dec.{eqb}
use lib.ListN.{length, get_or, take, drop, take-append-drop, length-take, length-drop}
use lib.Seq.{get_or-take, get_or-drop, drop-drop}
use borrow.Author.Tests.{ltb-true, lt-ltb, eqb-false}
use Rattle.base.specs.Tests.{pick}
use Rattle.base.specs.Lowest.{lowest}
use Rattle.base.specs.Members.{All}
use Rattle.base.proofs.TestLaws.{cases, both_absurd}
use Rattle.base.proofs.LowestLaws.{passes, lowest_bound, lowest_least}
use Rattle.base.proofs.MemberLaws.{all_map}
use Rattle.schedule.specs.declared.Run.{Run}
use Rattle.schedule.specs.Runs.{no_run}
use Rattle.schedule.specs.RunCheck.{Accepted, check_answer, runs_accepted}
use Rattle.schedule.specs.BusyCount.{shared}
use Rattle.schedule.specs.Queries.{touches, runs_that, touching, stretch_of, Unbroken}
use Rattle.schedule.proofs.CheckLaws.{accepted_order, starts_rise, ends_rise, all_indices}
use Rattle.schedule.proofs.SearchLaws.{ends_after, starts_from_at, first_ending, first_starting}
use Rattle.schedule.proofs.SearchLaws.{ended_before, ending_after, started_before, starting_from}

-- Which runs share a tick with an interval.

-- those, not empty, that start before the interval ends and end after it starts, where the interval is not empty
pub touches_sides : (a b : ℕ) (run : Run)
    → (touches a b run ≡ true) ↔ ((run.start < run.end) × (a < b) × (run.start < b) × (a < run.end))
unfolding shared
touches_sides a b run = (
  λ e. let h = ltb-true 0 (min run.end b - max run.start a) e in omega arith,
  λ h. lt-ltb 0 (min run.end b - max run.start a) (omega arith),
)

-- the others do not
pub touches_not : (a b : ℕ) (run : Run) → (a < b → run.start < b → a < run.end → ⊥) → touches a b run ≡ false
touches_not a b run h =
    cases (touches a b run)
    (λ e. let s = (touches_sides a b run).0 e in absurd (h s.1 s.2 s.3))
    (λ e. e)

-- Runs that pass a test.

-- of two lists together; none of a list where none passes; the whole list where all do
passing_append : (test : Run → Bool) (runs others : List Run) → runs_that test (runs ++ others) ≡ runs_that test runs ++ runs_that test others
unfolding runs_that
passing_append test [] others = refl
passing_append test (run ∷ runs) others =
    cases (test run) (λ e. rw (e, passing_append test runs others)) (λ e. rw (e, passing_append test runs others))

pub passing_none : (test : Run → Bool) (runs : List Run) → All (λ run. test run ≡ false) runs → runs_that test runs ≡ []
unfolding runs_that
passing_none test [] h = refl
passing_none test (run ∷ runs) h = rw h.0 (passing_none test runs h.1)

passing_all : (test : Run → Bool) (runs : List Run) → All (λ run. test run ≡ true) runs → runs_that test runs ≡ runs
unfolding runs_that
passing_all test [] h = refl
passing_all test (run ∷ runs) h = rw (h.0, passing_all test runs h.1)

-- the run passes a test
abbrev pub Passes : (Run → Bool) → Run → Type 0
Passes test run = test run ≡ true

-- an unbroken stretch is the runs that pass
pub unbroken_runs : (test : Run → Bool) (runs stretch : List Run) → Unbroken (Passes test) runs stretch → runs_that test runs ≡ stretch
unbroken_runs test runs stretch u =
    ap (runs_that test) u.whole
    ∙ (passing_append test u.before (stretch ++ u.behind)
    ∙ rw (
      passing_none test u.before (failing u.before u.left_out.0),
      passing_append test stretch u.behind,
      passing_all test stretch u.inside,
      passing_none test u.behind (failing u.behind u.left_out.1),
    ) (append-nil stretch))
  where
    failing : (others : List Run) → All (λ run. Passes test run → ⊥) others → All (λ run. test run ≡ false) others
    failing others =
        all_map (λ run. Passes test run → ⊥) (λ run. test run ≡ false) others (λ run h. cases (test run) (λ e. absurd (h e)) (λ e. e))

-- what is said of the runs of an unbroken stretch may be said in other words
pub unbroken_map : (P Q : Run → Type 0) (runs stretch : List Run) → ((run : Run) → P run ↔ Q run) → Unbroken P runs stretch → Unbroken Q runs stretch
unbroken_map P Q runs stretch same u =
    record {
      before = u.before;
      behind = u.behind;
      whole = u.whole;
      inside = all_map P Q stretch (λ run. (same run).0) u.inside;
      left_out = (rest u.before u.left_out.0, rest u.behind u.left_out.1);
    }
  where
    rest : (others : List Run) → All (λ run. P run → ⊥) others → All (λ run. Q run → ⊥) others
    rest others = all_map (λ run. P run → ⊥) (λ run. Q run → ⊥) others (λ run h q. h ((same run).1 q))

-- The runs that pass a test are those at `count` indices from `first` on.
pub record Stretched (test : Run → Bool) (runs : List Run) (first count : ℕ) : Type 0 where
  pub within : first + count ≤ length runs
  pub inside : (k : ℕ) → first ≤ k → k < first + count → test (get_or runs k no_run) ≡ true
  pub before : (k : ℕ) → k < first → test (get_or runs k no_run) ≡ false
  pub behind : (k : ℕ) → first + count ≤ k → k < length runs → test (get_or runs k no_run) ≡ false

module _ (test : Run → Bool) (runs : List Run) (first count : ℕ) (s : Stretched test runs first count) where
  -- so they are one unbroken stretch of the list
  pub stretched_unbroken : Unbroken (Passes test) runs (take count (drop first runs))
  stretched_unbroken =
      let stretch = take count (drop first runs) in
      let rest : stretch ++ drop (first + count) runs ≡ drop first runs = rw (← drop-drop count first runs) (take-append-drop count (drop first runs)) in
      record {
        before = take first runs;
        behind = drop (first + count) runs;
        whole = sym (rw rest (take-append-drop first runs));
        inside = all_indices (Passes test) stretch (λ k l.
            let m : k < count = omega (arith, length-take count (drop first runs)) in
            rw (get_or-take count (drop first runs) k no_run m, get_or-drop first runs k no_run) (s.inside (first + k) (omega arith) (omega arith)));
        left_out = (
          all_indices (λ run. Passes test run → ⊥) (take first runs) (λ k l e.
              let m : k < first = omega (arith, length-take first runs) in
              both_absurd (test (get_or (take first runs) k no_run)) e (rw (get_or-take first runs k no_run m) (s.before k m))),
          all_indices (λ run. Passes test run → ⊥) (drop (first + count) runs) (λ k l e.
              both_absurd (test (get_or (drop (first + count) runs) k no_run)) e
              (rw (get_or-drop (first + count) runs k no_run)
              (s.behind (first + count + k) (omega arith) (omega (arith, length-drop (first + count) runs))))),
        );
      }

  -- as many as said
  pub stretched_length : length (runs_that test runs) ≡ count
  stretched_length =
      rw (unbroken_runs test runs (take count (drop first runs)) stretched_unbroken)
      (omega (arith, s.within, length-take count (drop first runs), length-drop first runs))

  -- and the first of them, where there is one, is the lowest index that passes
  pub stretched_lowest : 0 < count → lowest (λ k. test (get_or runs k no_run)) (length runs) ≡ first
  stretched_lowest h =
      let at : ℕ → Bool = λ k. test (get_or runs k no_run) in
      let low : lowest at (length runs) ≤ first = lowest_least at (length runs) first (s.inside first (omega arith) (omega arith)) in
      elim (dec_lt (lowest at (length runs)) first) [
        | yes l ↦
            both_absurd (at (lowest at (length runs))) (passes at (length runs) (omega (arith, s.within))) (s.before (lowest at (length runs)) l)
        | no l ↦ omega arith
      ]

-- The runs of an accepted list that share a tick with an interval.

-- where the interval is not empty, they are those from the first that ends after its start up to the first that starts at its end or after it
pub interval_stretched : (runs : List Run) (a b : ℕ) → check_answer runs ≡ Accepted → a < b
    → Stretched (touches a b) runs (first_ending runs a) (first_starting runs b - first_ending runs a)
interval_stretched runs a b accepted h =
    let o = accepted_order runs accepted in
    let first = first_ending runs a in
    let end = first_starting runs b in
    let first-bound : first ≤ length runs = lowest_bound (ends_after runs a) (length runs) in
    let end-bound : end ≤ length runs = lowest_bound (starts_from_at runs b) (length runs) in
    record {
      within = omega arith;
      inside = λ k l m.
          let in_list : k < length runs = omega arith in
          (touches_sides a b (get_or runs k no_run)).1 (
            o.nonempty k in_list,
            h,
            started_before runs b k (omega arith),
            omega (arith, ending_after runs a (omega arith), ends_rise runs o first k l in_list),
          );
      before = λ k l. touches_not a b (get_or runs k no_run) (λ i s e. omega (arith, ended_before runs a k l));
      behind = λ k l m.
          touches_not a b (get_or runs k no_run) (λ i s e.
          elim (dec_lt k first) [
            | yes q ↦ omega (arith, ended_before runs a k q)
            | no q ↦ omega (arith, starting_from runs b (omega arith), starts_rise runs o end k (omega arith) m)
          ]);
    }

-- where it is empty, there are none
pub empty_stretched : (runs : List Run) (a b : ℕ) → b ≤ a → Stretched (touches a b) runs 0 0
empty_stretched runs a b h =
    record {
      within = omega arith;
      inside = λ k l m. absurd (omega arith);
      before = λ k l. absurd (omega arith);
      behind = λ k l m. touches_not a b (get_or runs k no_run) (λ i s e. omega arith);
    }

-- the stretch of a query, from where the runs stand
pub stretch_is : (runs : List Run) (a b first count : ℕ) → check_answer runs ≡ Accepted → Stretched (touches a b) runs first count
    → stretch_of runs a b ≡ pick (eqb count 0) (record { first = 0; runs = 0 }) (record { first = first; runs = count })
unfolding stretch_of touching
stretch_is runs a b first count accepted s =
    rw (accepted, stretched_length (touches a b) runs first count s)
    (cases (eqb count 0)
    (λ e. rw e)
    (λ e. rw (e, stretched_lowest (touches a b) runs first count s (omega (arith, eqb-false count 0 e)))))

-- where the list is refused, there are none, and the stretch is empty
pub touching_refused : (runs : List Run) (a b : ℕ) → runs_accepted (check_answer runs) ≡ false → touching runs a b ≡ []
unfolding touching
touching_refused runs a b e = rw e

pub stretch_refused : (runs : List Run) (a b : ℕ) → runs_accepted (check_answer runs) ≡ false → stretch_of runs a b ≡ record { first = 0; runs = 0 }
unfolding stretch_of
stretch_refused runs a b e = rw (touching_refused runs a b e)

-- The plan of jobs of either kind: what is known of fitting lists, of the chosen list and of its runs, in one statement for both.
use Prim.Native.Nat.{ℕ, ◌-◌, ◌*◌, ◌≤◌, ◌<◌}
use mathlib.Core.Path.{◌≡◌, refl, sym}
use mathlib.Core.Logic.{◌⊎◌, ◌↔◌}
use mathlib.Core.List.{List}
use mathlib.Core.Bool.{Bool, true, false, not}
use native.Mathlib.Omega.{arith}
use lib.Dec.{ltb}
use lib.ListN.{length}
use Rattle.base.proofs.TestLaws.{both_absurd}
use Rattle.base.specs.Members.{All}
use Rattle.base.specs.Arrays.{Distinct}
use Rattle.schedule.specs.declared.Job.{Job}
use Rattle.schedule.specs.Ticks.{Owner}
use Rattle.schedule.specs.Runnings.{Running, discarded_weight}
use Rattle.schedule.specs.Runs.{Together}
use Rattle.choice.specs.Choice.{keep_none, choice_key, kept_ticks, discarded_worth, weighed}
use Rattle.choice.specs.KeepLists.{KeepsFirst, ZeroKept}
use Rattle.choice.proofs.FitLaws.{fits_length, none_fits}
use Rattle.choice.proofs.LexLaws.{LexAtMost}
use Rattle.choice.proofs.TieLaws.{marks_least, at_most-first}
use Rattle.choice.proofs.ChoiceLaws as nests
use Rattle.choice.proofs.ChoiceLaws.{chosen_zero_kept}
use Rattle.placement.specs.Chains.{positions}
use Rattle.placement.specs.Placing.{outermost_deadline}
use Rattle.placement.proofs.Necessity.{marks_of, running_fits, running_discards}
use Rattle.placement.proofs.PlacedRunnings.{placed_running, placed_discards}
use Rattle.placement.proofs.RunOrder.{Listed, placed_listed, placed_few}
use Rattle.placement.proofs.FilledPlaces.{chain_deadlines}
use Rattle.placement.proofs.PlanLaws.{SameMarks, placed_together}
use Rattle.sequence.proofs.InOrderLaws.{order_length, none_earliest}
use Rattle.sequence.proofs.OrderChoiceLaws as orders
use Rattle.sequence.proofs.OrderChoiceLaws.{order_zero_kept}
use Rattle.sequence.proofs.OrderNecessity.{running_in_order}
use Rattle.sequence.proofs.OrderSufficiency.{order_running, order_listed}
use Rattle.sequence.proofs.RunListLaws.{order_few}
use Rattle.sequence.proofs.OrderRunnings.{order_discards, order_together}
use Rattle.sequence.proofs.LateLaws.{late_test}
use Rattle.sequence.specs.OrderChoice.{choice_key_in_order}
use Rattle.plans.specs.Planning.{unmet_by, chosen_by, runs_by}
use Rattle.plans.specs.PlanParts.{fits_by, placed_by}
use Rattle.plans.specs.KindJobs.{JobsOfKind}
use Rattle.plans.proofs.ExceedLaws.{exceeding_test}

-- no two of the jobs have one position
pub distinct_by : (nested : Bool) (jobs : List Job) → JobsOfKind nested jobs → Distinct (positions jobs)
distinct_by true jobs c = c.distinct
distinct_by false jobs s = s.distinct

-- a list that fits has one mark a job
pub length_by : (nested : Bool) (jobs : List Job) (keeps : List Bool) → fits_by nested jobs keeps ≡ true → length keeps ≡ length jobs
unfolding fits_by
length_by true jobs keeps e = fits_length jobs keeps e
length_by false jobs keeps e = order_length jobs keeps e

-- if any list fits, the one that keeps nothing does
pub none_by : (nested : Bool) (jobs : List Job) (keeps : List Bool) → fits_by nested jobs keeps ≡ true → fits_by nested jobs (keep_none jobs) ≡ true
unfolding fits_by
none_by true jobs keeps e = none_fits jobs keeps e
none_by false jobs keeps e = (none_earliest jobs keeps e).0

-- the marks of every running fit
pub running_fits_by : (nested : Bool) (jobs : List Job) (owner : Owner) → JobsOfKind nested jobs → Running jobs owner
    → fits_by nested jobs (marks_of jobs owner) ≡ true
unfolding fits_by
running_fits_by true jobs owner c r = running_fits jobs owner c r
running_fits_by false jobs owner s r = running_in_order jobs owner s r

-- the search for an unmet job finds one exactly where they do not fit
pub unmet_test : (nested : Bool) (n : ℕ) (jobs : List Job) → All (λ job. job.position < n) jobs
    → ltb (unmet_by nested n jobs) n ≡ not (fits_by nested jobs (keep_none jobs))
unfolding unmet_by fits_by
unmet_test true n jobs h = exceeding_test n jobs h
unmet_test false n jobs h = late_test n jobs h

-- The runs of a list that fits: none is empty, they stand by start, they say who has each tick,
pub listed_by : (nested : Bool) (jobs : List Job) (keeps : List Bool) → JobsOfKind nested jobs → fits_by nested jobs keeps ≡ true
    → Listed (placed_by nested jobs keeps) (runs_by nested jobs keeps)
unfolding fits_by placed_by runs_by
listed_by true jobs keeps c e = placed_listed jobs keeps c e (outermost_deadline jobs) (chain_deadlines jobs c)
listed_by false jobs keeps s e = order_listed jobs keeps s e

-- and are never more than 2n − 1 for n jobs.
pub few_by : (nested : Bool) (jobs : List Job) (keeps : List Bool) → JobsOfKind nested jobs → fits_by nested jobs keeps ≡ true
    → length (runs_by nested jobs keeps) ≤ 2 * length jobs - 1
unfolding fits_by runs_by
few_by true jobs keeps c e = placed_few jobs keeps c e (outermost_deadline jobs) (chain_deadlines jobs c)
few_by false jobs keeps s e = omega (arith, order_few jobs keeps s)

-- With marks by position that say the same they are together a running,
pub together_by : (nested : Bool) (jobs : List Job) (keeps : List Bool) (marks : List ℕ) → JobsOfKind nested jobs → fits_by nested jobs keeps ≡ true
    → SameMarks jobs keeps marks → Together jobs marks (runs_by nested jobs keeps)
unfolding fits_by runs_by
together_by true jobs keeps marks c e m = placed_together jobs keeps marks c e m (outermost_deadline jobs) (chain_deadlines jobs c)
together_by false jobs keeps marks s e m = order_together jobs keeps marks s e m

-- and the placing is a running
pub running_by : (nested : Bool) (jobs : List Job) (keeps : List Bool) → JobsOfKind nested jobs → fits_by nested jobs keeps ≡ true
    → Running jobs (placed_by nested jobs keeps)
unfolding fits_by placed_by
running_by true jobs keeps c e = placed_running jobs keeps c e
running_by false jobs keeps s e = order_running jobs keeps s e

-- that discards what the list discards.
pub discards_by : (nested : Bool) (weight : ℕ → ℕ) (jobs : List Job) (keeps : List Bool) → JobsOfKind nested jobs → fits_by nested jobs keeps ≡ true
    → discarded_weight weight jobs (placed_by nested jobs keeps) ≡ discarded_worth (weighed weight) jobs keeps
unfolding fits_by placed_by
discards_by true weight jobs keeps c e = placed_discards weight jobs keeps c e
discards_by false weight jobs keeps s e = order_discards weight jobs keeps s e

-- So a running of the jobs exists exactly where the mandatory parts alone fit.
pub exists_by : (nested : Bool) (jobs : List Job) → JobsOfKind nested jobs
    → ((owner : Owner) × Running jobs owner) ↔ (fits_by nested jobs (keep_none jobs) ≡ true)
exists_by nested jobs k = (
  λ r. none_by nested jobs (marks_of jobs r.0) (running_fits_by nested jobs r.0 k r.1),
  λ e. (placed_by nested jobs (keep_none jobs), running_by nested jobs (keep_none jobs) k e),
)

-- The chosen list, where the mandatory parts alone fit, marks each optional part of 0 ticks as kept.
pub zero_by : (nested : Bool) (weight : ℕ → ℕ) (jobs : List Job) → fits_by nested jobs (keep_none jobs) ≡ true → ZeroKept jobs (chosen_by nested weight jobs)
unfolding fits_by chosen_by
zero_by true weight jobs none = chosen_zero_kept weight jobs none
zero_by false weight jobs none = order_zero_kept weight jobs none

-- What the rules ask of the list that is taken: those of nested tables, or those of similar ones, which have no rule on kept ticks.
pub record MeetsBy (nested : Bool) (weight : ℕ → ℕ) (jobs : List Job) (keeps : List Bool) : Type 0 where
  pub fit : fits_by nested jobs keeps ≡ true
  pub least_discarded : (other : List Bool) → fits_by nested jobs other ≡ true → discarded_worth (weighed weight) jobs keeps ≤ discarded_worth (weighed weight) jobs other
  pub least_ticks : nested ≡ true → (other : List Bool) → fits_by nested jobs other ≡ true → discarded_worth (weighed weight) jobs other ≡ discarded_worth (weighed weight) jobs keeps
      → kept_ticks jobs keeps ≤ kept_ticks jobs other
  pub last : (other : List Bool) → fits_by nested jobs other ≡ true → discarded_worth (weighed weight) jobs other ≡ discarded_worth (weighed weight) jobs keeps
      → (nested ≡ true → kept_ticks jobs other ≡ kept_ticks jobs keeps) → (other ≡ keeps) ⊎ KeepsFirst keeps other

-- The chosen list meets them,
pub chosen_meets_by : (nested : Bool) (weight : ℕ → ℕ) (jobs : List Job) → fits_by nested jobs (keep_none jobs) ≡ true → MeetsBy nested weight jobs (chosen_by nested weight jobs)
unfolding fits_by chosen_by LexAtMost choice_key choice_key_in_order
chosen_meets_by true weight jobs none =
    let b = nests.chosen_best (weighed weight) jobs none in
    record {
      fit = b.fit;
      least_discarded = λ other e. (b.least other e).0;
      least_ticks = λ n other e d. ((b.least other e).1 (sym d)).0;
      last = λ other e d t.
          at_most-first _ other (omega (arith, fits_length jobs _ b.fit, fits_length jobs other e)) (((b.least other e).1 (sym d)).1 (sym (t refl)));
    }
chosen_meets_by false weight jobs none =
    let b = orders.chosen_best (weighed weight) jobs none in
    record {
      fit = b.fit;
      least_discarded = λ other e. (b.least other e).0;
      least_ticks = λ n other e d. both_absurd false n refl;
      last = λ other e d t.
          at_most-first _ other (omega (arith, order_length jobs _ b.fit, order_length jobs other e)) ((b.least other e).1 (sym d));
    }

-- and a list that meets them is the chosen one.
pub meets_chosen_by : (nested : Bool) (weight : ℕ → ℕ) (jobs : List Job) (keeps : List Bool) → MeetsBy nested weight jobs keeps → keeps ≡ chosen_by nested weight jobs
unfolding fits_by chosen_by LexAtMost choice_key choice_key_in_order
meets_chosen_by true weight jobs keeps m =
    nests.best_unique (weighed weight) jobs keeps _
    (record {
      fit = m.fit;
      least = λ other e. (
        m.least_discarded other e,
        λ d. (m.least_ticks refl other e (sym d), λ c. marks_least keeps other (m.last other e (sym d) (λ n. sym c))),
      );
    })
    (nests.chosen_best (weighed weight) jobs (none_fits jobs keeps m.fit))
meets_chosen_by false weight jobs keeps m =
    orders.order_unique (weighed weight) jobs keeps _
    (record {
      fit = m.fit;
      least = λ other e. (m.least_discarded other e, λ d. marks_least keeps other (m.last other e (sym d) (λ n. both_absurd false n refl)));
    })
    (orders.chosen_best (weighed weight) jobs (none_earliest jobs keeps m.fit).0)

-- Every running of the jobs discards at least as much weight as the chosen list.
pub least_by : (nested : Bool) (weight : ℕ → ℕ) (jobs : List Job) → JobsOfKind nested jobs → fits_by nested jobs (keep_none jobs) ≡ true
    → (owner : Owner) → Running jobs owner → discarded_worth (weighed weight) jobs (chosen_by nested weight jobs) ≤ discarded_weight weight jobs owner
least_by nested weight jobs k none owner r =
    omega (
      arith,
      (chosen_meets_by nested weight jobs none).least_discarded (marks_of jobs owner) (running_fits_by nested jobs owner k r),
      running_discards weight jobs owner r,
    )

-- Which optional parts a plan keeps. Jobs stand last first in the order of their table's kind, in a nested table outermost first, and so do the marks:
-- true keeps the optional part of its job, false discards it. The jobs before one in nest order are those after it in the list.
use Rattle.std.specs.Prelude.{ℕ, ◌+◌, List, [], ◌∷◌, ◌++◌, map, Bool, true, false, not, leb, ltb, eqb}
use Rattle.base.specs.Tests.{pick, and}
use Rattle.base.specs.Sums.{total}
use Rattle.table.specs.Reading.{one_each}
use Rattle.schedule.specs.declared.Job.{Job}
use Rattle.schedule.specs.Jobs.{counts, window_ticks, work_with}
use Rattle.schedule.specs.Ticks.{one_if}

-- 'A list fits if, for each task in nest order, its work and that of all tasks before it come to no more than the ticks of its window.' Here for
-- works in the order of the jobs. A list with fewer or more works than jobs does not fit.
unfoldable pub works_fit : List Job → List ℕ → Bool
works_fit [] [] = true
works_fit [] (work ∷ works) = false
works_fit (job ∷ jobs) [] = false
works_fit (job ∷ jobs) (work ∷ works) = and (leb (work + total works) (window_ticks job)) (works_fit jobs works)

-- 'A keep list has one mark a task, 1 kept, 0 discarded.' The works of jobs under it, one a mark; a mark that has no job has no work.
unfoldable pub works_of : List Job → List Bool → List ℕ
works_of [] [] = []
works_of [] (keep ∷ keeps) = 0 ∷ works_of [] keeps
works_of (job ∷ jobs) [] = []
works_of (job ∷ jobs) (keep ∷ keeps) = work_with job keep ∷ works_of jobs keeps

-- a keep list fits where its works do; one with fewer or more marks than jobs does not
abbrev pub fits : List Job → List Bool → Bool
fits jobs keeps = works_fit jobs (works_of jobs keeps)

-- every list of one mark a job
unfoldable pub keep_lists : List Job → List (List Bool)
keep_lists [] = [] ∷ []
keep_lists (job ∷ jobs) = map (λ keeps. true ∷ keeps) (keep_lists jobs) ++ map (λ keeps. false ∷ keeps) (keep_lists jobs)

-- the list that keeps nothing
abbrev pub keep_none : List Job → List Bool
keep_none jobs = map (λ job. false) jobs

-- what the kept optional parts are worth, and what the discarded ones are, over a worth of each
unfoldable pub kept_worth : (Job → ℕ) → List Job → List Bool → ℕ
kept_worth worth [] keeps = 0
kept_worth worth (job ∷ jobs) [] = 0
kept_worth worth (job ∷ jobs) (keep ∷ keeps) = pick keep (worth job) 0 + kept_worth worth jobs keeps

unfoldable pub discarded_worth : (Job → ℕ) → List Job → List Bool → ℕ
discarded_worth worth [] keeps = 0
discarded_worth worth (job ∷ jobs) [] = 0
discarded_worth worth (job ∷ jobs) (keep ∷ keeps) = pick keep 0 (worth job) + discarded_worth worth jobs keeps

-- 'the total of kept optional ticks'
abbrev pub kept_ticks : List Job → List Bool → ℕ
kept_ticks = kept_worth (λ job. job.optional)

-- the marks as numbers, less for a part that is kept: of two lists the less, in the order below, keeps at the last job where they differ
abbrev pub discard_marks : List Bool → List ℕ
discard_marks keeps = map (λ keep. one_if (not keep)) keeps

-- the lexicographic order of lists of numbers: where two first differ, the first has the lesser number
unfoldable pub lex_less : List ℕ → List ℕ → Bool
lex_less [] [] = false
lex_less [] (b ∷ ys) = true
lex_less (a ∷ xs) [] = false
lex_less (a ∷ xs) (b ∷ ys) = pick (ltb a b) true (and (eqb a b) (lex_less xs ys))

-- The best of some candidates: of those that fit the one whose key is least.
module _ {A : Type 0} (fit : A → Bool) (key : A → List ℕ) where
  -- of two the second, where it fits and has the lesser key, and else the first
  unfoldable pub better : A → A → A
  better a b = pick (and (fit b) (lex_less (key b) (key a))) b a

  -- the best of one and of some others
  unfoldable pub best : A → List A → A
  best a [] = a
  best a (b ∷ bs) = best (better a b) bs

-- 'Among fitting lists the planner takes' the best of all lists of one mark a job. Where the list that keeps nothing does not fit, no list does,
-- and there is no plan. The nested and the similar choice are its instances.
unfoldable pub best_list : (List Bool → Bool) → (List Bool → List ℕ) → List Job → List Bool
best_list fit key jobs = best fit key (keep_none jobs) (keep_lists jobs)

-- What the three rules look at, one after the other: 'one that discards fewest optional parts', 'then the least total of kept optional ticks', 'then, at
-- the outermost task where two lists differ, the one that keeps'; over a worth of each part.
unfoldable pub choice_key : (Job → ℕ) → List Job → List Bool → List ℕ
choice_key worth jobs keeps = discarded_worth worth jobs keeps ∷ kept_ticks jobs keeps ∷ discard_marks keeps

-- the best of all lists that fit, by these rules
unfoldable pub chosen_over : (Job → ℕ) → List Job → List Bool
chosen_over worth jobs = best_list (fits jobs) (choice_key worth jobs) jobs

-- 'An optional part of 0 ticks .. enters neither count': it is worth nothing
abbrev pub counted : (Job → ℕ) → Job → ℕ
counted value job = pick (counts job) (value job) 0

-- any other what the optional part of its position weighs,
abbrev pub weighed : (ℕ → ℕ) → Job → ℕ
weighed weight = counted (λ job. weight job.position)

-- which is 1 where parts are counted
abbrev pub count_one : Job → ℕ
count_one = weighed one_each

-- 'The planner's kept and discarded are the numbers of marks 1 and 0 in its keep list at optional parts above 0 ticks.' Here the kept,
abbrev pub kept : List Job → List Bool → ℕ
kept = kept_worth count_one

-- and here the discarded
abbrev pub discarded : List Job → List Bool → ℕ
discarded = discarded_worth count_one

-- the planner's keep list of nested jobs
abbrev pub chosen : List Job → List Bool
chosen = chosen_over count_one

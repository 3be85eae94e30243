-- Which optional parts of similar jobs are kept. Jobs stand last first, and so do the marks of a keep list.
use Rattle.std.specs.Prelude.{ℕ, List, ◌∷◌, Bool}
use Rattle.schedule.specs.declared.Job.{Job}
use Rattle.choice.specs.Choice.{best_list, discard_marks, discarded_worth, count_one}
use Rattle.sequence.specs.InOrder.{fits_in_order}

-- What the two rules look at, one after the other: 'the one chosen discards fewest, then at the last task in that order where two differ it keeps'.
-- Jobs stand last first, so the last task where two lists differ is the first place of the list where they do.
unfoldable pub choice_key_in_order : (Job → ℕ) → List Job → List Bool → List ℕ
choice_key_in_order worth jobs keeps = discarded_worth worth jobs keeps ∷ discard_marks keeps

-- the best of all lists that fit, by these rules, over a worth of each optional part
unfoldable pub chosen_in_order_over : (Job → ℕ) → List Job → List Bool
chosen_in_order_over worth jobs = best_list (fits_in_order jobs) (choice_key_in_order worth jobs) jobs

-- the planner's keep list of similar jobs: a part above 0 ticks is worth 1, any other nothing
abbrev pub chosen_in_order : List Job → List Bool
chosen_in_order = chosen_in_order_over count_one

-- The samples of similar jobs, computed.
use mathlib.Core.Path.{◌≡◌, refl}
use mathlib.Core.List.{[], ◌∷◌}
use mathlib.Core.Bool.{true, false}
use Rattle.base.specs.Members.{All}
use Rattle.choice.specs.Choice.{better, best, best_list, keep_lists, kept_worth, kept_ticks, lex_less, discarded_worth, count_one, discarded}
use Rattle.choice.specs.Programme.{greatest}
use Rattle.choice.specs.ChoiceSamples.{job}
use Rattle.placement.specs.Placing.{latest_first}
use Rattle.sequence.specs.InOrder.{ends_at, in_time, finish, fits_in_order, placed_in_order, first_late}
use Rattle.sequence.specs.OrderChoice.{choice_key_in_order, chosen_in_order_over}
use Rattle.sequence.specs.OrderRows.{ending, bound_before, keeping_end, discarding_end, earliest, read_back, chosen_by_rows}
use Rattle.sequence.specs.OrderSamples.{longer_jobs, bound_jobs, order_samples, SampleHolds}

-- The choice gives the marks and the runs of every sample.
pub order_samples_lem : All SampleHolds order_samples
unfolding ends_at in_time finish fits_in_order placed_in_order latest_first better best best_list choice_key_in_order chosen_in_order_over keep_lists lex_less discarded_worth
order_samples_lem = ((refl, refl), ((refl, refl), ((refl, refl), ((refl, refl), ((refl, refl), tt)))))

-- So do the rows.
pub order_row_samples : All (λ sample. chosen_by_rows count_one 1000 sample.jobs ≡ sample.marks) order_samples
unfolding ends_at in_time ending bound_before keeping_end discarding_end earliest read_back chosen_by_rows greatest
order_row_samples = (refl, (refl, (refl, (refl, (refl, tt)))))

-- The first late job is named by its position, also where a later one is late too, and a job without mandatory ticks is passed over.
pub late_samples :
    (first_late 3 (job 1 4 6 4 0 ∷ job 2 3 5 3 0 ∷ job 0 0 5 2 0 ∷ []) ≡ 2)
    × (first_late 3 (job 1 4 9 4 0 ∷ job 2 5 4 0 0 ∷ job 0 0 5 2 0 ∷ []) ≡ 3)
unfolding ends_at in_time finish first_late
late_samples = (refl, refl)

-- The list that the least total of kept ticks would take fits too, discards as many and keeps fewer ticks; the list that an earliest end would
-- take fits too, discards as many and ends earlier. Neither is chosen.
pub other_samples :
    (fits_in_order longer_jobs (false ∷ true ∷ []) ≡ true)
    × (discarded longer_jobs (false ∷ true ∷ []) ≡ discarded longer_jobs (true ∷ false ∷ []))
    × (kept_ticks longer_jobs (false ∷ true ∷ []) ≡ 1)
    × (kept_ticks longer_jobs (true ∷ false ∷ []) ≡ 3)
    × (fits_in_order bound_jobs (true ∷ false ∷ true ∷ []) ≡ true)
    × (discarded bound_jobs (true ∷ false ∷ true ∷ []) ≡ discarded bound_jobs (true ∷ true ∷ false ∷ []))
    × (finish bound_jobs (true ∷ false ∷ true ∷ []) ≡ 3)
    × (finish bound_jobs (true ∷ true ∷ false ∷ []) ≡ 5)
unfolding ends_at in_time finish fits_in_order discarded_worth kept_worth
other_samples = (refl, refl, refl, refl, refl, refl, refl, refl)

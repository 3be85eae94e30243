-- The samples of the placing, computed.
use mathlib.Core.Path.{◌≡◌, refl}
use mathlib.Core.List.{reverse}
use Rattle.base.specs.Members.{All}
use Rattle.schedule.specs.Ticks.{sum_below}
use Rattle.choice.specs.Choice.{works_fit, works_of, keep_lists, kept_worth, lex_less, discarded_worth, choice_key, better, best, best_list, chosen_over, chosen}
use Rattle.placement.specs.Placing.{works_placed, latest_first}
use Rattle.placement.specs.GapFilling.{fill, works_filled, filled}
use Rattle.placement.specs.PlacingSamples.{placing_samples, SampleHolds}

-- Placing tick by tick gives the runs of every sample.
pub placing_samples_lem : All SampleHolds placing_samples
unfolding works_fit works_of keep_lists kept_worth lex_less discarded_worth choice_key better best best_list chosen_over works_placed latest_first sum_below
placing_samples_lem = (refl, (refl, (refl, (refl, (refl, tt)))))

-- So does filling.
pub filling_samples : All (λ sample. reverse (filled sample.jobs (chosen sample.jobs)) ≡ sample.runs) placing_samples
unfolding works_fit works_of keep_lists kept_worth lex_less discarded_worth choice_key better best best_list chosen_over fill works_filled
filling_samples = (refl, (refl, (refl, (refl, (refl, tt)))))

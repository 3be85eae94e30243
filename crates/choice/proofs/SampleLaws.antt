-- The samples of the choice, computed.
use Prim.Native.Nat.{◌+◌, ◌-◌}
use mathlib.Core.Path.{◌≡◌, refl}
use mathlib.Core.List.{[], ◌∷◌}
use mathlib.Core.Bool.{true, false}
use Rattle.base.specs.Members.{All}
use Rattle.choice.specs.Choice.{works_fit, works_of, keep_lists, kept_worth, lex_less, discarded_worth, choice_key, better, best, best_list, chosen_over, counted, count_one}
use Rattle.choice.specs.Programme.{if_room, keeping, row, greatest, backtrack, by_rows}
use Rattle.choice.specs.ChoiceSamples.{p8_jobs, choice_samples, SampleHolds}

-- The choice gives the marks of every sample.
pub choice_samples_lem : All SampleHolds choice_samples
unfolding works_fit works_of keep_lists kept_worth lex_less discarded_worth choice_key better best best_list chosen_over
choice_samples_lem = (refl, (refl, (refl, (refl, (refl, tt)))))

-- So do the rows.
pub row_samples : All (λ sample. by_rows count_one 1000 sample.jobs ≡ sample.marks) choice_samples
unfolding if_room keeping row greatest backtrack by_rows
row_samples = (refl, (refl, (refl, (refl, (refl, tt)))))

-- P8 with its parts worth 1, 2, 3 and 3, 2, 1: other lists are chosen.
pub worth_samples :
    (chosen_over (counted (λ job. job.position + 1)) p8_jobs ≡ false ∷ true ∷ true ∷ [])
    × (chosen_over (counted (λ job. 3 - job.position)) p8_jobs ≡ true ∷ true ∷ false ∷ [])
unfolding works_fit works_of keep_lists kept_worth lex_less discarded_worth choice_key better best best_list chosen_over
worth_samples = (refl, refl)

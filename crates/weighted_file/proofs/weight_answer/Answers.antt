-- `weighted_file::weight_answer` meets its contract.
use Rattle.std.proofs.Common.{◌∙◌}
use Rattle.base.proofs.FoundLaws.{position_found}
use Rattle.table.specs.declared.Refusal.TheVariants.{Weight}
use Rattle.table.proofs.AnswerLaws.{found_refuses, not_found}
use Rattle.weighted_file.specs.Weights.{bad_weight}
use Rattle.weighted_file.proofs.weight_answer.Goals as goal

pub returns-in-Some : goal.returns-in-Some
returns-in-Some c =
    found_refuses Weight _ _ _ (c.in-Some.ensures ∙ position_found bad_weight 0 c.args.weights.now)

pub returns-in-None : goal.returns-in-None
returns-in-None c =
    not_found Weight _ _ (c.in-None.ensures ∙ position_found bad_weight 0 c.args.weights.now)

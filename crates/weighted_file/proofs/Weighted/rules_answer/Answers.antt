-- `weighted_file::Weighted::rules_answer` meets its contract: the weights are the form's own rule.
use Rattle.std.proofs.Common.{◌∙◌, ap, arith}
use Rattle.table.specs.Tables.{task_at}
use Rattle.table.specs.Kinds.{nested_answer}
use Rattle.weighted_file.specs.Weights.{weighted_rules}
use Rattle.weighted_file.proofs.WeightLaws.{weights_taken}
use Rattle.weighted_file.proofs.Weighted.rules_answer.Goals as goal

pub returns : goal.returns
unfolding weighted_rules
returns c =
    let w = c.args.self in
    c.nested_answer.ensures
    ∙ ap (λ own. nested_answer own (task_at w.table) w.table.count) (c.weight_answer-weights.ensures ∙ weights_taken w (omega arith) c.requires)

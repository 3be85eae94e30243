-- With all weights 1 the plan of a weighted table is that of its plain file, reply and lists.
use Prim.Native.Nat.{ℕ}
use mathlib.Core.Path.{sym, ap, ◌∙◌}
use mathlib.Core.List.{List}
use Rattle.table.specs.declared.Table.{Table}
use Rattle.table.specs.Reading.{one_each, plain_read}
use Rattle.weighted_file.specs.Weights.{weight_at, weighted_in, weighted_read}
use Rattle.weighted_file.proofs.WeightLaws.{plain_file}
use Rattle.plans.specs.declared.Planned.{Planned}
use Rattle.plans.specs.Planning.{LentLists, plan_table, lists_after}
use Rattle.plans.proofs.ReplyLaws.{Replied, file_accepted}
use Rattle.plans.proofs.EqualWeights.{reply-same, lists_same}
use Rattle.weighted_plans.specs.Unweighted.{unweighted_file, EqualsUnweighted}

pub equals_unweighted : (launch : ℕ) (file : List ℕ) (reply : Planned) (old new : LentLists) → Replied launch (weighted_read file) reply old new
    → EqualsUnweighted launch file reply old new
equals_unweighted launch file reply old new r accepted one =
    let t = (weighted_in file).table in
    let weight = weight_at (weighted_in file) in
    let plain = plain_file file accepted in
    record {
      reply_is = r.reply_is
          ∙ (file_accepted launch (weighted_read file) old accepted
          ∙ (reply-same weight one_each launch t one old
          ∙ (ap (λ (u : Table). plan_table launch one_each u old) (sym plain.1) ∙ sym (file_accepted launch (plain_read (unweighted_file file)) old plain.0))));
      lists_are = r.lists_are
          ∙ (lists_same weight one_each launch t one reply old ∙ ap (λ (u : Table). lists_after launch one_each u reply old) (sym plain.1));
    }

-- Every clause of the weighted plan call, from its reply and the content of the lent lists.
use Prim.Native.Nat.{ℕ}
use mathlib.Core.Path.{◌≡◌}
use mathlib.Core.List.{List}
use Rattle.weighted_file.specs.Weights.{weighted_read}
use Rattle.plans.specs.declared.Planned.{Planned}
use Rattle.plans.specs.Planning.{LentLists, plan_reply, lists_left}
use Rattle.plans.specs.Demands.{EightExactly, JudgeAccepts, PlannedByWeight}
use Rattle.plans.specs.Rules.{PlannedByRules, EightFirst}
use Rattle.plans.specs.Launch.{EarlierAtZero, LaterByLaunch}
use Rattle.plans.proofs.ReplyLaws.{Replied, reply_by_weight}
use Rattle.plans.proofs.CallLaws.{call_clauses}
use Rattle.weighted_plans.specs.Unweighted.{EqualsUnweighted}
use Rattle.weighted_plans.proofs.UnweightedLaws.{equals_unweighted}

pub weighted_clauses : (launch : ℕ) (file : List ℕ) (reply : Planned) (old new : LentLists) → Replied launch (weighted_read file) reply old new
    → (reply ≡ plan_reply launch (weighted_read file) old)
    × ((new ≡ lists_left launch (weighted_read file) reply old)
    × (EightExactly launch (weighted_read file) reply
    × (JudgeAccepts launch (weighted_read file) reply new
    × (PlannedByWeight launch (weighted_read file) reply new
    × (PlannedByRules launch (weighted_read file) reply new
    × (EightFirst launch (weighted_read file) reply
    × (EarlierAtZero launch (weighted_read file) reply old new
    × (LaterByLaunch launch (weighted_read file) reply old new × EqualsUnweighted launch file reply old new))))))))
weighted_clauses launch file reply old new r =
    let read = weighted_read file in
    let all = call_clauses launch read reply old new r (PlannedByWeight launch read reply new) (reply_by_weight launch read reply old new r) in
    let meaning = all.1.1 in
    let launched = meaning.1.1.1.1.1 in (
      all.0,
      (
        all.1.0,
        (
          meaning.0,
          (
            meaning.1.0,
            (
              meaning.1.1.0,
              (
                meaning.1.1.1.0,
                (meaning.1.1.1.1.0, (launched.0, (launched.1, equals_unweighted launch file reply old new r))),
              ),
            ),
          ),
        ),
      ),
    )

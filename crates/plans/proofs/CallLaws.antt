-- Every clause of a plan call, from its reply and the content of the lent lists, for files of every form.
use Prim.Native.Nat.{ℕ}
use mathlib.Core.Path.{◌≡◌}
use Rattle.table.specs.Reading.{ReadTable}
use Rattle.plans.specs.declared.Planned.{Planned}
use Rattle.plans.specs.Planning.{LentLists, plan_reply, lists_left}
use Rattle.plans.specs.Demands.{EightExactly, JudgeAccepts}
use Rattle.plans.specs.Rules.{PlannedByRules, EightFirst}
use Rattle.plans.specs.Launch.{EarlierAtZero, LaterByLaunch}
use Rattle.plans.proofs.PlanLaws.{plan_impossible}
use Rattle.plans.proofs.ReplyLaws.{Replied, reply_judged, reply_by_rules, plan_first}
use Rattle.plans.proofs.LaunchLaws.{call_launch_0, call_launch}

-- `Optimal` is what the call promises of demand 3, which is stated in numbers or in weights.
pub call_clauses : (launch : ℕ) (read : ReadTable) (reply : Planned) (old new : LentLists) → Replied launch read reply old new
    → (Optimal : Type 0) → Optimal
    → (reply ≡ plan_reply launch read old)
    × ((new ≡ lists_left launch read reply old)
    × (EightExactly launch read reply
    × (JudgeAccepts launch read reply new
    × (Optimal
    × (PlannedByRules launch read reply new
    × (EightFirst launch read reply × (EarlierAtZero launch read reply old new × LaterByLaunch launch read reply old new)))))))
call_clauses launch read reply old new r Optimal optimal = (
  r.reply_is,
  (
    r.lists_are,
    (
      λ a low. rw r.reply_is (plan_impossible launch read r.lawful old a low),
      (
        reply_judged launch read reply old new r,
        (
          optimal,
          (
            reply_by_rules launch read reply old new r,
            (
              rw r.reply_is (plan_first launch read r.lawful old),
              (call_launch_0 launch read reply old new r, call_launch launch read reply old new r),
            ),
          ),
        ),
      ),
    ),
  ),
)

-- What a launch tick does to a plan: document 02, 'Wall clock in the plan', as clauses of the plan call.
use Rattle.std.specs.Prelude.{ℕ, ◌≡◌, List, map, false}
use Rattle.clock.specs.Clock.{bad_launch}
use Rattle.table.specs.declared.Table.{Table}
use Rattle.table.specs.Kinds.{is_nested}
use Rattle.table.specs.Reading.{ReadTable, reply_on_read}
use Rattle.schedule.specs.declared.Job.{Job}
use Rattle.schedule.specs.Shifting.{later_runs}
use Rattle.schedule.specs.Earlier.{earlier_job_at}
use Rattle.orders.specs.KindOrder.{order_last_first}
use Rattle.plans.specs.declared.Planned.{Planned}
use Rattle.plans.specs.Planning.{LentLists, plan_declined, reply_by, after_by, plan_reply, lists_left}
use Rattle.plans.specs.Demands.{runs_in}

-- 'With launch 0 every earlier answer holds.' The earlier answers are those without a launch tick.

-- the jobs of a table, in the order of its kind, last first
unfoldable pub earlier_jobs : Table → List Job
earlier_jobs t = map (earlier_job_at t) (order_last_first t)

-- the reply of planning: reading's refusals, then 8 and 9
unfoldable pub earlier_reply : ReadTable → LentLists → Planned
earlier_reply read lists = reply_on_read plan_declined (λ t. reply_by (is_nested t) read.weight t.count (earlier_jobs t) lists) read

-- what the lent lists hold afterwards
unfoldable pub earlier_lists : ReadTable → Planned → LentLists → LentLists
earlier_lists read reply lists =
    after_by (is_nested read.table) read.weight read.table.count (earlier_jobs read.table) reply lists

-- a call with launch 0 replies and leaves in the lists what one without a launch tick would
pub record SameAsEarlier (read : ReadTable) (reply : Planned) (before after : LentLists) : Type 0 where
  pub reply_is : reply ≡ earlier_reply read before
  pub lists_are : after ≡ earlier_lists read reply before

-- 'With launch 0 every earlier answer holds': the clause of the plan call
abbrev pub EarlierAtZero : ℕ → ReadTable → Planned → LentLists → LentLists → Type 0
EarlierAtZero launch read reply before after = launch ≡ 0 → SameAsEarlier read reply before after

-- 'The kept list is the same for every accepted launch tick, and each run lies later by it than with launch 0.' The whole reply is the same, refusals too.
pub record LaterThanAtZero (launch : ℕ) (read : ReadTable) (reply : Planned) (before after : LentLists) : Type 0 where
  pub reply_is : reply ≡ plan_reply 0 read before
  pub marks_are : after.marks ≡ (lists_left 0 read reply before).marks
  pub runs_later : reply.number ≡ 0 → runs_in reply after ≡ later_runs launch (runs_in reply (lists_left 0 read reply before))

-- the clause of the plan call: so it is at every launch tick that is accepted
abbrev pub LaterByLaunch : ℕ → ReadTable → Planned → LentLists → LentLists → Type 0
LaterByLaunch launch read reply before after = bad_launch launch ≡ false → LaterThanAtZero launch read reply before after

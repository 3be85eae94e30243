-- The text printed without a launch tick. The theorems say that with launch 0 the same is printed.
use Rattle.std.specs.Prelude.{ℕ, List}
use Rattle.base.specs.Limits.{max_tasks}
use Rattle.table.specs.declared.Table.{Table}
use Rattle.table.specs.Kinds.{is_nested}
use Rattle.table.specs.Reading.{plain_read, table_in}
use Rattle.plans.specs.declared.Planned.{Planned}
use Rattle.plans.specs.Planning.{lists_for}
use Rattle.plans.specs.Launch.{earlier_jobs, earlier_reply}
use Rattle.printed_plan.specs.Printing.{reply_text, plan_text_by}

-- the text of a table's plan
unfoldable pub earlier_plan_text : Table → List ℕ
earlier_plan_text t = plan_text_by (is_nested t) t.count (earlier_jobs t)

-- the reply of planning into lists that are long enough for every table
unfoldable pub earlier_long : List ℕ → Planned
earlier_long file = earlier_reply (plain_read file) (lists_for max_tasks)

-- the text printed of a file: its plan or its refusal
unfoldable pub earlier_text : List ℕ → List ℕ
earlier_text file = reply_text (earlier_long file) (earlier_plan_text (table_in file))

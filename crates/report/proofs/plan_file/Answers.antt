-- `report::plan_file` meets its contract: the lists that it lends are long enough for every table.
use Rattle.table.proofs.RoundTrip.{read_legal}
use Rattle.report.proofs.FilePlanLaws.{left_is}
use Rattle.report.proofs.plan_file.Goals as goal

pub returns : goal.returns
returns c =
    left_is _ _ _ (record { lawful = read_legal _; reply_is = c.plan_counted-planned.ensures.reply_value; lists_are = c.plan_counted-planned.ensures.tasks_value }) c.plan_counted-planned.ensures.count_value

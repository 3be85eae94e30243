-- The replies of the check and of the queries for one run as C gets them: the values of each case of the answer.
use Rattle.schedule.specs.RunCheck.{RunsChecked, runs_number, runs_place}
use Rattle.schedule.specs.Queries.{Found, found_number, found_place, is_found, run_found}
use Rattle.exports.specs.declared.Checked.{Checked}
use Rattle.exports.specs.declared.FoundRun.{FoundRun}

-- of the check: number and place
unfoldable pub checked_reply : RunsChecked → Checked
checked_reply answer = record { number = runs_number answer; place = runs_place answer }

-- of a query for one run: number, place, whether there is a run, and the run
unfoldable pub found_reply : Found → FoundRun
found_reply answer = record { number = found_number answer; place = found_place answer; found = is_found answer; run = run_found answer }

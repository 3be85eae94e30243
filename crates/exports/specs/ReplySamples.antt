-- Samples of the replies as C gets them: of reading, of the check and of the queries for one run. What is expected is written in plain numbers.
use Rattle.std.specs.Prelude.{ℕ, true, false, List, [], ◌∷◌, ◌++◌, Some, None, Ok, Err}
use Rattle.table.specs.TableSamples.{table, p4_table, p4_file}
use Rattle.schedule.specs.declared.RunsRefusal.TheVariants.{TooMany, OutOfOrder}
use Rattle.schedule.specs.Runs.{run_of}
use Rattle.schedule.specs.RunCheck.{RunsChecked, Accepted}
use Rattle.schedule.specs.Queries.{Found}
use Rattle.exports.specs.declared.TableRead.{TableRead}
use Rattle.exports.specs.declared.Checked.{Checked}
use Rattle.exports.specs.declared.FoundRun.{FoundRun}

-- Reading: a file, and its reply.
pub record ReadSample : Type 0 where
  pub file : List ℕ
  pub reply : TableRead

-- an accepted file and a refused one
unfoldable pub read_samples : List ReadSample
read_samples =
    -- P4 is read
    record {
      file = p4_file;
      reply = record { number = 0; place = 0; table = p4_table };
    }
    -- a byte too many: 3 with the length needed, and a table that is 0 throughout
    ∷ record { file = p4_file ++ 0 ∷ []; reply = record { number = 3; place = 12; table = table 0 0 [] } }
    ∷ []

-- The check: what it answers, and the reply.
pub record CheckSample : Type 0 where
  pub answer : RunsChecked
  pub reply : Checked

-- each case of the check's answer
unfoldable pub check_samples : List CheckSample
check_samples =
    record { answer = Accepted; reply = record { number = 0; place = 0 } }
    ∷ record { answer = Err TooMany; reply = record { number = 13; place = 0 } }
    ∷ record { answer = Err (OutOfOrder 2); reply = record { number = 15; place = 2 } }
    ∷ []

-- A query for one run: what it answers, and the reply.
pub record FoundSample : Type 0 where
  pub answer : Found
  pub reply : FoundRun

-- each case of a query's answer
unfoldable pub found_samples : List FoundSample
found_samples =
    record { answer = Ok (Some (run_of 8 10 1)); reply = record { number = 0; place = 0; found = true; run = run_of 8 10 1 } }
    ∷ record { answer = Ok None; reply = record { number = 0; place = 0; found = false; run = run_of 0 0 0 } }
    ∷ record { answer = Err TooMany; reply = record { number = 13; place = 0; found = false; run = run_of 0 0 0 } }
    ∷ record { answer = Err (OutOfOrder 2); reply = record { number = 15; place = 2; found = false; run = run_of 0 0 0 } }
    ∷ []

-- For the proofs of the code alone: runs that are lent, as a list or in columns.
use Rattle.std.specs.Prelude.{List}
use Rattle.schedule.specs.declared.Run.{Run}
use Rattle.schedule.specs.Runs.{runs_of}
use Rattle.schedule.specs.LentRuns.{OneLength}
use Rattle.judging.specs.declared.Lent.{Lent}
use Rattle.judging.specs.declared.Lent.TheVariants.{Records, Columns}

-- the run list that is lent
abbrev pub lent_runs : Lent → List Run
lent_runs (Records runs) = runs.now
lent_runs (Columns starts ends tasks) = runs_of starts.now ends.now tasks.now

-- what is asked of it: that columns have one length
abbrev pub LentWhole : Lent → Type 0
LentWhole (Records runs) = Unit {0}
LentWhole (Columns starts ends tasks) = OneLength starts ends tasks

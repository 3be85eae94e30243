-- `searching::run_there` meets its contract: the run list has as many runs as the columns have starts.
use Rattle.std.proofs.Common.{sym, ◌∙◌, ap, arith}
use Rattle.std.specs.Prelude.{Some}
use Rattle.std.proofs.lemmas.Option.{slice_get-get_or, slice_get_past}
use Rattle.schedule.specs.Runs.{no_run, run_at_index, runs_of}
use Rattle.schedule.proofs.ColumnLaws.{columns_length, runs_at_lem}
use Rattle.searching.proofs.run_there.Goals as goal

pub returns-then-starts-i : goal.returns-then-starts-i
returns-then-starts-i c =
    let starts = c.args.starts.now in
    let ends = c.args.ends.now in
    let tasks = c.args.tasks.now in
    sym (slice_get_past (runs_of starts ends tasks) c.args.i (omega (arith, columns_length starts ends tasks)))

pub returns : goal.returns
unfolding run_at_index
returns c =
    let starts = c.args.starts.now in
    let ends = c.args.ends.now in
    let tasks = c.args.tasks.now in
    sym (slice_get-get_or (runs_of starts ends tasks) c.args.i no_run (omega (arith, columns_length starts ends tasks)) ∙ ap Some (runs_at_lem starts ends tasks c.args.i (omega arith)))

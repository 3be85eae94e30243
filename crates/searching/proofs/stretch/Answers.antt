-- `searching::stretch` meets its contract: of an accepted list the runs that share a tick with the interval are those from the first that ends after its
-- start up to the first that starts at its end or after it.
use Rattle.std.proofs.Common.{◌≡◌, sym, ◌∙◌, ap, rules}
use Rattle.schedule.specs.Runs.{runs_of}
use Rattle.schedule.specs.RunCheck.{Accepted, check_answer, runs_accepted}
use Rattle.schedule.proofs.CheckLaws.{accepted_is}
use Rattle.schedule.proofs.StretchLaws.{stretch_refused}
use Rattle.checking.proofs.PointLaws.{none_interval, none_between, some_between}
use Rattle.searching.proofs.ColumnLaws.{ending_there, starting_there}
use Rattle.searching.proofs.stretch.Goals.{then-b-a-via-then-b-a, then-b-a-via-else-b-a+then-is_err}
use Rattle.searching.proofs.stretch.Goals as goal

pub returns-then-b-a : goal.returns-then-b-a
returns-then-b-a c tasks =
    elim c.then-b-a.branch [
      | then-b-a-via-then-b-a w ↦ none_interval _ _ _ w.if-b-a.true
      | then-b-a-via-else-b-a+then-is_err w ↦
          sym (stretch_refused _ _ _ (ap runs_accepted (sym (w.check_columns.ensures tasks)) ∙ w.if-is_err.ensures.negation))
    ]

pub returns-then-end-first : goal.returns-then-end-first
returns-then-end-first c tasks =
    let starts = c.args.starts.now in
    let ends = c.args.ends.now in
    let runs = runs_of starts ends tasks in
    let accepted : check_answer runs ≡ Accepted = sym (c.check_columns.ensures tasks) ∙ accepted_is _ c.if-is_err.ensures.negation in
    let start = c.partition_point-first in
    let end = c.partition_point-end in
    let f = ending_there starts ends tasks accepted c.requires c.args.a start.result start.ensures.bound start.ensures.partitioned (λ a r g q. search rules) in
    let e = starting_there starts ends tasks accepted c.args.b end.result end.ensures.bound end.ensures.partitioned (λ a r g q. search rules) in
    none_between runs _ _ accepted c.if-b-a.false _ _ f e c.if-end-first.true

pub returns : goal.returns
returns c tasks =
    let starts = c.args.starts.now in
    let ends = c.args.ends.now in
    let runs = runs_of starts ends tasks in
    let accepted : check_answer runs ≡ Accepted = sym (c.check_columns.ensures tasks) ∙ accepted_is _ c.if-is_err.ensures.negation in
    let start = c.partition_point-first in
    let end = c.partition_point-end in
    let f = ending_there starts ends tasks accepted c.requires c.args.a start.result start.ensures.bound start.ensures.partitioned (λ a r g q. search rules) in
    let e = starting_there starts ends tasks accepted c.args.b end.result end.ensures.bound end.ensures.partitioned (λ a r g q. search rules) in
    some_between runs _ _ accepted c.if-b-a.false _ _ f e c.if-end-first.false

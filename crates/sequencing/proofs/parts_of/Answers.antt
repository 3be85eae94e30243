-- `sequencing::parts_of` meets its contract: the jobs whose parts count are counted.
use mathlib.Core.Path.{◌≡◌, refl, sym, ◌∙◌}
use mathlib.Core.List.{List}
use native.Mathlib.Omega.{arith}
use borrow.Author.Rules.{rules}
use Rattle.std.specs.List.{count_by}
use Rattle.std.proofs.lemmas.List.Sums.{count_by-le-length}
use Rattle.std.proofs.lemmas.List.Recursion.{is_count_by}
use Rattle.base.proofs.TestLaws.{cases}
use Rattle.schedule.specs.declared.Job.{Job}
use Rattle.schedule.specs.Jobs.{counts}
use Rattle.choice.specs.Choice.{count_one}
use Rattle.choice.specs.Programme.{all_worth}
use Rattle.sequencing.proofs.parts_of.Goals as goal

counted : (jobs : List Job) → all_worth count_one jobs ≡ count_by counts jobs
counted jobs =
    is_count_by (all_worth count_one) counts refl (λ job rest. cases (counts job) (λ e. rw e (omega arith)) (λ e. rw e (omega arith))) jobs

pub returns : goal.returns
returns c =
    let parts : c.count.result ≡ count_by counts c.args.jobs.now = search rules in
    (parts ∙ sym (counted c.args.jobs.now), omega (arith, parts, count_by-le-length counts c.args.jobs.now))

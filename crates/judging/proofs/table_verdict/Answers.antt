-- `judging::table_verdict` meets its contract: each return knows the tests that led there, in their order.
use Rattle.std.proofs.Common.{◌≡◌, ◌≤◌, ◌<◌, sym, ap, ◌∙◌, ℕ, List, Bool, true, false, get_or, length, take, eqb, ltb, arith, count_by}
use Rattle.std.specs.List.{zip}
use borrow.Author.Tests.{ltb-false}
use lib.Seq.{get_or-take, length-take-le}
use Rattle.base.specs.Limits.{max_tasks, max_launch, max_runs}
use Rattle.base.specs.Tests.{and}
use Rattle.clock.specs.Clock.{bad_launch}
use Rattle.table.specs.declared.Table.{Table}
use Rattle.table.proofs.FileLaws.{legal_count}
use Rattle.schedule.specs.declared.Job.{Job}
use Rattle.schedule.specs.declared.Judged.{Judged}
use Rattle.schedule.specs.declared.Run.{Run}
use Rattle.schedule.specs.Jobs.{job_at, counts}
use Rattle.schedule.specs.JobArrays.{no_job, job_array}
use Rattle.schedule.specs.Ticks.{count_below}
use Rattle.schedule.specs.Runs.{too_many}
use Rattle.schedule.specs.Judging.{verdict, first_bad_mark, judge_declined, count_marked}
use Rattle.schedule.specs.Passing.{verdict_by_pass}
use Rattle.schedule.proofs.JobLaws.{legal_frames}
use Rattle.schedule.proofs.VerdictLaws.{pass_verdict, jobs_at, marked_same, launch_refused, length-refused, mark-refused, runs-refused, says-yes, says-no}
use Rattle.judging.specs.Lending.{lent_runs}
use Rattle.judging.proofs.ListLaws.{first_bad, none_bad, marked_is}
use Rattle.judging.proofs.table_verdict.Goals as goal

-- a yes is the same where its counts are
reply_is : {k k₂ d d₂ : ℕ} → k ≡ k₂ → d ≡ d₂
    → ◌≡◌ {A = Judged} (record { number = 0; place = 0; yes = true; kept = k; discarded = d }) (record { number = 0; place = 0; yes = true; kept = k₂; discarded = d₂ })
reply_is e f = λ i. record { number = 0; place = 0; yes = true; kept = e i; discarded = f i }

-- the first mark above 1 of as many marks as there are tasks
first_of : (marks : List ℕ) (n : ℕ) → length marks ≡ n → first_bad_mark marks (length marks) ≡ first_bad_mark marks n
first_of marks n e = ap (first_bad_mark marks) e

-- whether so many runs as are lent are too many
many_is : (runs : List Run) (n : ℕ) (said value : Bool) → said ≡ ltb max_runs n → n ≡ length runs → said ≡ value → too_many runs ≡ value
unfolding too_many
many_is runs n said value s e v = rw (← e) (sym s ∙ v)

-- The jobs that are lent are the first of the array, one a task.
module _ (launch : ℕ) (t : Table) (few : t.count ≤ max_tasks) (all : List Job) (whole : all ≡ job_array launch t) (room : t.count ≤ length all) where
  as_many : length (take t.count all) ≡ t.count
  as_many = length-take-le t.count all room

  job_there : (k : ℕ) → k < t.count → get_or (take t.count all) k no_job ≡ job_at launch t k
  job_there k l = get_or-take t.count all k no_job l ∙ jobs_at launch t all few whole k l

  module _ (marks : List ℕ) (long : length marks ≡ t.count) where
    -- the verdict on them is that on the table, and so are the counts
    verdict_is : (runs : List Run) → verdict_by_pass (λ k. get_or (take t.count all) k no_job) (length (take t.count all)) marks runs ≡ verdict launch t marks runs
    verdict_is runs =
        ap (λ (n : ℕ). verdict_by_pass (λ k. get_or (take t.count all) k no_job) n marks runs) as_many
        ∙ pass_verdict launch t marks runs (λ k. get_or (take t.count all) k no_job) job_there

    counted_is : (mark : ℕ) → count_by (λ x. and (counts x.0) (eqb x.1 mark)) (zip (take t.count all) marks) ≡ count_marked mark t marks
    counted_is mark =
        marked_is (take t.count all) marks (long ∙ sym as_many) mark
        ∙ (ap (count_below (λ k. and (counts (get_or (take t.count all) k no_job)) (eqb (get_or marks k 0) mark))) as_many
        ∙ marked_same mark launch t marks (λ k. get_or (take t.count all) k no_job) job_there)

pub returns-then-bad_launch : goal.returns-then-bad_launch
returns-then-bad_launch c =
    launch_refused c.args.launch c.args.table c.args.marks.now (lent_runs c.args.runs) (sym c.bad_launch.ensures ∙ c.if-bad_launch.true)

pub returns-then-marks-count : goal.returns-then-marks-count
returns-then-marks-count c =
    length-refused c.args.launch c.args.table c.args.marks.now (lent_runs c.args.runs) (sym c.bad_launch.ensures ∙ c.if-bad_launch.false) c.if-marks-count.true

pub returns-in-Some : goal.returns-in-Some
returns-in-Some c =
    let marks = c.args.marks.now in
    let count = c.args.table.count in
    let long : length marks ≡ count = c.if-marks-count.false in
    let first = first_bad marks c.in-Some.bad (sym c.in-Some.ensures) in
    let bad : c.in-Some.bad ≡ first_bad_mark marks count = first.1 ∙ first_of marks count long in
    ap (judge_declined 11) bad
    ∙ mark-refused c.args.launch c.args.table marks (lent_runs c.args.runs) (sym c.bad_launch.ensures ∙ c.if-bad_launch.false) long (omega (arith, bad, first.0))

pub returns-then-too_many : goal.returns-then-too_many
returns-then-too_many c =
    let marks = c.args.marks.now in
    let count = c.args.table.count in
    let long : length marks ≡ count = c.if-marks-count.false in
    let good : count ≤ first_bad_mark marks count = omega (arith, none_bad marks (sym c.in_default.ensures), first_of marks count long) in
    runs-refused c.args.launch c.args.table marks (lent_runs c.args.runs) (sym c.bad_launch.ensures ∙ c.if-bad_launch.false) long good
    (many_is _ _ _ _ c.too_many.ensures c.lent_count.ensures c.if-too_many.true)

pub jobs_of-all-requires : goal.jobs_of-all-requires
jobs_of-all-requires c =
    let accepted : bad_launch c.args.launch ≡ false = sym c.bad_launch.ensures ∙ c.if-bad_launch.false in
    let small : c.args.launch ≤ max_launch = ltb-false max_launch _ accepted in
    let t = c.args.table in
    record { count_le_max_tasks = (legal_count c.requires.legal).1; launch_le_max_launch = omega arith; q_value = c.requires.legal.timed; by_index = legal_frames t c.requires.legal }

pub slice_bounds-all-end : goal.slice_bounds-all-end
slice_bounds-all-end c = omega (arith, (legal_count c.requires.legal).1)

pub slice_bounds-jobs-end : goal.slice_bounds-jobs-end
slice_bounds-jobs-end c =
    let few = (legal_count c.requires.legal).1 in
    sym (length-take-le _ _ (omega (arith, few)))

pub verdict_lent-requires : goal.verdict_lent-requires
verdict_lent-requires c =
    let few = (legal_count c.requires.legal).1 in
    let as_many = length-take-le c.args.table.count c.jobs_of-all.result (omega (arith, few)) in
    let few_runs = ltb-false max_runs _ (sym c.too_many.ensures ∙ c.if-too_many.false) in
    let long : length c.args.marks.now ≡ c.args.table.count = c.if-marks-count.false in
    record { jobs_len = omega (arith, as_many, few); marks_len = long ∙ sym as_many; whole = c.requires.whole; runs_len = omega (arith, few_runs, c.lent_count.ensures) }

pub returns-then-verdict_lent : goal.returns-then-verdict_lent
returns-then-verdict_lent c =
    let marks = c.args.marks.now in
    let t = c.args.table in
    let all = c.jobs_of-all.result in
    let few = (legal_count c.requires.legal).1 in
    let room : t.count ≤ length all = omega (arith, few) in
    let accepted : bad_launch c.args.launch ≡ false = sym c.bad_launch.ensures ∙ c.if-bad_launch.false in
    let long : length marks ≡ t.count = c.if-marks-count.false in
    let good : t.count ≤ first_bad_mark marks t.count = omega (arith, none_bad marks (sym c.in_default.ensures), first_of marks t.count long) in
    let enough = many_is (lent_runs c.args.runs) _ _ _ c.too_many.ensures c.lent_count.ensures c.if-too_many.false in
    let counted = counted_is c.args.launch t few all c.jobs_of-all.ensures room marks long in
    let yes = sym (verdict_is c.args.launch t few all c.jobs_of-all.ensures room marks long (lent_runs c.args.runs)) ∙ (sym c.verdict_lent.ensures ∙ c.if-verdict_lent.true) in
    reply_is (c.count_marked-kept.ensures ∙ counted 1) (c.count_marked-discarded.ensures ∙ counted 0)
    ∙ says-yes c.args.launch t marks (lent_runs c.args.runs) accepted long good enough yes

pub returns : goal.returns
returns c =
    let marks = c.args.marks.now in
    let t = c.args.table in
    let all = c.jobs_of-all.result in
    let few = (legal_count c.requires.legal).1 in
    let room : t.count ≤ length all = omega (arith, few) in
    let accepted : bad_launch c.args.launch ≡ false = sym c.bad_launch.ensures ∙ c.if-bad_launch.false in
    let long : length marks ≡ t.count = c.if-marks-count.false in
    let good : t.count ≤ first_bad_mark marks t.count = omega (arith, none_bad marks (sym c.in_default.ensures), first_of marks t.count long) in
    let enough = many_is (lent_runs c.args.runs) _ _ _ c.too_many.ensures c.lent_count.ensures c.if-too_many.false in
    let no = sym (verdict_is c.args.launch t few all c.jobs_of-all.ensures room marks long (lent_runs c.args.runs)) ∙ (sym c.verdict_lent.ensures ∙ c.if-verdict_lent.false) in
    says-no c.args.launch t marks (lent_runs c.args.runs) accepted long good enough no

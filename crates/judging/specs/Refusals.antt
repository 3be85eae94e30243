-- For the proofs of the code alone: what judging comes to, a verdict, or a refusal with its number and its place; and the reply of either.
use Rattle.std.specs.Prelude.{ℕ, true, false, Result, Ok, Err}
use Rattle.table.specs.Answers.{refusal_number, refusal_place}
use Rattle.schedule.specs.declared.Judged.{Judged}
use Rattle.schedule.specs.Judging.{judge_declined, judge_says}
use Rattle.judging.specs.declared.JudgeRefusal.{JudgeRefusal}
use Rattle.judging.specs.declared.JudgeRefusal.TheVariants.{File, Launch, Marks, TooManyRuns}
use Rattle.judging.specs.declared.Verdict.{Verdict}
use Rattle.judging.specs.declared.Verdict.TheVariants.{Yes, No}

-- the number of a refusal
abbrev pub judge_number : JudgeRefusal → ℕ
judge_number (File refusal) = refusal_number refusal
judge_number Launch = 14
judge_number (Marks place) = 11
judge_number TooManyRuns = 13

-- the place of a refusal: that of reading, the task count or a position, or 0
abbrev pub judge_place : JudgeRefusal → ℕ
judge_place (File refusal) = refusal_place refusal
judge_place Launch = 0
judge_place (Marks place) = place
judge_place TooManyRuns = 0

-- the reply of judging by what it comes to
abbrev pub judged_of : Result Verdict JudgeRefusal → Judged
judged_of (Ok (Yes kept discarded)) = judge_says true kept discarded
judged_of (Ok No) = judge_says false 0 0
judged_of (Err refusal) = judge_declined (judge_number refusal) (judge_place refusal)

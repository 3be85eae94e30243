-- `console::put_found` meets its contract, by whether the answer is a run.
use Rattle.std.proofs.Common.{◌≡◌, ◌+◌, ◌≤◌, refl, ℕ, List, [], ◌++◌, length, arith, length-append}
use Rattle.std.specs.Prelude.{Some, None, Ok, Err}
use Rattle.std.specs.Result.{result_unwrap_or}
use Rattle.lines.specs.Text.{line}
use Rattle.lines.proofs.PutLaws.{put_join}
use Rattle.schedule.specs.declared.Run.{Run}
use Rattle.schedule.specs.Queries.{Found}
use Rattle.printed_plan.specs.Printing.{run_numbers}
use Rattle.printed_plan.specs.NowText.{none_word, found_line}
use Rattle.console.proofs.put_found.Goals as goal

-- where an answer comes to no run, the line has NONE behind its word
none_line : (word : List ℕ) (answer : Found) → None ≡ result_unwrap_or answer None → word ++ line none_word [] ≡ found_line word answer
unfolding found_line
none_line word (Ok None) e = refl
none_line word (Ok (Some run)) e = let z : ◌≡◌ {A = ℕ} 0 1 = cc in absurd (omega arith)
none_line word (Err refusal) e = refl

-- and where it comes to a run, the line has its numbers
one_line : (word : List ℕ) (answer : Found) (run : Run) → Some run ≡ result_unwrap_or answer None → line word (run_numbers run) ≡ found_line word answer
unfolding found_line
one_line word (Ok None) run e = let z : ◌≡◌ {A = ℕ} 0 1 = cc in absurd (omega arith)
one_line word (Ok (Some other)) run e = let same : run ≡ other = cc in rw same
one_line word (Err refusal) run e = let z : ◌≡◌ {A = ℕ} 0 1 = cc in absurd (omega arith)

pub put_word-next-requires : goal.put_word-next-requires
put_word-next-requires c =
    let room : c.args.at + length (c.args.word.now ++ line none_word []) ≤ length c.args.out.now =
    rw (none_line c.args.word.now c.args.answer c.in_default.ensures) c.requires in
    omega (arith, room, length-append c.args.word.now (line none_word []))

pub put_line-requires : goal.put_line-requires
put_line-requires c =
    let room : c.args.at + length (c.args.word.now ++ line none_word []) ≤ length c.args.out.now =
    rw (none_line c.args.word.now c.args.answer c.in_default.ensures) c.requires in
    omega (arith, room, length-append c.args.word.now (line none_word []), c.put_word-next.ensures.next_is)

pub returns-in_default : goal.returns-in_default
returns-in_default c =
    let room : c.args.at + length (c.args.word.now ++ line none_word []) ≤ length c.args.out.now =
    rw (none_line c.args.word.now c.args.answer c.in_default.ensures) c.requires in
    rw (← none_line c.args.word.now c.args.answer c.in_default.ensures)
    (put_join c.args.word.now (line none_word []) _ _ _ _ _ _ room c.put_word-next.ensures c.put_line.ensures)

pub put_line-requires-2 : goal.put_line-requires-2
put_line-requires-2 c =
    rw (c.from.ensures, c.from-2.ensures, c.from-3.ensures) (rw (one_line c.args.word.now c.args.answer c.in-Some.run' c.in-Some.ensures) c.requires)

pub returns : goal.returns
returns c =
    rw (← one_line c.args.word.now c.args.answer c.in-Some.run' c.in-Some.ensures) (rw (c.from.ensures, c.from-2.ensures, c.from-3.ensures) at c.put_line-2.ensures)

-- `console::put_now` meets its contract: each part stands behind the one before it, and the RUN lines are of the part of the columns that the query names.
use Rattle.std.proofs.Common.{◌≡◌, ◌+◌, ◌≤◌, ◌<◌, ap, ◌∙◌, ℕ, List, length, get_or, min, arith}
use Rattle.lines.proofs.PutLaws.{put_three}
use Rattle.schedule.specs.declared.Run.{Run}
use Rattle.schedule.specs.declared.Stretch.{Stretch}
use Rattle.schedule.specs.Runs.{runs_of}
use Rattle.schedule.specs.Queries.{run_at_tick, run_from_tick, stretch_of, touching}
use Rattle.printed_plan.specs.Printing.{run_lines}
use Rattle.printed_plan.specs.NowText.{now_word, next_word, found_line, now_lines}
use Rattle.printed_plan.proofs.NowLaws.{now_parts}
use Rattle.console.proofs.PartLaws.{named_in, named_length, interval_within, interval_part}
use Rattle.console.proofs.put_now.Goals as goal

-- the greatest number of 32 bits
abbrev last_end : ℕ
last_end = 4_294_967_295

-- what is asked of the records is asked of the runs of the columns
asked : {A : Type 0} (query : List Run → A) (records runs : List Run) (r : A) → r ≡ query records → records ≡ runs → r ≡ query runs
asked query records runs r e f = e ∙ ap query f

-- What the query for the interval, cut off at the greatest number, names in the columns: it lies within them, and is the runs that share a tick with the
-- whole interval.
module _ (starts ends tasks : List ℕ) (low : (k : ℕ) → k < length starts → get_or ends k 0 ≤ last_end) (records : List Run) (f : records ≡ runs_of starts ends tasks)
    (tick span end : ℕ) (e : end ≡ min (tick + span) last_end) (s : Stretch) (found : s ≡ stretch_of records tick end) where
  named : s ≡ stretch_of (runs_of starts ends tasks) tick (min (tick + span) last_end)
  named = found ∙ (ap (λ (rs : List Run). stretch_of rs tick end) f ∙ ap (stretch_of (runs_of starts ends tasks) tick) e)

  within : s.first + s.runs ≤ length starts
  within = interval_within starts ends tasks last_end tick span low s named

  part : runs_of (named_in s starts) (named_in s ends) (named_in s tasks) ≡ touching (runs_of starts ends tasks) tick (tick + span)
  part = interval_part starts ends tasks last_end tick span low s named

-- the room for the three parts
room_for : (runs : List Run) (tick span room : ℕ) → length (now_lines runs tick span) ≤ room
    → length (found_line now_word (run_at_tick runs tick)) + length (found_line next_word (run_from_tick runs tick))
    + length (run_lines (touching runs tick (tick + span)))
    ≤ room
room_for runs tick span room h = omega (arith, now_parts runs tick span)

pub put_found-next-requires : goal.put_found-next-requires
put_found-next-requires c =
    let runs = runs_of c.args.starts.now c.args.ends.now c.args.tasks.now in
    let now_is = ap (found_line now_word) (asked (λ rs. run_at_tick rs c.args.tick) _ runs _ c.run_at-holding.ensures.reply c.runs_of-records.ensures) in
    rw now_is (omega (arith, room_for runs c.args.tick c.args.span _ c.requires.span_in_bounds))

pub put_found-at-requires : goal.put_found-at-requires
put_found-at-requires c =
    let runs = runs_of c.args.starts.now c.args.ends.now c.args.tasks.now in
    let now_is = ap (found_line now_word) (asked (λ rs. run_at_tick rs c.args.tick) _ runs _ c.run_at-holding.ensures.reply c.runs_of-records.ensures) in
    let next_is = ap (found_line next_word) (asked (λ rs. run_from_tick rs c.args.tick) _ runs _ c.run_from-following.ensures.reply c.runs_of-records.ensures) in
    rw next_is (omega (arith, room_for runs c.args.tick c.args.span _ c.requires.span_in_bounds, c.put_found-next.ensures.next_is, ap length now_is))

pub overflow_add-end : goal.overflow_add-end
overflow_add-end c =
    omega (arith, within _ _ _ (λ k l. omega (arith, c.type_inv.ends k)) _ c.runs_of-records.ensures _ _ _ c.saturating_add.ensures _ c.stretch-first.ensures)

pub offset_bounds-starts-first : goal.offset_bounds-starts-first
offset_bounds-starts-first c =
    omega (arith, within _ _ _ (λ k l. omega (arith, c.type_inv.ends k)) _ c.runs_of-records.ensures _ _ _ c.saturating_add.ensures _ c.stretch-first.ensures)

pub offset_bounds-ends-first : goal.offset_bounds-ends-first
offset_bounds-ends-first c =
    omega (arith, within _ _ _ (λ k l. omega (arith, c.type_inv.ends k)) _ c.runs_of-records.ensures _ _ _ c.saturating_add.ensures _ c.stretch-first.ensures)

pub offset_bounds-tasks-first : goal.offset_bounds-tasks-first
offset_bounds-tasks-first c =
    omega (arith, within _ _ _ (λ k l. omega (arith, c.type_inv.ends k)) _ c.runs_of-records.ensures _ _ _ c.saturating_add.ensures _ c.stretch-first.ensures)

pub slice_bounds-put_runs-end : goal.slice_bounds-put_runs-end
slice_bounds-put_runs-end c =
    omega (arith, within _ _ _ (λ k l. omega (arith, c.type_inv.ends k)) _ c.runs_of-records.ensures _ _ _ c.saturating_add.ensures _ c.stretch-first.ensures, c.requires.one_length)

pub slice_bounds-put_runs-end-2 : goal.slice_bounds-put_runs-end-2
slice_bounds-put_runs-end-2 c =
    omega (arith, within _ _ _ (λ k l. omega (arith, c.type_inv.ends k)) _ c.runs_of-records.ensures _ _ _ c.saturating_add.ensures _ c.stretch-first.ensures, c.requires.one_length)

pub slice_bounds-put_runs-end-3 : goal.slice_bounds-put_runs-end-3
slice_bounds-put_runs-end-3 c =
    omega (arith, within _ _ _ (λ k l. omega (arith, c.type_inv.ends k)) _ c.runs_of-records.ensures _ _ _ c.saturating_add.ensures _ c.stretch-first.ensures, c.requires.one_length)

pub put_runs-requires : goal.put_runs-requires
put_runs-requires c =
    let runs = runs_of c.args.starts.now c.args.ends.now c.args.tasks.now in
    let now_is = ap (found_line now_word) (asked (λ rs. run_at_tick rs c.args.tick) _ runs _ c.run_at-holding.ensures.reply c.runs_of-records.ensures) in
    let next_is = ap (found_line next_word) (asked (λ rs. run_from_tick rs c.args.tick) _ runs _ c.run_from-following.ensures.reply c.runs_of-records.ensures) in
    let part = part _ _ _ (λ k l. omega (arith, c.type_inv.ends k)) _ c.runs_of-records.ensures _ _ _ c.saturating_add.ensures _ c.stretch-first.ensures in
    let same = named_length c.stretch-first.result in
    record {
      one_length = (same _ _ c.requires.one_length.0, same _ _ c.requires.one_length.1);
      tasks_in_bounds = rw part (omega (
        arith,
        room_for runs c.args.tick c.args.span _ c.requires.span_in_bounds,
        c.put_found-next.ensures.next_is,
        ap length now_is,
        c.put_found-at.ensures.next_is,
        ap length next_is,
      ));
    }

pub returns : goal.returns
unfolding now_lines
returns c =
    let runs = runs_of c.args.starts.now c.args.ends.now c.args.tasks.now in
    let now_is = ap (found_line now_word) (asked (λ rs. run_at_tick rs c.args.tick) _ runs _ c.run_at-holding.ensures.reply c.runs_of-records.ensures) in
    let next_is = ap (found_line next_word) (asked (λ rs. run_from_tick rs c.args.tick) _ runs _ c.run_from-following.ensures.reply c.runs_of-records.ensures) in
    let part = part _ _ _ (λ k l. omega (arith, c.type_inv.ends k)) _ c.runs_of-records.ensures _ _ _ c.saturating_add.ensures _ c.stretch-first.ensures in
    let lines = run_lines (touching runs c.args.tick (c.args.tick + c.args.span)) in
    put_three (found_line now_word (run_at_tick runs c.args.tick)) (found_line next_word (run_from_tick runs c.args.tick)) lines 0 _ _ _ _ _ _ _
    (omega (arith, c.requires.span_in_bounds)) (rw now_is at c.put_found-next.ensures) (rw next_is at c.put_found-at.ensures) (rw part at c.put_runs.ensures)

-- `busy::busy` meets its contract: what the check refuses, or the sum, which no interval of 32 bits makes too great.
use Rattle.std.proofs.Common.{sym, ◌∙◌, arith}
use Rattle.schedule.specs.BusyCount.{shared}
use Rattle.schedule.proofs.BusyLaws.{sum_most, counts_ticks}
use Rattle.busy.proofs.SumLaws.{same_sum, reply_refused, reply_sum}
use Rattle.busy.proofs.busy.Goals as goal

pub all_shared-requires : goal.all_shared-requires
all_shared-requires c =
    let runs = c.args.runs.now in
    omega (arith, same_sum (shared c.args.a c.args.b) runs, sum_most runs (sym c.in-Ok.ensures) c.args.a c.args.b)

pub returns-in-Ok : goal.returns-in-Ok
returns-in-Ok c =
    let runs = c.args.runs.now in
    let is = c.counted.ensures ∙ reply_sum runs _ _ _ (sym c.in-Ok.ensures) (c.all_shared.ensures ∙ same_sum (shared c.args.a c.args.b) runs) in
    record { reply = is; counts_ticks = counts_ticks runs c.args.a c.args.b _ is }

pub returns-in-Err : goal.returns-in-Err
returns-in-Err c =
    let is = c.refused.ensures ∙ reply_refused _ _ _ _ c.in-Err.ensures in
    record { reply = is; counts_ticks = counts_ticks c.args.runs.now c.args.a c.args.b _ is }

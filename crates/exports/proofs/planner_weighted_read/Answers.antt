-- `exports::planner_weighted_read` meets its contract: the parts of the reply of weighted reading.
use Prim.Native.Nat.{ℕ}
use mathlib.Core.Path.{◌≡◌, ap}
use mathlib.Core.List.{List}
use Rattle.std.specs.Prelude.{Ok, Err}
use Rattle.table.specs.Answers.{refusal_number, refusal_place}
use Rattle.table.specs.declared.Refusal.{Refusal}
use Rattle.table.proofs.AnswerLaws.{answered_ok-known, answered_err-known}
use Rattle.weighted_file.specs.declared.Weighted.{Weighted}
use Rattle.weighted_file.specs.Weights.{no_weighted, weighted_in, weighted_answer, weighted_read_reply, weighted_read_result}
use Rattle.exports.specs.declared.WeightedTableRead.{WeightedTableRead}
use Rattle.exports.specs.FileRead.{weighted_read_in_c}
use Rattle.exports.proofs.planner_weighted_read.Goals as goal

-- the reply of an accepted file, and that of a refusal, by their parts
accepted_in_c : (file : List ℕ) (w : Weighted) → Ok w ≡ weighted_read_result file → record { number = 0; place = 0; table = w } ≡ weighted_read_in_c file
unfolding weighted_read_in_c weighted_read_reply weighted_read_result
accepted_in_c file w e =
    let known = answered_ok-known (weighted_answer file) (weighted_in file) w e in
    rw known.0 (ap (λ (x : Weighted). record { number = 0; place = 0; table = x }) known.1)

refused_in_c : (file : List ℕ) (refusal : Refusal) (r : WeightedTableRead) → Err refusal ≡ weighted_read_result file
    → r.number ≡ refusal_number refusal → r.place ≡ refusal_place refusal → r.table ≡ no_weighted → r ≡ weighted_read_in_c file
unfolding weighted_read_in_c weighted_read_reply weighted_read_result
refused_in_c file refusal r e n p t =
    rw (answered_err-known (weighted_answer file) (weighted_in file) refusal e) (λ i. record { number = n i; place = p i; table = t i })

pub returns-in-Ok : goal.returns-in-Ok
returns-in-Ok c = accepted_in_c c.args.file.now c.in-Ok.table c.in-Ok.ensures.reply

pub returns-in-Err : goal.returns-in-Err
returns-in-Err c = refused_in_c c.args.file.now c.in-Err.refusal _ c.in-Err.ensures.reply c.number.ensures c.place.ensures c.none.ensures

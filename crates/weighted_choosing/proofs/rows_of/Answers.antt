use Prim.Native.Nat.{ℕ, ◌+◌, ◌-◌, ◌≤◌, ◌<◌}
use mathlib.Core.Path.{◌≡◌, ◌∙◌}
use native.Mathlib.Omega.{arith}
use lib.ListN.{length, get_or}
use Rattle.base.specs.Limits.{max_weight}
use Rattle.schedule.specs.declared.Job.{Job}
use Rattle.schedule.specs.JobArrays.{no_job, Bounded}
use Rattle.choice.specs.Choice.{weighed}
use lib.Seq.{get_or-take, length-take-le}
use Rattle.choice.proofs.ProgrammeLaws.{greatest_part}
use Rattle.choice.proofs.JobLists.{left_whole, none_at_places}
use Rattle.weighted_choosing.specs.WeightedRows.{weight_places, SignFree}
use Rattle.weighted_choosing.proofs.MadeLaws.{weighed_most, Made, made_start, mandatory-room, sign-free, made-step}
use Rattle.weighted_choosing.proofs.rows_of.Goals as goal

pub loop-i-init : goal.loop-i-init
loop-i-init c =
    made_start _ _ _ c.requires.count_le_max_tasks _ _ _ c.requires.row_value.0 c.requires.row_value.1 c.requires.decisions_value

pub room_beside-room-requires : goal.room_beside-room-requires
room_beside-room-requires c =
    let weight-at : ℕ → ℕ = λ k. get_or c.args.weights.now k 0 in
    let inside : 0 < c.loop-i.i → Made (weighed (weight-at)) (λ k. get_or c.args.jobs.now k no_job) (length c.args.jobs.now) (c.loop-i.i - 1 + 1) c.loop-i.row c.loop-i.kept c.loop-i.decisions c.loop-i.mandatory c.loop-i.top = λ l. let next : c.loop-i.i ≡ c.loop-i.i - 1 + 1 = omega arith in
    rw next at c.loop-i.invariant in
    omega (arith, mandatory-room _ _ _ c.requires.count_le_max_tasks (none_at_places c.args.jobs.now c.requires.count_value) (c.loop-i.i - 1) _ _ _ _ _ (inside (omega arith)))

pub decide-requires : goal.decide-requires
decide-requires c =
    let weight-at : ℕ → ℕ = λ k. get_or c.args.weights.now k 0 in
    let job-at : Job = get_or c.args.jobs.now (c.loop-i.i - 1) no_job in
    let bounded : 0 < c.loop-i.i → Bounded (job-at) = λ l. c.requires.all_bounded (c.loop-i.i - 1) (omega (arith, c.loop-i.invariant.within_is)) in
    let inside : 0 < c.loop-i.i → Made (weighed (weight-at)) (λ k. get_or c.args.jobs.now k no_job) (length c.args.jobs.now) (c.loop-i.i - 1 + 1) c.loop-i.row c.loop-i.kept c.loop-i.decisions c.loop-i.mandatory c.loop-i.top = λ l. let next : c.loop-i.i ≡ c.loop-i.i - 1 + 1 = omega arith in
    rw next at c.loop-i.invariant in
    let top-room : 0 < c.loop-i.i → c.loop-i.top + max_weight < weight_places = λ l. omega (arith, c.loop-i.invariant.top_most, c.loop-i.invariant.within_is, c.requires.count_le_max_tasks) in
    let light : c.weight_of-weight.result ≤ max_weight =
    let small = weighed_most (weight-at) (job-at) max_weight (c.requires.weights_len.1 (job-at).position (c.requires.by_index (c.loop-i.i - 1) (omega (arith, c.loop-i.invariant.within_is)))) in
    omega (arith, c.weight_of-weight.ensures, small) in
    let free : SignFree c.add_part.new.kept (max_weight - c.weight_of-weight.result) c.loop-i.row (c.loop-i.top + c.weight_of-weight.result + 1) =
    sign-free _ _ _ c.requires.count_le_max_tasks (none_at_places c.args.jobs.now c.requires.count_value) (c.loop-i.i - 1) _ _ _ _ _ (inside (omega arith)) (bounded (omega arith)) _ _ c.weight_of-weight.ensures (light) c.add_part.ensures in
    let room = top-room (omega arith) in
    let small = light in
    record { places_in_bounds = (omega (arith, c.loop-i.invariant.kept_length, c.add_part.ensures.same_length), omega (arith, c.loop-i.invariant.row_length), omega (arith, c.loop-i.invariant.words)); i_bound = omega (arith, c.loop-i.invariant.within_is, c.requires.count_le_max_tasks); sign_free = free; by_index = λ v l. (inside (omega arith)).unset v (omega arith) }

pub next_row-requires : goal.next_row-requires
next_row-requires c =
    let weight-at : ℕ → ℕ = λ k. get_or c.args.weights.now k 0 in
    let job-at : Job = get_or c.args.jobs.now (c.loop-i.i - 1) no_job in
    let bounded : 0 < c.loop-i.i → Bounded (job-at) = λ l. c.requires.all_bounded (c.loop-i.i - 1) (omega (arith, c.loop-i.invariant.within_is)) in
    let inside : 0 < c.loop-i.i → Made (weighed (weight-at)) (λ k. get_or c.args.jobs.now k no_job) (length c.args.jobs.now) (c.loop-i.i - 1 + 1) c.loop-i.row c.loop-i.kept c.loop-i.decisions c.loop-i.mandatory c.loop-i.top = λ l. let next : c.loop-i.i ≡ c.loop-i.i - 1 + 1 = omega arith in
    rw next at c.loop-i.invariant in
    let top-room : 0 < c.loop-i.i → c.loop-i.top + max_weight < weight_places = λ l. omega (arith, c.loop-i.invariant.top_most, c.loop-i.invariant.within_is, c.requires.count_le_max_tasks) in
    let light : c.weight_of-weight.result ≤ max_weight =
    let small = weighed_most (weight-at) (job-at) max_weight (c.requires.weights_len.1 (job-at).position (c.requires.by_index (c.loop-i.i - 1) (omega (arith, c.loop-i.invariant.within_is)))) in
    omega (arith, c.weight_of-weight.ensures, small) in
    let free : SignFree c.add_part.new.kept (max_weight - c.weight_of-weight.result) c.loop-i.row (c.loop-i.top + c.weight_of-weight.result + 1) =
    sign-free _ _ _ c.requires.count_le_max_tasks (none_at_places c.args.jobs.now c.requires.count_value) (c.loop-i.i - 1) _ _ _ _ _ (inside (omega arith)) (bounded (omega arith)) _ _ c.weight_of-weight.ensures (light) c.add_part.ensures in
    let room = top-room (omega arith) in
    let small = light in
    record { places_in_bounds = (omega (arith, c.loop-i.invariant.kept_length, c.add_part.ensures.same_length), omega (arith, c.loop-i.invariant.row_length)); sign_free = free; room_bound = omega (arith, c.room_beside-room.ensures, (bounded (omega arith)).deadline) }

pub loop-i-preserved : goal.loop-i-preserved
loop-i-preserved c =
    let weight-at : ℕ → ℕ = λ k. get_or c.args.weights.now k 0 in
    let job-at : Job = get_or c.args.jobs.now (c.loop-i.i - 1) no_job in
    let bounded : 0 < c.loop-i.i → Bounded (job-at) = λ l. c.requires.all_bounded (c.loop-i.i - 1) (omega (arith, c.loop-i.invariant.within_is)) in
    let inside : 0 < c.loop-i.i → Made (weighed (weight-at)) (λ k. get_or c.args.jobs.now k no_job) (length c.args.jobs.now) (c.loop-i.i - 1 + 1) c.loop-i.row c.loop-i.kept c.loop-i.decisions c.loop-i.mandatory c.loop-i.top = λ l. let next : c.loop-i.i ≡ c.loop-i.i - 1 + 1 = omega arith in
    rw next at c.loop-i.invariant in
    let light : c.weight_of-weight.result ≤ max_weight =
    let small = weighed_most (weight-at) (job-at) max_weight (c.requires.weights_len.1 (job-at).position (c.requires.by_index (c.loop-i.i - 1) (omega (arith, c.loop-i.invariant.within_is)))) in
    omega (arith, c.weight_of-weight.ensures, small) in
    made-step _ _ _ c.requires.count_le_max_tasks (none_at_places c.args.jobs.now c.requires.count_value) (c.loop-i.i - 1) _ _ _ _ _ (inside (omega arith)) (bounded (omega arith)) _ _ c.weight_of-weight.ensures (light)
    c.add_part.ensures _ _ _ _ c.room_beside-room.ensures c.decide.ensures c.next_row.ensures
    (c.most_within-top.ensures
    ∙ greatest_part _ (λ v. get_or c.next_row.new.row v 0) _ (c.loop-i.top + c.weight_of-weight.result)
    (length-take-le _ _ (omega (arith, c.next_row.ensures.same_length, c.loop-i.invariant.row_length, c.loop-i.invariant.top_most, c.loop-i.invariant.within_is, light)))
    (λ v l. get_or-take _ _ v 0 (omega arith)))

pub returns : goal.returns
returns c =
    let end : c.loop-i.i ≡ 0 = omega arith in
    let start = left_whole no_job c.args.jobs.now in
    record {
      words = c.loop-i.invariant.words;
      within = omega (arith, c.loop-i.invariant.top_most, c.requires.count_le_max_tasks);
      decided = rw end at c.loop-i.invariant.decided;
      last = rw (end, start) at c.loop-i.invariant.last;
    }

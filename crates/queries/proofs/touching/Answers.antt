-- `queries::touching` meets its contract: the stretch lies within the list, and is of the runs that share a tick with the interval.
use Rattle.std.proofs.Common.{◌≡◌, ap, ℕ, ◌+◌, ◌-◌, ◌≤◌, ◌*◌, List, take, drop, length, arith}
use Rattle.schedule.specs.declared.Run.{Run}
use Rattle.schedule.specs.declared.Stretch.{Stretch}
use Rattle.schedule.specs.Queries.{touching, stretch_of}
use Rattle.schedule.proofs.QueryLaws.{touching_unbroken, stretch_touching, stretch_within}
use Rattle.queries.proofs.touching.Goals as goal

module _ (runs : List Run) (a b : ℕ) (s : Stretch) (e : s ≡ stretch_of runs a b) where
  within : s.first + s.runs ≤ length runs
  within = rw e (stretch_within runs a b)

  bounds_touching : take (s.first + s.runs - s.first) (drop s.first runs) ≡ touching runs a b
  bounds_touching = let n : s.first + s.runs - s.first ≡ s.runs = omega arith in rw n (rw e (stretch_touching runs a b))

pub overflow_add-result : goal.overflow_add-result
overflow_add-result c = omega (arith, within c.args.runs.now c.args.a c.args.b _ c.stretch-first.ensures)

pub offset_bounds-runs-first : goal.offset_bounds-runs-first
offset_bounds-runs-first c = omega (arith, within c.args.runs.now c.args.a c.args.b _ c.stretch-first.ensures)

pub slice_bounds-result-end : goal.slice_bounds-result-end
slice_bounds-result-end c = let w = within c.args.runs.now c.args.a c.args.b _ c.stretch-first.ensures in omega arith

pub returns : goal.returns
returns c =
    let runs = c.args.runs.now in
    let is = bounds_touching runs c.args.a c.args.b _ c.stretch-first.ensures in
    record {
      runs_are = (is, ap (λ (s : Stretch). (c.args.runs.ref_ptr.0, s.first * 12 + c.args.runs.ref_ptr.1)) c.stretch-first.ensures);
      unbroken = rw is (touching_unbroken runs c.args.a c.args.b);
    }

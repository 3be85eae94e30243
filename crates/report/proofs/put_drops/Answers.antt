use mathlib.Core.List.{[], ◌∷◌}
use Rattle.lines.specs.Text.{line}
use Rattle.printed_plan.specs.Printing.{drop_word, drop_lines}
use Rattle.lines.proofs.PutLaws.{putting_start, putting_fits, putting_step, putting_end}
use Rattle.printed_plan.proofs.LineLaws.{drops_start, drops_step, drops_skip, drops_end}
use Rattle.report.proofs.put_drops.Goals.{else-dropped, then-dropped}
use Rattle.report.proofs.put_drops.Goals as goal

pub loop-position-init : goal.loop-position-init
loop-position-init c =
    rw (← drops_start c.args.marks.now) (putting_start (drop_lines c.args.marks.now) c.args.at c.args.out.now c.requires)

pub put_drop-next-requires : goal.put_drop-next-requires
put_drop-next-requires c =
    putting_fits _ _ _ c.requires (line drop_word (c.loop-position.position ∷ [])) _ _ _
    (rw (drops_step c.args.marks.now c.loop-position.position c.loop-position-test.true c.if-dropped.true) at c.loop-position.invariant)

pub loop-position-preserved : goal.loop-position-preserved
loop-position-preserved c =
    let marks = c.args.marks.now in
    let k = c.loop-position.position in
    let within = c.loop-position-test.true in
    elim c.if-dropped.branch [
      | then-dropped w ↦
          rw (w.next-is, w.out-is)
          (putting_step _ _ _ c.requires _ _ _ _ _ _ (rw (drops_step marks k within w.if-dropped.true) at c.loop-position.invariant) w.put_drop-next.ensures)
      | else-dropped w ↦ rw (w.next-is, w.out-is, ← drops_skip marks k within w.if-dropped.false) c.loop-position.invariant
    ]

pub returns : goal.returns
returns c =
    putting_end _ _ _ c.requires _ _ (rw (drops_end c.args.marks.now c.loop-position.position c.loop-position-test.false) at c.loop-position.invariant)

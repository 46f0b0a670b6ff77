-- One triangle more is tried.
use Rattle.std.proofs.Common.{sym, ap, ◌∙◌, arith, add-one, suc}
use Rattle.eb_machine.specs.Named.{has_equal, first_with_equal}
use Rattle.eb_rows.proofs.EqualNames.{equal_zero, equal_here, equal_not_here, equal_found}
use Rattle.eb_rows.proofs.active_rows.first_with_equal.Goals as goal

pub loop-face-init : goal.loop-face-init
loop-face-init c = equal_zero c.args.triangles.now

pub returns-then-has_equal : goal.returns-then-has_equal
returns-then-has_equal c =
    let t = c.loop-face-test.true in
    sym (equal_found c.args.triangles.now (suc c.loop-face.face) c.args.faces c.loop-face.face (omega arith)
    (equal_here c.args.triangles.now c.loop-face.face c.loop-face.invariant (ap has_equal (sym c.triangle_at.ensures) ∙ sym c.has_equal.ensures ∙ c.if-has_equal.true)))

pub loop-face-preserved : goal.loop-face-preserved
loop-face-preserved c =
    ap (first_with_equal c.args.triangles.now) (add-one c.loop-face.face) ∙ equal_not_here c.args.triangles.now c.loop-face.face c.loop-face.invariant (ap has_equal (sym c.triangle_at.ensures) ∙ sym c.has_equal.ensures ∙ c.if-has_equal.false)

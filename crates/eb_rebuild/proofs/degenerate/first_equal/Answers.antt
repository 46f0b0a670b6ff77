-- At the first face that has equal labels the search ends.
use Rattle.std.proofs.Common.{sym, ap, ◌∙◌, arith, add-one, suc}
use Rattle.eb_rebuild.specs.Alike.{first_alike}
use Rattle.eb_rebuild.proofs.Equals.{alike_zero, alike_here, alike_not_here, alike_found}
use Rattle.eb_rebuild.proofs.degenerate.first_equal.Goals as goal

pub loop-face-init : goal.loop-face-init
loop-face-init c = alike_zero c.args.labels.now

pub returns-then-has_equal_labels : goal.returns-then-has_equal_labels
returns-then-has_equal_labels c =
    let t = c.loop-face-test.true in
    sym (alike_found c.args.labels.now (suc c.loop-face.face) c.args.faces c.loop-face.face (omega arith)
    (alike_here c.args.labels.now c.loop-face.face c.loop-face.invariant (sym c.has_equal_labels.ensures ∙ c.if-has_equal_labels.true)))

pub loop-face-preserved : goal.loop-face-preserved
loop-face-preserved c =
    ap (first_alike c.args.labels.now) (add-one c.loop-face.face) ∙ alike_not_here c.args.labels.now c.loop-face.face c.loop-face.invariant (sym c.has_equal_labels.ensures ∙ c.if-has_equal_labels.false)

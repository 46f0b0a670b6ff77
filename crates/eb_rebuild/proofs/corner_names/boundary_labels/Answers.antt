-- Each turn of the loop marks the label of one side, if it is free.
use Rattle.std.proofs.Common.{ℕ, ◌<◌, sym, subst, add-one}
use Rattle.corner_table.specs.Sides.{number, next, side_at}
use Rattle.corner_table.proofs.Numbers.{number-lt, face-lt}
use Rattle.eb_rebuild.specs.CornerNames.{AreMarked}
use Rattle.eb_rebuild.proofs.CornerLabels.{marked_more}
use Rattle.eb_rebuild.proofs.corner_names.boundary_labels.Goals as goal

pub loop-side-preserved : goal.loop-side-preserved
loop-side-preserved c =
    let at = next (side_at c.loop-side.side) in
    let f : at.face < c.args.faces = face-lt c.loop-side.side c.args.faces c.loop-side-test.true in
    subst (λ (i : ℕ). AreMarked c.args.across.now c.args.labels.now i c.args.count c.mark_start.new.ends.items) (sym (add-one c.loop-side.side))
    (marked_more c.args.across.now c.args.labels.now c.loop-side.side c.args.count c.loop-side.ends.items c.mark_start.new.ends.items c.loop-side.invariant (c.requires.below (number at) (number-lt at c.args.faces f)) c.mark_start.ensures.items)

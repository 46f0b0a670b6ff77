-- The labels at which free sides before this one start are marked.
use Rattle.eb_rebuild.specs.CornerNames.{AreMarked}
use Rattle.eb_rebuild.proofs.corner_names.boundary_labels.Given as goal

abbrev pub invariant-loop-side : goal.invariant-loop-side
invariant-loop-side l = AreMarked l.across l.labels l.side l.count l.ends.items

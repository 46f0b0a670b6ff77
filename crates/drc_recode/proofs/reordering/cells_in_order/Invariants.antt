use Rattle.std.proofs.Common.{◌≡◌, take}
use Rattle.mesh_model.specs.Parts.{cells_of}
use Rattle.drc_recode.specs.FirstOrder.{reordered}
use Rattle.drc_recode.proofs.reordering.cells_in_order.Given as goal

-- the points of the rows so far
abbrev pub invariant-loop-point : goal.invariant-loop-point
invariant-loop-point l = l.cells.items ≡ cells_of (reordered l.cloud (take l.point-index l.rows)).points

use Rattle.mesh_model.specs.Vertices.{AreInOrder}
use Rattle.std.proofs.Common.{◌+◌, sym, subst}
use Rattle.mesh_model.proofs.VertexItems.{InOrder-max}
use Rattle.mesh_model.proofs.vertex_items.count_with.Goals as goal

pub returns : goal.returns
returns c =
    subst (AreInOrder c.args.vertices.now (c.args.corner + 1)) (sym c.max.ensures)
    (InOrder-max c.args.vertices.now c.args.corner c.args.count c.requires.ordered c.if-vertex-count.false)

use Rattle.std.proofs.Common.{get_or, ap}
use Rattle.corner_table.specs.Sides.{side}
use Rattle.drc_container.proofs.lemmas.surface.TurnedMeshes.{turned-place}
use Rattle.drc_container.proofs.surface.turned_meshes.carried.Goals as goal

pub returns-clause-corner : goal.returns-clause-corner
returns-clause-corner c =
    let row = get_or c.args.rows.now c.args.corner.face (0, 0) in
    ap (side row.0) (turned-place c.args.corner.k row.1 c.args.corner.in_face (c.requires.rows c.args.corner.face (0, 0) c.requires.corner))

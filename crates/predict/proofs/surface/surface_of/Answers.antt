-- The lists are those of the table, of the classes and of the order.
use Rattle.std.proofs.Common.{◌≤◌, arith}
use Rattle.corner_table.specs.Table.{room_of}
use Rattle.predict.proofs.Surfaces.{surface_is}
use Rattle.predict.proofs.surface.surface_of.Goals as goal

pub returns-clause-surface : goal.returns-clause-surface
returns-clause-surface c =
    let on = c.args.on.now in
    let table = c.face_count-faces.ensures in
    let count = table.count in
    let fits : on.sides.now.faces ≤ room_of on.sides.now = omega (arith, table.room, count) in
    surface_is _ on.sides.now on.classes.now.of_corner on.order.now c.entries_of.ensures c.as_slice.ensures.items c.as_slice-2.ensures.items c.as_slice-3.ensures.items
    table.entries fits table.limit table.gluing c.requires

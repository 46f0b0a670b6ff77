-- The new side and the free side are glued.
use Rattle.std.proofs.Common.{ap}
use Rattle.corner_table.specs.Sides.{place_of, side_at}
use Rattle.corner_table.specs.Table.{side_of, glued_in, gluing_of}
use Rattle.eb_machine.proofs.ManyGlued.{glued_by}
use Rattle.eb_rows.proofs.glued_faces.add_one.Goals as goal

pub glue-requires-clause-first : goal.glue-requires-clause-first
glue-requires-clause-first g c = c.add_face-face.ensures.free (place_of c.args.k)

pub returns-clause-glued : goal.returns-clause-glued
returns-clause-glued g c =
    glued_by (gluing_of c.args.table.now) (gluing_of c.add_face-face.new.self) (gluing_of c.glue.new.self) c.args.table.now.faces c.add_face-face.result (place_of c.args.k) (side_at c.args.a) (side_of c.side_with.result)
    c.glue.ensures.glued (ap glued_in c.add_face-face.ensures.entries) c.add_face-face.ensures.face c.side_with.ensures.side

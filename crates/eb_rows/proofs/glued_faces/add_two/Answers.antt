-- The second pair is apart from the first.
use Rattle.std.proofs.Common.{[], ◌∷◌, arith}
use Rattle.corner_table.specs.Sides.{place_of, side, side_at, glue}
use Rattle.corner_table.specs.Table.{side_of, gluing_of}
use Rattle.eb_machine.specs.OneFaceMore.{Pairs}
use Rattle.eb_machine.proofs.ManyGlued.{glued_by, place_free, old_free}
use Rattle.eb_rows.proofs.glued_faces.add_two.Goals as goal

pub add_one-face-requires-clause-free : goal.add_one-face-requires-clause-free
add_one-face-requires-clause-free g c = c.requires.apart.3.0

pub glue-requires-clause-first : goal.glue-requires-clause-first
glue-requires-clause-first g c =
    let ps : Pairs = (place_of c.args.j, side_at c.args.a) ∷ [] in
    place_free c.args.table.now c.add_one-face.new.table c.face_count.ensures.gluing ps (place_of c.args.k) c.add_one-face.result c.requires.apart.3 c.requires.apart.2 c.add_one-face.ensures.faces c.add_one-face.ensures.glued c.add_one-face.ensures.face

pub glue-requires-clause-second : goal.glue-requires-clause-second
glue-requires-clause-second g c =
    let ps : Pairs = (place_of c.args.j, side_at c.args.a) ∷ [] in
    old_free c.args.table.now c.add_one-face.new.table ps (side_at c.args.b) (side_of c.side_with.result) c.requires.apart.0 c.requires.apart.1 c.add_one-face.ensures.faces c.add_one-face.ensures.glued c.side_with.ensures.side

pub glue-requires-clause-apart : goal.glue-requires-clause-apart
glue-requires-clause-apart g c = λ e. (
    let is = c.add_one-face.ensures.face in
    let within = c.requires.apart.0.within in
    let at = c.side_with.ensures.face in
    absurd (omega arith))

pub returns-clause-glued : goal.returns-clause-glued
returns-clause-glued g c =
    let f = c.args.table.now.faces in
    glued_by (glue (side f (place_of c.args.j)) (side_at c.args.a) (gluing_of c.args.table.now)) (gluing_of c.add_one-face.new.table) (gluing_of c.glue.new.self) f c.add_one-face.result (place_of c.args.k) (side_at c.args.b) (side_of c.side_with.result)
    c.glue.ensures.glued c.add_one-face.ensures.glued c.add_one-face.ensures.face c.side_with.ensures.side

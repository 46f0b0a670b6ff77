-- The third pair is apart from the first two.
use Rattle.std.proofs.Common.{[], ◌∷◌, arith}
use Rattle.corner_table.specs.Sides.{first, second, third, side, side_at, glue}
use Rattle.corner_table.specs.Table.{side_of, gluing_of}
use Rattle.eb_machine.specs.OneFaceMore.{Pairs}
use Rattle.eb_machine.proofs.ManyGlued.{glued_by, place_free, old_free}
use Rattle.eb_rows.proofs.glued_faces.add_three.Goals as goal

pub add_two-face-requires-clause-apart : goal.add_two-face-requires-clause-apart
add_two-face-requires-clause-apart g c = c.requires.apart.3

pub glue-requires-clause-first : goal.glue-requires-clause-first
glue-requires-clause-first g c =
    let ps : Pairs = (second, side_at c.args.b) ∷ (first, side_at c.args.a) ∷ [] in
    place_free c.args.table.now c.add_two-face.new.table c.face_count.ensures.gluing ps third c.add_two-face.result c.requires.apart.3 c.requires.apart.2 c.add_two-face.ensures.faces c.add_two-face.ensures.glued c.add_two-face.ensures.face

pub glue-requires-clause-second : goal.glue-requires-clause-second
glue-requires-clause-second g c =
    let ps : Pairs = (second, side_at c.args.b) ∷ (first, side_at c.args.a) ∷ [] in
    old_free c.args.table.now c.add_two-face.new.table ps (side_at c.args.c) (side_of c.side_with.result) c.requires.apart.0 c.requires.apart.1 c.add_two-face.ensures.faces c.add_two-face.ensures.glued c.side_with.ensures.side

pub glue-requires-clause-apart : goal.glue-requires-clause-apart
glue-requires-clause-apart g c = λ e. (
    let is = c.add_two-face.ensures.face in
    let within = c.requires.apart.0.within in
    let at = c.side_with.ensures.face in
    absurd (omega arith))

pub returns-clause-glued : goal.returns-clause-glued
returns-clause-glued g c =
    let f = c.args.table.now.faces in
    glued_by (glue (side f second) (side_at c.args.b) (glue (side f first) (side_at c.args.a) (gluing_of c.args.table.now))) (gluing_of c.add_two-face.new.table) (gluing_of c.glue.new.self) f c.add_two-face.result third (side_at c.args.c) (side_of c.side_with.result)
    c.glue.ensures.glued c.add_two-face.ensures.glued c.add_two-face.ensures.face c.side_with.ensures.side

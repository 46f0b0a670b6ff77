use Rattle.std.proofs.Common.{◌∙◌, length}
use Rattle.ply_mesh.specs.Text.{text_of, points_header, faces_header, last_line}
use Rattle.ply_mesh.proofs.LineTexts.{onto}
use Rattle.ply_mesh.proofs.RowTexts.{three_parts}
use Rattle.std.proofs.lemmas.List.Elements.{recursion_from_All}
use Rattle.mesh_model.specs.declared.geometries.Geometry.TheVariants.{Mesh}
use Rattle.attr_heads.proofs.Passing.{heads_say}
use Rattle.ply_mesh.specs.Fields.{HasFields}
use Rattle.ply_mesh.proofs.RoundTrip.{geometry_again}
use Rattle.ply_mesh.proofs.header_writer.mesh_header.Goals as goal

pub put_points_header-requires : goal.put_points_header-requires
put_points_header-requires c = rw c.heads.ensures.value ((heads_say c.args.mesh.now.heads c.heads.ensures.sound.points.heads_pass).few)

pub returns-clause-text : goal.returns-clause-text
returns-clause-text c =
    let m = c.args.mesh.now in
    let first = rw (c.heads.ensures.value, c.point_count.ensures.value) at c.in_ok-put_points_header.ensures.text in
    let faces = rw c.face_count.ensures.value at c.in_ok-put_faces_header.ensures in
    onto (text_of last_line) c.in_ok-put_last.ensures
    (onto (text_of (faces_header (length m.faces))) faces
    (onto (text_of (points_header m.heads (length m.points))) first c.new-out.ensures.items))
    ∙ three_parts (points_header m.heads (length m.points)) (faces_header (length m.faces)) last_line

pub returns-clause-again : goal.returns-clause-again
returns-clause-again c =
    let m = c.args.mesh.now in
    let fields = rw c.heads.ensures.value at c.in_ok-put_points_header.ensures.fields in
    geometry_again (Mesh m) c.heads.ensures.sound (recursion_from_All HasFields m.heads fields)

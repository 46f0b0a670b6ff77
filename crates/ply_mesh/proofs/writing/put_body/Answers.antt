use Rattle.std.proofs.Common.{take}
use Rattle.ply_mesh.specs.Text.{text_of, face_lines}
use Rattle.ply_mesh.proofs.Printing.{Prints-parts, mesh_body}
use Rattle.ply_mesh.proofs.writing.put_body.Goals as goal

pub returns-in_ok-held-in-Mesh-clause-text : goal.returns-in_ok-held-in-Mesh-clause-text
returns-in_ok-held-in-Mesh-clause-text g c =
    let m = c.in-Mesh.mesh in
    Prints-parts _ _ _ _ _ (text_of (face_lines m.faces)) _ _ _ (mesh_body (take c.args.before c.args.chunk.now) c.args.g.now m c.in-Mesh.is) c.in_ok-held-in-Mesh.ensures.text c.put_faces.ensures.text

use Rattle.std.proofs.Common.{map}
use Rattle.std.proofs.lemmas.Result.{err_from_is_err_and}
use Rattle.mesh_model.specs.declared.geometries.Geometry.TheVariants.{Mesh}
use Rattle.ply_text.specs.Tokens.{tokens_of}
use Rattle.ply_mesh.proofs.BodySteps.{rows_fault, faces_fault, mesh_ends}
use Rattle.ply_mesh.proofs.Finish.{mesh_rows, mesh_never, mesh_is}
use Rattle.ply_mesh.proofs.reading.read_mesh.Goals as goal

pub returns-in_err-cells : goal.returns-in_err-cells
returns-in_err-cells c =
    let p = err_from_is_err_and c.from_residual.result c.from_residual.ensures.1 in
    rw (p.1, p.2) (rows_fault c.args.header (map tokens_of c.args.lines.now) _ c.in_err-cells.ensures.rows)

pub returns-in_err-faces : goal.returns-in_err-faces
returns-in_err-faces c =
    let p = err_from_is_err_and c.from_residual-in_err-faces.result c.from_residual-in_err-faces.ensures.1 in
    let r = c.in_ok-cells.ensures.rows in
    let f = rw c.unwrap_or-list.ensures at c.in_err-faces.ensures.faces in
    rw (p.1, p.2) (faces_fault c.args.header (map tokens_of c.args.lines.now) (map tokens_of c.read_points.new.lines) r.0 c.args.count _ c.requires.faces r.1 f)

pub returns-in_err-read_end : goal.returns-in_err-read_end
returns-in_err-read_end c =
    let h = c.args.header in
    let p = err_from_is_err_and c.from_residual-in_err-read_end.result c.from_residual-in_err-read_end.ensures.1 in
    let r = c.in_ok-cells.ensures.rows in
    let f = rw c.unwrap_or-list.ensures at c.in_ok-faces.ensures.faces in
    let e = mesh_ends h (map tokens_of c.args.lines.now) (map tokens_of c.read_points.new.lines) (map tokens_of c.read_faces.new.lines) r.0 c.in_ok-faces.faces.items c.args.count c.requires.faces r.1 f in
    rw (p.1, p.2, e) (c.in_err-read_end.ensures (Mesh (record { heads = h.heads; points = r.0; faces = c.in_ok-faces.faces.items })))

pub new-requires : goal.new-requires
new-requires c =
    let r = c.in_ok-cells.ensures.rows in
    let f = rw c.unwrap_or-list.ensures at c.in_ok-faces.ensures.faces in
    mesh_rows c.args.header c.requires.header (map tokens_of c.args.lines.now) (map tokens_of c.read_points.new.lines) c.into_vec.result.items c.in_ok-cells.cells.items c.into_vec.ensures r c.args.count c.in_ok-faces.faces.items (map tokens_of c.read_faces.new.lines) c.requires.faces f

pub returns-in_err-mesh : goal.returns-in_err-mesh
returns-in_err-mesh c =
    let r = c.in_ok-cells.ensures.rows in
    let f = rw c.unwrap_or-list.ensures at c.in_ok-faces.ensures.faces in
    absurd (mesh_never c.args.header c.requires.header (map tokens_of c.args.lines.now) (map tokens_of c.read_points.new.lines) c.into_vec.result.items c.in_ok-cells.cells.items c.into_vec.ensures r c.args.count c.in_ok-faces.faces.items (map tokens_of c.read_faces.new.lines) c.requires.faces f c.new.result _ c.new.ensures c.in_err-mesh.was)

pub returns : goal.returns
returns c =
    let r = c.in_ok-cells.ensures.rows in
    let f = rw c.unwrap_or-list.ensures at c.in_ok-faces.ensures.faces in
    mesh_is c.args.header c.requires.header (map tokens_of c.args.lines.now) (map tokens_of c.read_points.new.lines) c.into_vec.result.items c.in_ok-cells.cells.items c.into_vec.ensures r c.args.count c.in_ok-faces.faces.items (map tokens_of c.read_faces.new.lines) c.requires.faces f c.new.result c.in_ok-mesh.mesh c.in_ok-read_end.ensures c.new.ensures c.in_ok-mesh.was

use Rattle.std.proofs.Common.{map}
use Rattle.std.proofs.lemmas.Result.{err_from_is_err_and}
use Rattle.mesh_model.specs.declared.geometries.Geometry.TheVariants.{Cloud}
use Rattle.ply_text.specs.Tokens.{tokens_of}
use Rattle.ply_mesh.proofs.BodySteps.{rows_fault, cloud_from}
use Rattle.ply_mesh.proofs.Finish.{cloud_rows, cloud_never, cloud_is}
use Rattle.ply_mesh.proofs.reading.read_cloud.Goals as goal

pub returns-in_err-cells : goal.returns-in_err-cells
returns-in_err-cells c =
    let p = err_from_is_err_and c.from_residual.result c.from_residual.ensures.1 in
    rw (p.1, p.2) (rows_fault c.args.header (map tokens_of c.args.lines.now) _ c.in_err-cells.ensures.rows)

pub returns-in_err-read_end : goal.returns-in_err-read_end
returns-in_err-read_end c =
    let h = c.args.header in
    let p = err_from_is_err_and c.from_residual-in_err-read_end.result c.from_residual-in_err-read_end.ensures.1 in
    let r = c.in_ok-cells.ensures.rows in
    let e = cloud_from h (map tokens_of c.args.lines.now) (map tokens_of c.read_points.new.lines) r.0 c.requires.faces r.1 in
    rw (p.1, p.2, e) (c.in_err-read_end.ensures (Cloud (record { heads = h.heads; points = r.0 })))

pub new-requires : goal.new-requires
new-requires c =
    let r = c.in_ok-cells.ensures.rows in
    cloud_rows c.args.header c.requires.header (map tokens_of c.args.lines.now) (map tokens_of c.read_points.new.lines) c.into_vec.result.items c.in_ok-cells.cells.items c.into_vec.ensures r

pub returns-in_err-cloud : goal.returns-in_err-cloud
returns-in_err-cloud c =
    let r = c.in_ok-cells.ensures.rows in
    absurd (cloud_never c.args.header c.requires.header (map tokens_of c.args.lines.now) (map tokens_of c.read_points.new.lines) c.into_vec.result.items c.in_ok-cells.cells.items c.into_vec.ensures r c.new.result _ c.new.ensures c.in_err-cloud.was)

pub returns : goal.returns
returns c =
    let r = c.in_ok-cells.ensures.rows in
    cloud_is c.args.header c.requires.header (map tokens_of c.args.lines.now) (map tokens_of c.read_points.new.lines) c.into_vec.result.items c.in_ok-cells.cells.items c.into_vec.ensures r c.new.result c.in_ok-cloud.cloud c.requires.faces c.in_ok-read_end.ensures c.new.ensures c.in_ok-cloud.was

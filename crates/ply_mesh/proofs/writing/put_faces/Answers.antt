use Rattle.std.proofs.Common.{◌≡◌, ◌+◌, ◌<◌, ◌≤◌, ◌++◌, length, drop, take, rules, arith}
use Rattle.ply_mesh.specs.Text.{text_of, face_lines}
use Rattle.ply_mesh.proofs.RowTexts.{face_more, no_more_faces}
use Rattle.ply_mesh.proofs.Printing.{line_more, line_none, no_line}
use Rattle.ply_mesh.proofs.writing.put_faces.Goals as goal

pub loop-f-preserved : goal.loop-f-preserved
loop-f-preserved g c =
    let faces = c.args.mesh.now.faces in
    let f = c.loop-f.f in
    let below : f < length faces = omega (arith, c.face_count-f-end.ensures.value) in
    let three : length c.face-face.result ≡ 3 = search rules in
    let bytes = take c.args.before c.args.chunk.now ++ text_of (face_lines faces) in
    let rest = text_of (face_lines (drop (f + 1) faces)) in (
      line_more _ _ _ bytes _ _ _ _ _ rest c.loop-f.invariant.0 c.in_ok-from.ensures.text c.put_face-held.ensures.text (face_more faces f c.face-face.result below c.face-face.ensures.face three),
      omega (arith, c.in_ok-from.ensures.room, c.put_face-held.ensures.few),
      omega (arith, c.loop-f.invariant.2, c.in_ok-from.ensures.cause.kept),
    )

pub returns-in_err-from-clause-text : goal.returns-in_err-from-clause-text
returns-in_err-from-clause-text g c = line_none _ _ _ _ _ _ _ c.from_residual.result c.from_residual.ensures.0 c.loop-f.invariant.0 c.in_err-from.ensures.text

pub returns-clause-text : goal.returns-clause-text
returns-clause-text g c =
    let faces = c.args.mesh.now.faces in
    let none : length faces ≤ c.loop-f.f = omega (arith, c.face_count-f-end.ensures.value) in
    no_line _ _ (take c.args.before c.args.chunk.now ++ text_of (face_lines faces)) _ _ (no_more_faces _ faces c.loop-f.f none) c.loop-f.invariant.0

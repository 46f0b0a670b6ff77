use Rattle.std.proofs.Common.{◌≡◌, ◌∷◌, [], Some, pos, refl, rules}
use Rattle.ply_mesh.specs.Body.{points_numbered}
use Rattle.ply_mesh.proofs.FaceSteps.{face_whole}
use Rattle.ply_mesh.proofs.face_lines.face_in_place.Goals as goal

pub returns-in-Some : goal.returns-in-Some
returns-in-Some c =
    let line = c.args.line.now in
    let r0 = c.of_type-counts in
    let r1 = c.of_type-indices in
    let v = c.in_ok-count in
    let a = c.in_ok-a in
    let b = c.in_ok-b in
    let d = c.in_ok-c in
    let made : points_numbered c.args.points (a.a.0 ∷ b.b.0 ∷ d.c.0 ∷ []) ≡ Some c.in-Some.face = search rules in
    let three : v.count.0 ≡ pos 3 = search rules in
    face_whole c.args.list c.args.points line v.count.1 a.a.1 b.b.1 d.c.1 r0.result r1.result v.count.0 a.a.0 b.b.0 d.c.0 c.in-Some.face r0.ensures r1.ensures three
    v.ensures.first v.ensures.bounds a.ensures.first a.ensures.bounds b.ensures.first b.ensures.bounds d.ensures.first d.ensures.bounds (c.if-not-is_at_end.ensures.none refl) made

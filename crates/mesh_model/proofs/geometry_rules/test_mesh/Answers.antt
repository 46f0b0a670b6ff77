use Rattle.std.proofs.Common.{◌∙◌, [], ◌∷◌, sym}
use Rattle.mesh_model.specs.Parts.{faces_fault, index_fault}
use Rattle.attr_heads.proofs.FirstFaults.{first_fault-none, faults_alone}
use Rattle.mesh_model.proofs.Made.{IsMesh-made}
use Rattle.mesh_model.proofs.geometry_rules.test_mesh.Goals as goal

pub returns-clause-sound : goal.returns-clause-sound
returns-clause-sound c =
    let heads = c.args.heads.now in
    let faces = c.args.faces.now in
    let shape = c.in_ok-shape.shape in
    let ok = c.in_ok-shape.ensures in
    let tests = first_fault-none (faces_fault faces) (index_fault shape.count faces ∷ []) c.in_ok-test_faces.ensures.tested in
    IsMesh-made heads c.args.points.now shape.width shape.count faces ok.stored ok.passes.0 ok.passes.1 tests.0 (sym (faults_alone (index_fault shape.count faces)) ∙ tests.1)
    c.in_ok-test_typed.ensures c.test_faces.ensures.three

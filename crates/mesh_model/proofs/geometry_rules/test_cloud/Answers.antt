use Rattle.mesh_model.proofs.Made.{ArePoints-made}
use Rattle.mesh_model.proofs.geometry_rules.test_cloud.Goals as goal

pub returns-clause-sound : goal.returns-clause-sound
returns-clause-sound c =
    let shape = c.in_ok-shape.shape in
    let ok = c.in_ok-shape.ensures in
    ArePoints-made c.args.heads.now c.args.points.now shape.width shape.count ok.stored ok.passes.0 ok.passes.1 c.in_ok-test_typed.ensures

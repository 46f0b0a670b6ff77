use Rattle.std.proofs.Common.{◌∙◌}
use Rattle.drc_gen.proofs.Meshes.{generated-made}
use Rattle.drc_gen.proofs.generating.generate.Goals as goal

pub sound_mesh-requires : goal.sound_mesh-requires
sound_mesh-requires c =
    let is = generated-made c.args.kind c.args.size c.args.seed _ _ _ (c.requires.least, c.requires.most) c.in_ok-heads.ensures c.in_ok-points.ensures c.in_ok-faces.ensures in
    record { rows = is.rows; typed = is.typed; sound = is.sound }

pub returns : goal.returns
returns c =
    let is = generated-made c.args.kind c.args.size c.args.seed _ _ _ (c.requires.least, c.requires.most) c.in_ok-heads.ensures c.in_ok-points.ensures c.in_ok-faces.ensures in
    c.sound_mesh.ensures ∙ is.mesh

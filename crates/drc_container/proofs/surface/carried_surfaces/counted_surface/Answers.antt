-- What has the pairs of a surface under new numbers is the surface that the definition names.
use Rattle.std.proofs.lemmas.Result.{IfOk-weaker}
use Rattle.corner_table.specs.Table.{gluing_of}
use Rattle.pairing.proofs.CarriedPairs.{carried_is_the_one}
use Rattle.drc_container.proofs.surface.carried_surfaces.counted_surface.Goals as goal

pub returns-clause-pairs : goal.returns-clause-pairs
returns-clause-pairs g c =
    let faces = c.args.sides.now.faces in
    let pairs = gluing_of c.args.sides.now in
    let one = carried_is_the_one faces pairs c.args.rows.now c.face_count-faces.ensures.gluing c.requires.rows in
    IfOk-weaker c.renumbered.result _ _ (λ t is. one.1 (gluing_of t) is) c.renumbered.ensures.carried

use Rattle.texture_values.proofs.Rounds.{corner-within}
use Rattle.texture_values.proofs.corners.corner_of.Goals as goal

pub returns-clause-within : goal.returns-clause-within
returns-clause-within c =
    let on = c.args.on.now in
    rw c.as_slice.ensures.items (corner-within on.sides.now on.classes.now.of_corner on.order.now c.args.e 0 c.requires.over c.requires.entry)

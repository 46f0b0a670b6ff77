-- The lists are those that the face across is read from.
use Rattle.std.proofs.Common.{map}
use Rattle.corner_table.specs.Sides.{side_at}
use Rattle.predict.proofs.surface.Surface.at_corner.Goals as goal

pub returns-clause-face : goal.returns-clause-face
returns-clause-face c = c.face_across.ensures.face (map side_at c.args.self.now.corners.now)

use Rattle.octahedron.proofs.Turning.{low_is}
use Rattle.octahedron.proofs.squares.Square.frame.Goals as goal

pub returns-clause-low : goal.returns-clause-low
returns-clause-low c = low_is c.flipped_if-inner.result c.turned.result c.quarters_for-quarters.result c.quarters_for-quarters.ensures.value c.turned.ensures.value

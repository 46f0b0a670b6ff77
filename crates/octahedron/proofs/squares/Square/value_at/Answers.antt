use Rattle.std.proofs.Common.{◌≡◌, ◌∙◌, arith}
use Rattle.std.proofs.lemmas.Int.{ints}
use Rattle.octahedron.specs.Square.{value_at}
use Rattle.octahedron.proofs.Flipping.{point-same}
use Rattle.octahedron.proofs.Centring.{IsValue-value_at}
use Rattle.octahedron.proofs.squares.Square.value_at.Goals as goal
use Rattle.octahedron.proofs.squares.Square.value_at.Goals.{After-point_at}

is : (c : After-point_at) → c.point_at.result ≡ value_at c.args.self.centre c.args.p
is c = c.point_at.ensures ∙ point-same _ _ _ _ (omega (arith, ints)) (omega (arith, ints))

pub returns-clause-value : goal.returns-clause-value
returns-clause-value c = is c

pub returns-clause-within : goal.returns-clause-within
returns-clause-within c = IsValue-value_at c.args.self.centre c.args.p c.point_at.result c.requires (is c)

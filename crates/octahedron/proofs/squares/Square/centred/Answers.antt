use Rattle.std.proofs.Common.{◌≡◌, ◌∙◌, arith}
use Rattle.std.proofs.lemmas.Int.{ints}
use Rattle.octahedron.specs.Square.{centred}
use Rattle.octahedron.proofs.Flipping.{point-same}
use Rattle.octahedron.proofs.Centring.{IsIn-centred}
use Rattle.octahedron.proofs.squares.Square.centred.Goals as goal
use Rattle.octahedron.proofs.squares.Square.centred.Goals.{After-point_at}

is : (c : After-point_at) → c.point_at.result ≡ centred c.args.self.centre c.args.v
is c = c.point_at.ensures ∙ point-same _ _ _ _ (omega (arith, ints)) (omega (arith, ints))

pub returns-clause-point : goal.returns-clause-point
returns-clause-point c = is c

pub returns-clause-inside : goal.returns-clause-inside
returns-clause-inside c = IsIn-centred c.args.self.centre c.args.v c.point_at.result c.requires (is c)

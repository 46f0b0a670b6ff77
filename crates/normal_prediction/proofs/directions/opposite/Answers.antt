use Rattle.std.proofs.Common.{◌≡◌, arith}
use Rattle.std.proofs.lemmas.Int.{ints}
use Rattle.normal_prediction.specs.Directions.{opposite}
use Rattle.normal_prediction.proofs.Scaling.{opposite-is, IsOnOctahedron-opposite}
use Rattle.normal_prediction.proofs.directions.opposite.Goals as goal
use Rattle.normal_prediction.proofs.directions.opposite.Goals.{After-direction_at}

is : (c : After-direction_at) → c.direction_at.result ≡ opposite c.args.v
is c = opposite-is c.args.v c.direction_at.result _ _ _ c.direction_at.ensures (omega (arith, ints)) (omega (arith, ints)) (omega (arith, ints))

pub returns-clause-value : goal.returns-clause-value
returns-clause-value c = is c

pub returns-clause-on : goal.returns-clause-on
returns-clause-on c = rw (is c) (IsOnOctahedron-opposite c.args.square.centre c.args.v c.requires)

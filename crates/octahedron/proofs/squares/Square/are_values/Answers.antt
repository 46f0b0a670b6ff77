use Rattle.std.proofs.Common.{rules}
use Rattle.std.specs.Prelude.{◌↔◌, IsTrue}
use Rattle.octahedron.specs.Pairs.{AreCoordinates}
use Rattle.octahedron.proofs.Listed.{AreValues-coordinates}
use Rattle.octahedron.proofs.squares.Square.are_values.Goals as goal

pub returns-clause-values : goal.returns-clause-values
returns-clause-values c true =
    let exact : IsTrue c.all.result ↔ AreCoordinates c.args.self.centre c.args.integers.now = search rules in
    AreValues-coordinates c.args.self.centre c.args.integers.now (exact.0 true)

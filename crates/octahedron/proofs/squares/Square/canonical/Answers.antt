use Rattle.std.proofs.Common.{◌≡◌, ◌∙◌, ap}
use Rattle.octahedron.specs.Square.{flip, canonical}
use Rattle.octahedron.proofs.Flipping.{flip-twice}
use Rattle.octahedron.proofs.Spelling.{canonical_is}
use Rattle.octahedron.proofs.squares.Square.canonical.Goals as goal
use Rattle.octahedron.proofs.squares.Square.canonical.Goals.{After-flip}

value : (c : After-flip) → c.flip.result ≡ canonical c.args.self.centre c.args.p
value c =
    c.flip.ensures.value ∙ ap (flip c.args.self.centre) c.flip-once.ensures.value ∙ flip-twice c.args.self.centre c.args.p c.requires c.args.self.some

pub returns-clause-value : goal.returns-clause-value
returns-clause-value c = value c

pub returns-clause-canonical : goal.returns-clause-canonical
returns-clause-canonical c = canonical_is c.args.self.centre c.args.p c.flip.result c.args.self.some c.requires (value c)

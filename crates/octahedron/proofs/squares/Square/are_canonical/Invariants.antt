-- The values up to this entry are in canonical spelling.
use Rattle.std.proofs.Common.{take}
use Rattle.std.specs.Prelude.{All}
use Rattle.octahedron.specs.Square.{IsCanonicalValue}
use Rattle.octahedron.specs.Pairs.{pairs_of}
use Rattle.octahedron.proofs.squares.Square.are_canonical.Given as goal

abbrev pub invariant-loop-e : goal.invariant-loop-e
invariant-loop-e l = All (IsCanonicalValue l.self.centre) (take l.e (pairs_of l.integers))

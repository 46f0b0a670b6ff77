use Rattle.octahedron.proofs.Flipping.{flip-twice}
use Rattle.octahedron.proofs.Spelling.{canonical-twice}
use Rattle.octahedron.proofs.laws.flip_twice.Goals as goal

pub returns-clause-canonical : goal.returns-clause-canonical
returns-clause-canonical c = λ k p hc inside. flip-twice k p inside hc

pub returns-clause-stays : goal.returns-clause-stays
returns-clause-stays c = λ k p hc inside. canonical-twice k p hc inside

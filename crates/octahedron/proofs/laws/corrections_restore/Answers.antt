use Rattle.std.proofs.Common.{[]}
use Rattle.std.proofs.lemmas.List.Elements.{All-nil}
use Rattle.octahedron.specs.Square.{IsValue}
use Rattle.octahedron.proofs.Behind.{behind, before-in}
use Rattle.octahedron.proofs.laws.corrections_restore.Goals as goal

pub returns-clause-restore : goal.returns-clause-restore
returns-clause-restore c = λ predicted k values hc hp hv hk. behind predicted k [] values hc hp (All-nil (IsValue k)) hv hk

pub returns-clause-difference : goal.returns-clause-difference
returns-clause-difference c = λ k hc. before-in k hc

-- The machine takes the symbols of each surface.
use Rattle.std.proofs.Common.{refl}
use Rattle.eb_machine.specs.Machine.{take_symbols}
use Rattle.eb_valence.proofs.Examples.{takes_tetrahedron, takes_torus}
use Rattle.tests_surface.proofs.eb_valence_tests.notes.Goals as goal

pub contexts_of-requires-clause-takes : goal.contexts_of-requires-clause-takes
unfolding take_symbols
contexts_of-requires-clause-takes g c = (_, refl)

pub contexts_of-requires-2-clause-takes : goal.contexts_of-requires-2-clause-takes
contexts_of-requires-2-clause-takes g c = takes_tetrahedron

pub contexts_of-requires-3-clause-takes : goal.contexts_of-requires-3-clause-takes
contexts_of-requires-3-clause-takes g c = takes_torus

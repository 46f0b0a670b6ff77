use Rattle.std.proofs.Common.{length}
use Rattle.tests_surface.proofs.Entries.{entries_below}
use Rattle.tests_surface.proofs.octahedral_values_tests.summed.Goals as goal

pub normals_round-requires-clause-entries : goal.normals_round-requires-clause-entries
normals_round-requires-clause-entries c = entries_below (length c.args.places.now) c.args.classes.now c.args.entry_of_class.now c.requires.classes c.requires.entries

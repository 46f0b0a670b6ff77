use Rattle.std.proofs.Common.{length}
use Rattle.tests_surface.proofs.Entries.{entries_below}
use Rattle.tests_surface.proofs.normal_prediction_tests.summed.Goals as goal

pub add_normals-requires-clause-entries : goal.add_normals-requires-clause-entries
add_normals-requires-clause-entries c = entries_below (length c.args.places.now) c.args.classes.now c.args.entry_of_class.now c.requires.classes c.requires.entries

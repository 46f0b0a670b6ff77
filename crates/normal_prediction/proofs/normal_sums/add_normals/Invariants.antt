use Rattle.std.proofs.Common.{◌*◌}
use Rattle.corner_table.specs.Ordered.{entries_by}
use Rattle.normal_prediction.specs.NormalSums.{AreSums}
use Rattle.normal_prediction.proofs.normal_sums.add_normals.Given as goal

abbrev pub invariant-loop-f : goal.invariant-loop-f
invariant-loop-f l = AreSums (entries_by l.classes l.entry_of_class) l.places l.sums (3 * l.f)

-- As many faces as turns.
use Rattle.std.proofs.Common.{◌≡◌}
use Rattle.corner_table.specs.Table.{room_of}
use Rattle.tests_surface.proofs.corner_table_tests.add_faces.Given as goal

abbrev pub invariant-loop : goal.invariant-loop
invariant-loop g l = (l.table.faces ≡ l.counter) × (room_of l.table ≡ l.faces)

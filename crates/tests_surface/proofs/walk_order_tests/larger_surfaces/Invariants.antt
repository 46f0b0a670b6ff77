-- Each call counts in the ledger of its own blank.
use Rattle.tests_surface.proofs.walk_order_tests.larger_surfaces.Given as goal

abbrev pub ghosts-has_orders : goal.ghosts-has_orders
ghosts-has_orders g a = record { name = a.blank.name; parts = a.blank.parts }

-- The calls count in the ledger of their blank.
use Rattle.worked_surfaces.proofs.orders.order_of.Given as goal

abbrev pub ghosts-order_by : goal.ghosts-order_by
ghosts-order_by a = record { name = a.blank.name; parts = a.blank.parts }

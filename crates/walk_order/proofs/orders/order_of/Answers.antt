-- The table, the entries and the faces are an order.
use Rattle.walk_order.proofs.Ordered.{order_is, faces_are}
use Rattle.walk_order.proofs.orders.order_of.Goals as goal

pub returns-clause-classes : goal.returns-clause-classes
returns-clause-classes c = order_is c.args.s.now c.args.marks c.requires.surface c.requires.stored c.requires.all _ c.from_vec.ensures c.from_vec-2.ensures

pub returns-clause-faces : goal.returns-clause-faces
returns-clause-faces c = faces_are c.args.s.now c.args.marks c.requires.surface c.requires.stored c.requires.all _ c.from_vec.ensures c.from_vec-2.ensures c.from_vec-3.ensures

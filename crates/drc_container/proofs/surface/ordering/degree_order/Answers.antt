use Rattle.drc_container.proofs.lemmas.surface.Orders.{ordered-degree}
use Rattle.drc_container.proofs.surface.ordering.degree_order.Goals as goal

pub returns-clause-ordered : goal.returns-clause-ordered
returns-clause-ordered c =
    ordered-degree c.args.t.now _ _ _ c.in_ok-order.order c.face_count-faces.ensures.gluing c.requires c.in_ok-order.ensures.classes c.in_ok-order.ensures.entries

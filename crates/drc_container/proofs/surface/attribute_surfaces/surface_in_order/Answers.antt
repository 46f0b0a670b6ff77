use Rattle.drc_container.proofs.lemmas.surface.AttributeSurfaces.{few-flags}
use Rattle.drc_container.proofs.surface.attribute_surfaces.surface_in_order.Goals as goal

pub invariant_of-result : goal.invariant_of-result
invariant_of-result c = record {
  over = c.in_ok-order.ensures.over;
  is_ordered = c.in_ok-order.ensures.is;
  few_flags =
      few-flags c.args.degree c.args.sides c.in_ok-classes.classes.of_corner c.in_ok-order.order c.face_count-faces.ensures.gluing c.in_ok-order.ensures.is
      c.in_ok-order.ensures.ordered;
  few_entries = c.in_ok-order.ensures.few;
}

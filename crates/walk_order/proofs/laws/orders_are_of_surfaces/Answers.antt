use Rattle.walk_order.proofs.Labels.{surface_is_labelled, labels_are_one}
use Rattle.walk_order.proofs.OfSurface.{orders_are_of_surface, entries_are_of_surface}
use Rattle.walk_order.proofs.laws.orders_are_of_surfaces.Goals as goal

pub returns : goal.returns
returns c = record { labelled = surface_is_labelled; one = labels_are_one; orders = orders_are_of_surface; entries = entries_are_of_surface }

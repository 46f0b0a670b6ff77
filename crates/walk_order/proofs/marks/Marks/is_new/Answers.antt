-- What is kept for the class shows whether it is new.
use Rattle.walk_order.proofs.Stored.{new_told}
use Rattle.walk_order.proofs.marks.Marks.is_new.Goals as goal

pub returns : goal.returns
returns c = new_told c.requires.surface c.requires.stored c.args.corner _ _ c.requires.corner c.class_of.ensures.class c.mark_of.ensures

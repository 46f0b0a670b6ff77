-- What was kept for the class shows whether the walk goes right alone.
use Rattle.walk_order.proofs.Stored.{alone_told}
use Rattle.walk_order.proofs.marks.Marks.enter.Goals as goal

pub returns-clause-alone : goal.returns-clause-alone
returns-clause-alone c = alone_told c.requires.surface c.requires.stored c.args.corner c.take_entry-kept.result c.requires.corner c.take_entry-kept.ensures.kept

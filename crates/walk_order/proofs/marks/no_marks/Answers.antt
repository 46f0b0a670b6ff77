-- No class has an entry.
use Rattle.walk_order.proofs.Stored.{nothing_stored}
use Rattle.walk_order.proofs.marks.no_marks.Goals as goal

pub returns-clause-stored : goal.returns-clause-stored
returns-clause-stored c = nothing_stored _ _ c.in_ok-visited.ensures.len c.in_ok-entries.ensures.items c.in_ok-entry_of_class.ensures c.in_ok-faces_across.ensures.items c.in_ok-entries.ensures.capacity c.in_ok-faces_across.ensures.capacity

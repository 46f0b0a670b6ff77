-- What is kept for a class shows whether it is new.
use Rattle.std.proofs.Common.{sym, ◌∙◌}
use Rattle.std.proofs.lemmas.Bool.{cond-true}
use Rattle.walk_order.proofs.Stored.{class_new}
use Rattle.walk_order.proofs.marks.Marks.take_entry.Goals as goal

pub give_entry-requires-clause-new : goal.give_entry-requires-clause-new
give_entry-requires-clause-new c = class_new c.requires.surface c.requires.stored _ _ _ c.requires.corner c.class_of-class.ensures.class c.mark_of-kept.ensures c.if-kept-ge-NEW_AT_END.true

pub returns-then-kept-ge-NEW_AT_END-clause-entries : goal.returns-then-kept-ge-NEW_AT_END-clause-entries
returns-then-kept-ge-NEW_AT_END-clause-entries c =
    c.give_entry.ensures.entries
    ∙ sym (cond-true _ _ _ (class_new c.requires.surface c.requires.stored _ _ _ c.requires.corner c.class_of-class.ensures.class c.mark_of-kept.ensures c.if-kept-ge-NEW_AT_END.true))

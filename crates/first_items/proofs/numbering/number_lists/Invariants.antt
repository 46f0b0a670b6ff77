-- The items of the lists so far are numbered, the others have their second entries.
use Rattle.first_items.specs.FirstItems.{AreNumberedBelow, AreSecondsFrom, AreKept}
use Rattle.first_items.proofs.numbering.number_lists.Given as goal

abbrev pub invariant-loop-list : goal.invariant-loop-list
invariant-loop-list g l = record {
  kept : AreKept l.firsts g.seconds l.kept l.list;
  numbered : AreNumberedBelow l.firsts g.seconds l.numbers l.list;
  rest : AreSecondsFrom l.firsts g.seconds l.numbers l.list;
}

abbrev pub ghost-number_list : goal.ghost-number_list
ghost-number_list g a = g.seconds

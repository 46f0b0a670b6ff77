-- As many entries as classes.
use Rattle.std.proofs.Common.{◌≡◌, length}
use Rattle.worked_surfaces.proofs.orders.entries_of_classes.Given as goal

abbrev pub invariant-loop-e : goal.invariant-loop-e
invariant-loop-e l = length l.entries.items ≡ l.classes.count

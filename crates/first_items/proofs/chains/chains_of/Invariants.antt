-- The sides so far, from the last one back, are linked.
use Rattle.std.proofs.Common.{◌-◌, length}
use Rattle.first_items.specs.Chains.{AreLinked, AreFirsts}
use Rattle.first_items.proofs.chains.chains_of.Given as goal

abbrev pub invariant-loop-done : goal.invariant-loop-done
invariant-loop-done l = record {
  linked : AreLinked l.classes l.nexts.items (length l.classes - l.done);
  firsts : AreFirsts l.classes l.firsts.items l.count (length l.classes - l.done);
}

use Rattle.std.proofs.Common.{◌≡◌, ◌≤◌, length, take}
use Rattle.predict.specs.Multi.{kept}
use Rattle.predict.proofs.flags.keep.Given as goal

abbrev pub invariant-loop-i : goal.invariant-loop-i
invariant-loop-i l = record {
  few : length l.faces.items ≤ l.i;
  faces : l.faces.items ≡ kept (take l.i l.flags) (take l.i l.found);
}

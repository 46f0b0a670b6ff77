use Rattle.std.proofs.Common.{◌≡◌, map, take}
use Rattle.predict.specs.Multi.{is_left_out}
use Rattle.predict.proofs.flags.marks_of.Given as goal

abbrev pub invariant-loop-i : goal.invariant-loop-i
invariant-loop-i l = l.marks.items ≡ map (is_left_out l.comps l.v l.e) (take l.i l.found)

-- The sides so far have had their turns.
use Rattle.std.proofs.Common.{◌≡◌, ◌*◌, length}
use Rattle.corner_table.specs.Table.{glued_in}
use Rattle.pairing.specs.Pairing.{paired}
use Rattle.pairing.specs.Positions.{same_in}
use Rattle.pairing.specs.Turns.{IsUpTo}
use Rattle.pairing.proofs.surfaces.paired_list.Given as goal

abbrev pub invariant-loop-y : goal.invariant-loop-y
invariant-loop-y l = record {
  each : length l.pairs.items ≡ 3 * l.faces;
  pairs : glued_in l.pairs.items ≡ paired (same_in l.sides.thirds.items) l.y;
  up_to : IsUpTo l.sides.thirds.items l.sides.classes.items l.count (glued_in l.pairs.items) l.kept.taken.items l.kept.firsts.items l.kept.others.items;
}

-- The sides so far have their classes, and the others their first sides.
use Rattle.std.proofs.Common.{◌≡◌, ℕ, ◌<◌, ◌≤◌, ◌/◌, length, get_or}
use Rattle.corner_table.specs.Sides.{next, side_at}
use Rattle.pairing.specs.Positions.{position_in}
use Rattle.pairing.specs.Classes.{class_at, AreEdges}
use Rattle.pairing.proofs.classes.classes_of.Given as goal

abbrev pub invariant-loop-x : goal.invariant-loop-x
invariant-loop-x l = record {
  each : length l.of.items ≡ length l.initial.of.items;
  counted : l.edges ≤ l.x;
  edges_are : AreEdges l.initial.of.items l.of.items l.edges l.x;
  class_is : (k : ℕ) → k < l.x → get_or l.of.items k 0 ≡ class_at (get_or l.of.items k 0 / 2) (position_in l.numbers (next (side_at k))) (get_or l.lows.items k 0);
  rest : (k : ℕ) → l.x ≤ k → get_or l.of.items k 0 ≡ get_or l.initial.of.items k 0;
}

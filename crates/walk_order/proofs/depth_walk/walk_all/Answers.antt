-- Each face is walked from in its turn.
use Rattle.std.proofs.Common.{sym, ◌∙◌, arith}
use Rattle.walk_order.specs.Stored.{marked_walk}
use Rattle.walk_order.proofs.Walking.{one_walked, walked_nothing}
use Rattle.walk_order.proofs.depth_walk.walk_all.Goals as goal

pub loop-face-init : goal.loop-face-init
loop-face-init c = record {
  stored = c.in_ok-marks.ensures.stored;
  empty = omega (arith, c.new-stack.ensures.len);
  walk = c.in_ok-marks.ensures.walk ∙ sym (walked_nothing _ _ _ _);
}

pub loop-face-preserved : goal.loop-face-preserved
loop-face-preserved c = record {
  stored = c.in_ok-walk_from.ensures.stored;
  empty = c.in_ok-walk_from.ensures.empty;
  walk = one_walked _ _ _ _ _ (marked_walk c.loop-face.marks) _ c.loop-face.invariant.walk c.in_ok-walk_from.ensures.walk;
}
